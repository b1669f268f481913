use Rattle.std.proofs.Common.{◌≡◌, ◌<◌, ◌⊎◌, ℕ, true}
use Rattle.pc_kernel.specs.Reads.{is_waiting, seen}
use Rattle.pc_lab.specs.Stalling.{HasDied}
use Rattle.pc_lab.proofs.stalls.each_is_dead_or_waits.Given as goal

abbrev pub invariant-loop-name : goal.invariant-loop-name
invariant-loop-name l = (t : ℕ) → t < l.name → HasDied (seen l.kernel) t ⊎ (is_waiting (seen l.kernel) t ≡ true)
