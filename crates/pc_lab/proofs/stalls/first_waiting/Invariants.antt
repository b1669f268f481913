use Rattle.std.proofs.Common.{◌≡◌, ◌<◌, ℕ, false}
use Rattle.pc_kernel.specs.Reads.{is_waiting, seen}
use Rattle.pc_lab.proofs.stalls.first_waiting.Given as goal

abbrev pub invariant-loop-name : goal.invariant-loop-name
invariant-loop-name l = (t : ℕ) → t < l.name → is_waiting (seen l.kernel) t ≡ false
