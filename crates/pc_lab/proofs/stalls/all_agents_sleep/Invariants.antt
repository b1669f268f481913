use Rattle.std.proofs.Common.{◌≡◌, ◌<◌, ℕ, true}
use Rattle.pc_kernel.specs.Reads.{is_asleep, seen}
use Rattle.pc_lab.proofs.stalls.all_agents_sleep.Given as goal

abbrev pub invariant-loop-cpu : goal.invariant-loop-cpu
invariant-loop-cpu l = (c : ℕ) → c < l.cpu → is_asleep (seen l.kernel) c ≡ true
