use Rattle.std.proofs.Common.{◌≡◌, ◌<◌, ℕ, true, length}
use Rattle.pc_kernel.specs.Reads.{is_waiting, seen}
use Rattle.pc_lab.specs.Waiters.{wait_in}
use Rattle.pc_lab.specs.Waiting.{waits_below}
use Rattle.pc_lab.proofs.waits.Waits.unended.Given as goal

abbrev pub invariant-loop-name : goal.invariant-loop-name
invariant-loop-name l = (l.waits.items ≡ waits_below (wait_in l.self.waiters.items l.tick) (seen l.kernel) l.name)
    × ((t : ℕ) → t < l.name → is_waiting (seen l.kernel) t ≡ true → t < length l.self.waiters.items)
