use Rattle.std.proofs.Common.{◌≡◌, All, length}
use Rattle.pc_lab.specs.Times.{IsKept}
use Rattle.pc_lab.proofs.times.Times.want.Given as goal

abbrev pub invariant-loop : goal.invariant-loop
invariant-loop l = All (IsKept l.now) l.self.accounts.items × (length l.self.accounts.items ≡ length l.fn.self.accounts.items)
