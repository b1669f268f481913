use Rattle.std.proofs.Common.{◌≡◌, All, length}
use Rattle.pc_lab.specs.Times.{IsWhole}
use Rattle.pc_lab.proofs.times.Times.up_to.Given as goal

abbrev pub invariant-loop-account : goal.invariant-loop-account
invariant-loop-account l = All (IsWhole l.now) l.times.items × (length l.times.items ≡ l.account-index)
