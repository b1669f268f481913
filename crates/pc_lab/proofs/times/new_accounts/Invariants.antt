use Rattle.std.proofs.Common.{◌≡◌, All, length}
use Rattle.pc_lab.specs.Times.{IsKept}
use Rattle.pc_lab.proofs.times.new_accounts.Given as goal

abbrev pub invariant-loop : goal.invariant-loop
invariant-loop l = All (IsKept 0) l.accounts.items × (length l.accounts.items ≡ l.counter)
