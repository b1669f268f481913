use Rattle.std.proofs.Common.{◌≡◌, ◌≤◌, ◌*◌, take, sum_by}
use Rattle.pc_lab.proofs.account.ran_in.Given as goal

abbrev pub invariant-loop-time : goal.invariant-loop-time
invariant-loop-time l = record { same : l.sum ≡ sum_by (λ time. time.ran) (take l.time-index l.times); low : l.sum ≤ 18446744073709551615 * l.time-index }
