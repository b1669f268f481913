use Rattle.std.proofs.Common.{◌≡◌, ◌≤◌, ◌*◌, take, sum_by}
use Rattle.pc_lab.proofs.account.ticks_of.Given as goal

abbrev pub invariant-loop-step : goal.invariant-loop-step
invariant-loop-step l = record { same : l.sum ≡ sum_by (λ step. step.ticks) (take l.step-index l.steps); low : l.sum ≤ 4294967295 * l.step-index }
