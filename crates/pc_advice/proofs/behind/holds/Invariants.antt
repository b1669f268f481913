use Rattle.std.proofs.Common.{◌≡◌, ◌≤◌, take}
use Rattle.pc_advice.specs.Behind.{ever_held}
use Rattle.pc_advice.specs.declared.behind.TheConstants.{MOST_HELD}
use Rattle.pc_advice.proofs.Counted.{Holds}
use Rattle.pc_advice.proofs.behind.holds.Given as goal

abbrev pub invariant-loop-step : goal.invariant-loop-step
invariant-loop-step l =
    l.fn.first.sent ≤ l.fn.first.all → ever_held l.fn.first l.queue l.steps ≤ MOST_HELD →
    Holds l.fn.first l.queue (take l.step-index l.steps) l.items
