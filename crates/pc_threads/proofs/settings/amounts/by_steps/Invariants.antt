use Rattle.std.proofs.Common.{◌≡◌, ◌+◌, ◌≤◌, ◌*◌, ◌-◌, ◌^◌, take, sum_by}
use Rattle.pc_threads.specs.Inner.Driving.{told_in}
use Rattle.pc_threads.specs.Settings.{ticks}
use Rattle.pc_threads.proofs.settings.amounts.by_steps.Given as goal

-- the thread was created, and its first steps posted one or two messages each
abbrev pub invariant-loop-step : goal.invariant-loop-step
invariant-loop-step l = record {
  messages : l.messages ≡ 1 + sum_by told_in (take l.step-index l.steps);
  ran : l.ran ≡ sum_by ticks (take l.step-index l.steps);
  few : l.messages ≤ 1 + 2 * l.step-index;
  backed : l.ran ≤ l.step-index * (2 ^ 32 - 1);
}
