use Rattle.std.proofs.Common.{◌≡◌, ◌+◌, map}
use Rattle.pc_threads.specs.Inner.Driving.{left_of, one}
use Rattle.pc_threads.specs.Settings.{plan_of}
use Rattle.pc_threads.proofs.Steps.{IsOnTheWay}
use Rattle.pc_threads.proofs.runner.driver.drive.Given as goal

-- so many steps were done, and what they come to was posted
abbrev pub invariant-loop-step : goal.invariant-loop-step
invariant-loop-step g l =
    (left_of one (map plan_of l.plans) l.progress.done.items + l._step ≡ l.steps)
    × IsOnTheWay (map plan_of l.plans) l.initial.progress.done.items l.progress.done.items l.initial.purse l.purse
