use Rattle.std.proofs.Common.{ℕ, ◌≡◌, ◌<◌, ◌≤◌, ◌-◌, ◌^◌, false}
use Rattle.pc_run_queue.specs.Runs.{runs_in}
use Rattle.pc_agent.specs.PlainAgent.{is_wanted}
use Rattle.pc_agent.proofs.shortcuts.next_known.Given as goal

-- no thread is wanted that was passed
abbrev pub invariant-loop-name : goal.invariant-loop-name
invariant-loop-name l = (l.from ≤ l.start) × ((t : ℕ) → l.from ≤ t → t < l.start → is_wanted (runs_in l.view l.cpu) l.list t ≡ false)

abbrev pub decreases-loop-name : goal.decreases-loop-name
decreases-loop-name l = 2 ^ 32 - l.start
