use Rattle.std.proofs.Common.{◌≡◌, ◌+◌, length}
use Rattle.pc_threads.specs.Inner.Shares.{idle}
use Rattle.pc_threads.proofs.runner.threads.start_all.Given as goal

-- so many agents run
abbrev pub invariant-loop-cpu : goal.invariant-loop-cpu
invariant-loop-cpu g l =
    (l.pool ≡ idle l.pool.agents)
    × (l.pool.agents + l.cpu ≡ l.initial.pool.agents)
    × (length l.handles.items ≡ length l.initial.handles.items + l.cpu)
