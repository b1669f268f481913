use Rattle.std.proofs.Common.{◌≡◌, ◌+◌, length, vec_len}
use Rattle.pc_threads.specs.Inner.Shares.{HasDone}
use Rattle.pc_threads.proofs.runner.threads.join_all.Given as goal

-- so many threads have ended, and their agents came back
abbrev pub invariant-loop-handle : goal.invariant-loop-handle
invariant-loop-handle g l =
    HasDone l.rows.items l.initial.pool l.pool
    × (vec_len l.rows + length l.handles.items ≡ length l.initial.handles.items)
    × (vec_len l.views ≡ vec_len l.rows)

abbrev pub decreases-loop-handle : goal.decreases-loop-handle
decreases-loop-handle g l = length l.handles.items
