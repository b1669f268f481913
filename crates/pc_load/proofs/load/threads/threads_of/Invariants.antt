use Rattle.std.proofs.Common.{◌≡◌, ◌++◌}
use Rattle.std.specs.Vec.Iter.{into_iter_items}
use Rattle.pc_load.proofs.Threads.{SoFar}
use Rattle.pc_load.proofs.load.threads.threads_of.Given as goal

abbrev pub invariant-loop-draft : goal.invariant-loop-draft
invariant-loop-draft l = SoFar l.cpus l.yielded l.before l.threads.items × (l.yielded ++ into_iter_items l.draft-iterator ≡ l.fn.drafts.items)
