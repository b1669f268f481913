use Rattle.std.proofs.Common.{◌≡◌, ◌++◌, length}
use Rattle.pc_join.specs.Inner.Leaves.{entries_of}
use Rattle.pc_join.proofs.walk.FarIterIterator.next.Given as goal

abbrev pub invariant-leaves : goal.invariant-leaves
invariant-leaves g l = (l.self-inside.entries.now ++ entries_of l.self-inside.leaves) ≡ l.fn.self

abbrev pub decreases-leaves : goal.decreases-leaves
decreases-leaves g l = length l.self-inside.leaves
