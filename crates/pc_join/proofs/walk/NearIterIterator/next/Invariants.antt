use Rattle.std.proofs.Common.{◌≡◌, length}
use Rattle.pc_join.specs.Inner.Near.{AreWithin, entries_at}
use Rattle.pc_join.proofs.walk.NearIterIterator.next.Given as goal

abbrev pub invariant-places : goal.invariant-places
invariant-places g l = (entries_at l.self-inside.places.now l.self-inside.entries.now ≡ l.fn.self) × AreWithin l.self-inside.places.now l.self-inside.entries.now

abbrev pub decreases-places : goal.decreases-places
decreases-places g l = length l.self-inside.places.now
