use Rattle.std.proofs.Common.{take}
use Rattle.std.specs.BTreeMap.{get}
use Rattle.pc_delta.specs.Inner.Places.{place_cmp, IsLeast}
use Rattle.pc_delta.proofs.Conflicts.{IsSeen}
use Rattle.pc_delta.proofs.places.least_conflict.Given as goal

abbrev pub invariant-loop-part : goal.invariant-loop-part
invariant-loop-part l = record {
  known : IsSeen (get place_cmp l.seen) (take l.part-index l.parts);
  least : IsLeast l.least (take l.part-index l.parts);
}
