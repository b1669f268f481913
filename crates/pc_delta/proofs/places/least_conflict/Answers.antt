use Rattle.std.proofs.Common.{subst, sym, ap, ◌∙◌, take, ◌+◌}
use Rattle.std.proofs.lemmas.Bool.{false≢true}
use Rattle.std.specs.BTreeMap.{get}
use Rattle.std.specs.Map.{lookup}
use Rattle.pc_delta.specs.Inner.Places.{place_cmp, IsLeast}
use Rattle.pc_delta.proofs.Lists.{all_taken}
use Rattle.pc_delta.proofs.Conflicts.{seen_none, least_none, next_seen, next_same, next_new}
use Rattle.pc_delta.proofs.places.least_conflict.Goals as goal
use Rattle.pc_delta.proofs.places.least_conflict.Goals.{then-not-is_same, else-not-is_same}

pub loop-part-init : goal.loop-part-init
loop-part-init c = record { known = seen_none (get place_cmp c.new-seen.result) (λ q. ap (λ es. lookup (λ k. _) es) c.new-seen.ensures.empty); least = least_none }

pub loop-part-preserved : goal.loop-part-preserved
loop-part-preserved c = record {
  known = next_seen c.args.parts.now c.loop-part.part-index c.part-item.result c.in_ok-first.first c.place-here.result (get place_cmp c.loop-part.seen) (get place_cmp c.first_seen.new.seen) c.part-item.is c.loop-part-test.true c.loop-part.invariant.known c.place-here.ensures c.in_ok-first.ensures;
  least = elim c.if-not-is_same.branch [
    | then-not-is_same w ↦
        subst (λ o. IsLeast o (take (c.loop-part.part-index + 1) c.args.parts.now)) (sym w.least-is)
        (next_new c.args.parts.now c.loop-part.part-index c.part-item.result c.in_ok-first.first c.place-here.result (get place_cmp c.loop-part.seen) (get place_cmp c.first_seen.new.seen) c.part-item.is c.loop-part-test.true c.loop-part.invariant.known c.place-here.ensures c.in_ok-first.ensures
        c.loop-part.least w.lesser.result (λ same. false≢true (sym w.if-not-is_same.true ∙ c.is_same.ensures.1 same)) w.lesser.ensures c.loop-part.invariant.least)
    | else-not-is_same w ↦
        subst (λ o. IsLeast o (take (c.loop-part.part-index + 1) c.args.parts.now)) (sym w.least-is)
        (next_same c.args.parts.now c.loop-part.part-index c.part-item.result c.in_ok-first.first c.place-here.result (get place_cmp c.loop-part.seen) (get place_cmp c.first_seen.new.seen) c.part-item.is c.loop-part-test.true c.loop-part.invariant.known c.place-here.ensures c.in_ok-first.ensures
        c.loop-part.least (c.is_same.ensures.0 w.if-not-is_same.false) c.loop-part.invariant.least)
  ];
}

pub returns : goal.returns
returns c = subst (λ xs. IsLeast c.loop-part.least xs) (all_taken c.args.parts.now c.loop-part.part-index c.loop-part-test.false) c.loop-part.invariant.least
