use Rattle.std.proofs.Common.{◌≡◌, drop, false, sym, ap, subst, ◌∙◌}
use Rattle.pc_join.specs.ByName.{value_at}
use Rattle.pc_join.specs.Inner.Leaves.{IsPlaceIn, begins_with}
use Rattle.pc_join.proofs.Standing.{absent}
use Rattle.pc_join.proofs.Pieces.{piece_new}
use Rattle.pc_join.proofs.leaf.put_piece_in.Goals as goal

pub returns-then-stands_at-clause-leaf : goal.returns-then-stands_at-clause-leaf
returns-then-stands_at-clause-leaf g c = λ k is leaf. c.join_piece_at.ensures.leaf k leaf

pub returns-clause-joined : goal.returns-clause-joined
returns-clause-joined g c =
    let place = subst (λ es. IsPlaceIn es c.args.name c.place_of-place.result) c.as_slice.ensures.value c.place_of-place.ensures in
    let new : begins_with (drop c.place_of-place.result c.args.leaf.now.items) c.args.name ≡ false =
    ap (λ es. begins_with (drop c.place_of-place.result es) c.args.name) (sym c.as_slice-2.ensures.value) ∙ sym c.stands_at.ensures ∙ c.if-stands_at.false in
    piece_new g.V.Join.known g.V.Join.is_of (value_at c.args.leaf.now.items) (value_at c.insert_at.new.leaf.items) c.args.name c.alone-value.result (g.P.Piece.stands_for c.args.piece) c.insert_at.result
    c.alone-value.ensures.value c.alone-value.ensures.not_empty (absent c.args.leaf.now.items c.args.name c.place_of-place.result place new) c.insert_at.ensures.put c.insert_at.ensures.whole
