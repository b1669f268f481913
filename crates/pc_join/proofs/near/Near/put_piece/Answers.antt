use Rattle.std.proofs.Common.{◌≡◌, ap, subst, sym, ◌∙◌}
use Rattle.pc_join.specs.ByName.{value_at}
use Rattle.pc_join.specs.Inner.Near.{IsIndex, found_by, place_in}
use Rattle.pc_join.specs.Inner.Puts.{IsPieceJoined}
use Rattle.pc_join.proofs.Trees.{put_as}
use Rattle.pc_join.proofs.Pieces.{piece_new, piece_as}
use Rattle.pc_join.proofs.Indexed.{shown_by, shown_now, are_near, none_zero}
use Rattle.pc_join.proofs.near.Near.put_piece.Goals as goal
use Rattle.pc_join.proofs.near.Near.put_piece.Goals.{After-start_at, After-join_piece_at}

module _ (g : _) (c : After-start_at g) where
  zero_place : place_in c.self.inside.places.items c.args.name ≡ 0
  zero_place = ap (λ ps. place_in ps c.args.name) (sym c.as_slice.ensures.value) ∙ sym c.place_of-place.ensures ∙ c.if-place-eq0.true

  started : IsPieceJoined g.V.Join.known g.V.Join.is_of (found_by c.self.inside.places.items c.self.inside.entries.items) c.args.name (g.P.Piece.stands_for c.args.piece) (found_by c.start_at.new.places.items c.start_at.new.entries.items) c.start_at.result
  started = piece_new g.V.Join.known g.V.Join.is_of (found_by c.self.inside.places.items c.self.inside.entries.items) (found_by c.start_at.new.places.items c.start_at.new.entries.items) c.args.name c.alone-value.result (g.P.Piece.stands_for c.args.piece) c.start_at.result
      c.alone-value.ensures.value c.alone-value.ensures.not_empty (none_zero (place_in c.self.inside.places.items c.args.name) c.self.inside.entries.items zero_place) c.start_at.ensures.put c.start_at.ensures.whole

module _ (g : _) (c : After-join_piece_at g) where
  index : IsIndex c.self.inside.places.items c.join_piece_at.new.entries.items
  index = subst (λ ps. IsIndex ps c.join_piece_at.new.entries.items) c.as_slice-2.ensures.value c.join_piece_at.ensures.index

  joined : IsPieceJoined g.V.Join.known g.V.Join.is_of (found_by c.self.inside.places.items c.self.inside.entries.items) c.args.name (g.P.Piece.stands_for c.args.piece) (found_by c.self.inside.places.items c.join_piece_at.new.entries.items) c.join_piece_at.result
  joined = subst (λ ps. IsPieceJoined g.V.Join.known g.V.Join.is_of (found_by ps c.self.inside.entries.items) c.args.name (g.P.Piece.stands_for c.args.piece) (found_by ps c.join_piece_at.new.entries.items) c.join_piece_at.result) c.as_slice-2.ensures.value c.join_piece_at.ensures.joined

pub returns-then-place-eq0-clause-joined : goal.returns-then-place-eq0-clause-joined
returns-then-place-eq0-clause-joined g c =
    let before = shown_now c.self.inside.places.items c.self.inside.entries.items c.args.self.now c.self.view_is c.self.invariant in
    let after = shown_by c.start_at.new.places.items c.start_at.new.entries.items c.start_at.ensures.index in
    piece_as g.V.Join.known g.V.Join.is_of (found_by c.self.inside.places.items c.self.inside.entries.items) (found_by c.start_at.new.places.items c.start_at.new.entries.items) c.args.name (value_at c.args.self.now) (value_at _) (g.P.Piece.stands_for c.args.piece) c.start_at.result
    (before c.args.name) (after c.args.name) (put_as (found_by c.self.inside.places.items c.self.inside.entries.items) (found_by c.start_at.new.places.items c.start_at.new.entries.items) (value_at c.args.self.now) (value_at _) before after c.args.name (g.P.Piece.stands_for c.args.piece) g.V.Join.known g.V.Join.is_of) (started g c)

pub returns-then-place-eq0-clause-near : goal.returns-then-place-eq0-clause-near
returns-then-place-eq0-clause-near g c = are_near c.start_at.new.places.items c.start_at.new.entries.items c.start_at.ensures.index

pub returns-clause-joined : goal.returns-clause-joined
returns-clause-joined g c =
    let before = shown_now c.self.inside.places.items c.self.inside.entries.items c.args.self.now c.self.view_is c.self.invariant in
    let after = shown_by c.self.inside.places.items c.join_piece_at.new.entries.items (index g c) in
    piece_as g.V.Join.known g.V.Join.is_of (found_by c.self.inside.places.items c.self.inside.entries.items) (found_by c.self.inside.places.items c.join_piece_at.new.entries.items) c.args.name (value_at c.args.self.now) (value_at _) (g.P.Piece.stands_for c.args.piece) c.join_piece_at.result
    (before c.args.name) (after c.args.name) (put_as (found_by c.self.inside.places.items c.self.inside.entries.items) (found_by c.self.inside.places.items c.join_piece_at.new.entries.items) (value_at c.args.self.now) (value_at _) before after c.args.name (g.P.Piece.stands_for c.args.piece) g.V.Join.known g.V.Join.is_of) (joined g c)

pub returns-clause-near : goal.returns-clause-near
returns-clause-near g c = are_near c.self.inside.places.items c.join_piece_at.new.entries.items (index g c)
