use Rattle.std.proofs.Common.{◌≡◌, ◌/◌, None, Some, IsSome, refl, sym, ap, subst, ◌∙◌}
use Rattle.std.specs.BTreeMap.{get}
use Rattle.std.specs.Ordering.{nat_cmp}
use Rattle.pc_join.specs.Inner.Leaves.{IsSetAt, found_in, held_in}
use Rattle.pc_join.specs.Inner.Puts.{IsPieceJoined}
use Rattle.pc_join.specs.ByName.{value_at}
use Rattle.pc_join.proofs.Trees.{are_leaves, old_here, new_here, put_lifted}
use Rattle.pc_join.proofs.Pieces.{piece_as, piece_new}
use Rattle.pc_join.proofs.leaves.put_piece_by.Goals as goal
use Rattle.pc_join.proofs.leaves.put_piece_by.Goals.{After-leaves-in-Some-1}

module _ (g : _) (c : After-leaves-in-Some-1 g) where
  was : get nat_cmp c.args.leaves.now (c.args.name / 64) ≡ Some c.in-Some.leaf.now
  was = sym c.in-Some.ensures.value

  some : IsSome (get nat_cmp c.args.leaves.now (c.args.name / 64))
  some = subst (λ o. IsSome o) (sym was) refl

  set : IsSetAt (get nat_cmp c.args.leaves.now) (c.args.name / 64) c.put_piece_in.new.leaf (get nat_cmp (c.get_mut.follows.lender c.put_piece_in.new.leaf))
  set = ((c.get_mut.follows.holds c.put_piece_in.new.leaf).3 some).0

pub start_leaf-requires-clause-new : goal.start_leaf-requires-clause-new
start_leaf-requires-clause-new g c = ap (λ m. get nat_cmp m (c.args.name / 64)) c.get_mut.follows.holds-at-none ∙ sym c.in-None.ensures.value

pub returns-in-Some-clause-joined : goal.returns-in-Some-clause-joined
returns-in-Some-clause-joined g c = piece_as g.V.Join.known g.V.Join.is_of (value_at c.in-Some.leaf.now.items) (value_at c.put_piece_in.new.leaf.items) c.args.name
    (held_in c.args.leaves.now) (held_in (c.get_mut.follows.lender c.put_piece_in.new.leaf)) (g.P.Piece.stands_for c.args.piece) c.put_piece_in.result
    (old_here c.args.leaves.now (c.get_mut.follows.lender c.put_piece_in.new.leaf) (c.args.name / 64) c.put_piece_in.new.leaf (set g c) c.args.name refl c.in-Some.leaf.now (was g c) c.args.name refl)
    (new_here c.args.leaves.now (c.get_mut.follows.lender c.put_piece_in.new.leaf) (c.args.name / 64) c.put_piece_in.new.leaf (set g c) c.args.name refl)
    (put_lifted c.args.leaves.now (c.get_mut.follows.lender c.put_piece_in.new.leaf) (c.args.name / 64) c.put_piece_in.new.leaf (set g c) c.args.name refl c.in-Some.leaf.now (was g c)
    g.V.Join.known g.V.Join.is_of (g.P.Piece.stands_for c.args.piece))
    c.put_piece_in.ensures.joined

pub returns-in-Some-clause-leaves : goal.returns-in-Some-clause-leaves
returns-in-Some-clause-leaves g c = are_leaves c.args.leaves.now (c.get_mut.follows.lender c.put_piece_in.new.leaf) (c.args.name / 64) c.put_piece_in.new.leaf (set g c) (c.get_mut.follows.holds c.put_piece_in.new.leaf).4 c.requires
    (c.put_piece_in.ensures.leaf (c.args.name / 64) refl (c.requires.each (c.args.name / 64) c.in-Some.leaf.now (was g c)))

pub returns-in-None-clause-joined : goal.returns-in-None-clause-joined
returns-in-None-clause-joined g c =
    let none : held_in c.args.leaves.now c.args.name ≡ None = ap (λ o. found_in o c.args.name) (sym c.in-None.ensures.value) in
    subst (λ m. IsPieceJoined g.V.Join.known g.V.Join.is_of (held_in m) c.args.name (g.P.Piece.stands_for c.args.piece) (held_in c.start_leaf.new.leaves) c.start_leaf.result) c.get_mut.follows.holds-at-none
    (piece_new g.V.Join.known g.V.Join.is_of (held_in c.get_mut.follows.lender-at-none) (held_in c.start_leaf.new.leaves) c.args.name c.alone.result (g.P.Piece.stands_for c.args.piece) c.start_leaf.result
    c.alone.ensures.value c.alone.ensures.not_empty (ap (λ m. held_in m c.args.name) c.get_mut.follows.holds-at-none ∙ none) c.start_leaf.ensures.put c.start_leaf.ensures.whole)
