use Rattle.std.proofs.Common.{ℕ, suc, ◌≡◌, ◌-◌, sym, ap, subst, ◌∙◌, set, Some, arith, rules}
use Rattle.pc_join.specs.Inner.Leaves.{IsSetAt}
use Rattle.pc_join.specs.Inner.Near.{IsIndex, found_by, place_in}
use Rattle.pc_join.proofs.Pieces.{piece_held}
use Rattle.pc_join.proofs.Indexed.{at_place, held_at, index_set, set_by}
use Rattle.pc_join.proofs.near.join_piece_at.Goals as goal

pub index_mut-requires : goal.index_mut-requires
index_mut-requires g c = let lt = at_place c.args.places.now c.args.entries.now.items c.requires.index c.args.name (c.args.place - 1) (omega (arith, c.requires.place, c.requires.there)) in search rules

pub returns-clause-joined : goal.returns-clause-joined
returns-clause-joined g c =
    let is : place_in c.args.places.now c.args.name ≡ suc (c.args.place - 1) = omega (arith, c.requires.place, c.requires.there) in
    let there = held_at c.args.places.now c.args.entries.now.items c.requires.index c.args.name (c.args.place - 1) is c.index_mut.result.now ∙ ap (λ e. Some e.1) (sym c.index_mut.ensures.value) in
    let fresh = subst (λ (e : ℕ × _). IsSetAt (found_by c.args.places.now c.args.entries.now.items) c.args.name c.join_to.new.value (found_by c.args.places.now (set c.args.entries.now.items (c.args.place - 1) (e.0, c.join_to.new.value)))) (sym c.index_mut.ensures.value)
    (set_by c.args.places.now c.args.entries.now.items c.requires.index c.args.name (c.args.place - 1) is c.join_to.new.value c.index_mut.result.now) in
    piece_held g.V.Join.known g.V.Join.is_of (found_by c.args.places.now c.args.entries.now.items) _ c.args.name (g.P.Piece.stands_for c.args.piece) c.index_mut.result.now.1 c.join_to.new.value c.join_to.result there fresh
    c.join_to.ensures.between c.join_to.ensures.of_source c.join_to.ensures.union c.join_to.ensures.known c.join_to.ensures.known_succeeds c.join_to.ensures.not_empty

pub returns-clause-index : goal.returns-clause-index
returns-clause-index g c =
    let is : place_in c.args.places.now c.args.name ≡ suc (c.args.place - 1) = omega (arith, c.requires.place, c.requires.there) in
    subst (λ (e : ℕ × _). IsIndex c.args.places.now (set c.args.entries.now.items (c.args.place - 1) (e.0, c.join_to.new.value))) (sym c.index_mut.ensures.value)
    (index_set c.args.places.now c.args.entries.now.items c.requires.index c.args.name (c.args.place - 1) is c.join_to.new.value c.index_mut.result.now)
