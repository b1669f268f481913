use Rattle.std.proofs.Common.{ℕ, ◌≡◌, sym, ap, subst, ◌∙◌, set, Some}
use Rattle.pc_join.specs.ByName.{value_at}
use Rattle.pc_join.specs.Inner.Leaves.{IsLeaf, IsSetAt}
use Rattle.pc_join.proofs.Pieces.{piece_held}
use Rattle.pc_join.proofs.Standing.{present, replaced, replaced_leaf}
use Rattle.pc_join.proofs.leaf.join_piece_at.Goals as goal

pub returns-clause-joined : goal.returns-clause-joined
returns-clause-joined g c =
    let there : value_at c.args.leaf.now.items c.args.name ≡ Some c.index_mut.result.now.1 =
    present c.args.leaf.now.items c.args.name c.args.place c.requires.place c.requires.there c.index_mut.result.now ∙ ap (λ e. Some e.1) (sym c.index_mut.ensures.value) in
    let fresh = subst (λ (e : ℕ × _). IsSetAt (value_at c.args.leaf.now.items) c.args.name c.join_to.new.value (value_at (set c.args.leaf.now.items c.args.place (e.0, c.join_to.new.value)))) (sym c.index_mut.ensures.value)
    (replaced c.args.leaf.now.items c.args.name c.args.place c.requires.place c.requires.there c.index_mut.result.now c.join_to.new.value) in
    piece_held g.V.Join.known g.V.Join.is_of (value_at c.args.leaf.now.items) _ c.args.name (g.P.Piece.stands_for c.args.piece) c.index_mut.result.now.1 c.join_to.new.value c.join_to.result there fresh
    c.join_to.ensures.between c.join_to.ensures.of_source c.join_to.ensures.union c.join_to.ensures.known c.join_to.ensures.known_succeeds c.join_to.ensures.not_empty

pub returns-clause-leaf : goal.returns-clause-leaf
returns-clause-leaf g c = λ k leaf. subst (λ (e : ℕ × _). IsLeaf k (set c.args.leaf.now.items c.args.place (e.0, c.join_to.new.value))) (sym c.index_mut.ensures.value)
    (replaced_leaf c.args.leaf.now.items c.args.name c.args.place c.requires.place c.requires.there c.index_mut.result.now k c.join_to.new.value leaf)
