use Rattle.std.proofs.Common.{ℕ, ◌≡◌, sym, ap, subst, ◌∙◌, set, Some, None, Option}
use Rattle.pc_join.specs.ByName.{value_at}
use Rattle.pc_join.specs.Inner.Leaves.{IsLeaf, IsSetAt}
use Rattle.pc_join.proofs.Puts.{OnOk_then, put_held, whole_held}
use Rattle.pc_join.proofs.Standing.{present, replaced, replaced_leaf}
use Rattle.pc_join.proofs.leaf.join_at.Goals as goal
use Rattle.pc_join.proofs.leaf.join_at.Goals.{After-leaf-1}

module _ (g : _) (c : After-leaf-1 g) where
  there : value_at c.args.leaf.now.items c.args.name ≡ Some c.index_mut.result.now.1
  there = present c.args.leaf.now.items c.args.name c.args.place c.requires.place c.requires.there c.index_mut.result.now ∙ ap (λ e. Some e.1) (sym c.index_mut.ensures.value)

  fresh : IsSetAt (value_at c.args.leaf.now.items) c.args.name c.join_from.new.self (value_at (set c.args.leaf.now.items c.args.place (c.index_mut.result.now.0, c.join_from.new.self)))
  fresh = subst (λ (e : ℕ × _). IsSetAt (value_at c.args.leaf.now.items) c.args.name c.join_from.new.self (value_at (set c.args.leaf.now.items c.args.place (e.0, c.join_from.new.self)))) (sym c.index_mut.ensures.value)
      (replaced c.args.leaf.now.items c.args.name c.args.place c.requires.place c.requires.there c.index_mut.result.now c.join_from.new.self)

pub returns-clause-put : goal.returns-clause-put
returns-clause-put g c = put_held g.V.Join.known g.V.Join.is_of (value_at c.args.leaf.now.items) _ c.args.name c.args.value.now c.index_mut.result.now.1 c.join_from.new.self (there g c) (fresh g c) c.join_from.ensures.between c.join_from.ensures.of_source

pub returns-clause-whole : goal.returns-clause-whole
returns-clause-whole g c = OnOk_then c.join_from.result c.join_from.ensures.union (λ u. whole_held g.V.Join.known g.V.Join.is_of (value_at c.args.leaf.now.items) _ c.args.name c.args.value.now c.index_mut.result.now.1 c.join_from.new.self (there g c) (fresh g c) u)

pub returns-clause-leaf : goal.returns-clause-leaf
returns-clause-leaf g c = λ k leaf. subst (λ (e : ℕ × _). IsLeaf k (set c.args.leaf.now.items c.args.place (e.0, c.join_from.new.self))) (sym c.index_mut.ensures.value)
    (replaced_leaf c.args.leaf.now.items c.args.name c.args.place c.requires.place c.requires.there c.index_mut.result.now k c.join_from.new.self leaf)

pub returns-clause-there : goal.returns-clause-there
returns-clause-there g c = λ none. clash (sym (there g c) ∙ none)
  where
    clash : {A : Type 0} {a : A} → ◌≡◌ {A = Option A} (Some a) None → ⊥
    clash e = cc
