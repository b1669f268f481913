use Rattle.std.proofs.Common.{◌≡◌, sym, ap, subst, None}
use Rattle.pc_join.specs.ByName.{value_at}
use Rattle.pc_join.specs.Inner.Leaves.{IsLeaf, IsSetAt}
use Rattle.pc_join.proofs.Puts.{put_nothing, put_new, whole_new}
use Rattle.pc_join.proofs.Standing.{absent, inserted, inserted_leaf}
use Rattle.pc_join.proofs.leaf.insert_at.Goals as goal
use Rattle.pc_join.proofs.leaf.insert_at.Goals.{In_ok-insert}

module _ (g : _) (c : In_ok-insert g) where
  none : value_at c.args.leaf.now.items c.args.name ≡ None
  none = absent c.args.leaf.now.items c.args.name c.args.place c.requires.place c.requires.new

  fresh : IsSetAt (value_at c.args.leaf.now.items) c.args.name c.args.value (value_at c.insert.new.self.items)
  fresh = subst (λ es. IsSetAt (value_at c.args.leaf.now.items) c.args.name c.args.value (value_at es)) (sym c.in_ok-insert.ensures.items)
      (inserted c.args.leaf.now.items c.args.name c.args.place c.requires.place c.requires.new c.args.value)

pub returns-in_err-insert-clause-put : goal.returns-in_err-insert-clause-put
returns-in_err-insert-clause-put g c = put_nothing g.V.Join.known g.V.Join.is_of (value_at c.args.leaf.now.items) (value_at c.insert.new.self.items) c.args.name c.args.value (λ q. ap (λ es. value_at es q) c.in_err-insert.ensures.items)

pub returns-in_err-insert-clause-leaf : goal.returns-in_err-insert-clause-leaf
returns-in_err-insert-clause-leaf g c = λ k is leaf. subst (IsLeaf k) (sym c.in_err-insert.ensures.items) leaf

pub returns-clause-put : goal.returns-clause-put
returns-clause-put g c = put_new g.V.Join.known g.V.Join.is_of (value_at c.args.leaf.now.items) (value_at c.insert.new.self.items) c.args.name c.args.value (none g c) (fresh g c)

pub returns-clause-whole : goal.returns-clause-whole
returns-clause-whole g c = whole_new g.V.Join.known g.V.Join.is_of (value_at c.args.leaf.now.items) (value_at c.insert.new.self.items) c.args.name c.args.value (none g c) (fresh g c)

pub returns-clause-fresh : goal.returns-clause-fresh
returns-clause-fresh g c = fresh g c

pub returns-clause-leaf : goal.returns-clause-leaf
returns-clause-leaf g c = λ k is leaf. subst (IsLeaf k) (sym c.in_ok-insert.ensures.items) (inserted_leaf c.args.leaf.now.items c.args.name c.args.place c.requires.place c.requires.new k c.args.value is leaf)
