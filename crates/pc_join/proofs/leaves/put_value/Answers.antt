use Rattle.std.proofs.Common.{◌≡◌, ◌/◌, Some, IsSome, refl, sym, ap, subst, ◌∙◌}
use Rattle.std.specs.BTreeMap.{get}
use Rattle.std.specs.Ordering.{nat_cmp}
use Rattle.pc_join.specs.Inner.Leaves.{IsSetAt, held_in}
use Rattle.pc_join.proofs.Puts.{OnOk_then}
use Rattle.pc_join.proofs.Trees.{are_leaves, old_here, put_lifted, whole_lifted, fresh_lifted}
use Rattle.pc_join.proofs.leaves.put_value.Goals as goal
use Rattle.pc_join.proofs.leaves.put_value.Goals.{After-leaves-in-Some-1}

module _ (g : _) (c : After-leaves-in-Some-1 g) where
  was : get nat_cmp c.args.leaves.now (c.args.name / 64) ≡ Some c.in-Some.leaf.now
  was = sym c.in-Some.ensures.value

  some : IsSome (get nat_cmp c.args.leaves.now (c.args.name / 64))
  some = subst (λ o. IsSome o) (sym was) refl

  set : IsSetAt (get nat_cmp c.args.leaves.now) (c.args.name / 64) c.put_in.new.leaf (get nat_cmp (c.get_mut.follows.lender c.put_in.new.leaf))
  set = ((c.get_mut.follows.holds c.put_in.new.leaf).3 some).0

pub start_leaf-requires-clause-new : goal.start_leaf-requires-clause-new
start_leaf-requires-clause-new g c = ap (λ m. get nat_cmp m (c.args.name / 64)) c.get_mut.follows.holds-at-none ∙ sym c.in-None.ensures.value

pub returns-in-Some-clause-put : goal.returns-in-Some-clause-put
returns-in-Some-clause-put g c = put_lifted c.args.leaves.now (c.get_mut.follows.lender c.put_in.new.leaf) (c.args.name / 64) c.put_in.new.leaf (set g c) c.args.name refl c.in-Some.leaf.now (was g c)
    g.V.Join.known g.V.Join.is_of c.args.value c.put_in.ensures.put

pub returns-in-Some-clause-whole : goal.returns-in-Some-clause-whole
returns-in-Some-clause-whole g c = OnOk_then c.put_in.result c.put_in.ensures.whole
    (λ w. whole_lifted c.args.leaves.now (c.get_mut.follows.lender c.put_in.new.leaf) (c.args.name / 64) c.put_in.new.leaf (set g c) c.args.name refl c.in-Some.leaf.now (was g c)
    g.V.Join.known g.V.Join.is_of c.args.value w)

pub returns-in-Some-clause-leaves : goal.returns-in-Some-clause-leaves
returns-in-Some-clause-leaves g c = are_leaves c.args.leaves.now (c.get_mut.follows.lender c.put_in.new.leaf) (c.args.name / 64) c.put_in.new.leaf (set g c) (c.get_mut.follows.holds c.put_in.new.leaf).4 c.requires
    (c.put_in.ensures.leaf (c.args.name / 64) refl (c.requires.each (c.args.name / 64) c.in-Some.leaf.now (was g c)))

pub returns-in-Some-clause-fresh : goal.returns-in-Some-clause-fresh
returns-in-Some-clause-fresh g c = λ none. OnOk_then c.put_in.result
    (c.put_in.ensures.fresh (sym (old_here c.args.leaves.now (c.get_mut.follows.lender c.put_in.new.leaf) (c.args.name / 64) c.put_in.new.leaf (set g c) c.args.name refl c.in-Some.leaf.now (was g c) c.args.name refl) ∙ none))
    (λ w. fresh_lifted c.args.leaves.now (c.get_mut.follows.lender c.put_in.new.leaf) (c.args.name / 64) c.put_in.new.leaf (set g c) c.args.name refl c.in-Some.leaf.now (was g c) c.args.value w)

pub returns-in-None-clause-fresh : goal.returns-in-None-clause-fresh
returns-in-None-clause-fresh g c = λ none. OnOk_then c.start_leaf.result c.start_leaf.ensures.fresh
    (λ w. subst (λ m. IsSetAt (held_in m) c.args.name c.args.value (held_in c.start_leaf.new.leaves)) c.get_mut.follows.holds-at-none w)
