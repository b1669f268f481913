use Rattle.std.proofs.Common.{◌≡◌, ◌/◌, ◌∷◌, ◌++◌, [], refl, ap, ◌∙◌}
use Rattle.std.specs.BTreeMap.{get}
use Rattle.std.specs.Ordering.{nat_cmp}
use Rattle.pc_join.specs.Inner.Leaves.{IsSetAt, held_in}
use Rattle.pc_join.proofs.Puts.{put_nothing, put_new, whole_new}
use Rattle.pc_join.proofs.Trees.{leaves_stay, held_stays, are_leaves, started, nothing_held, started_leaf}
use Rattle.pc_join.proofs.leaves.start_leaf.Goals as goal
use Rattle.pc_join.proofs.leaves.start_leaf.Goals.{Joined-branch-3}

module _ (g : _) (c : Joined-branch-3 g) where
  only : c.push.new.self.items ≡ (c.args.name, c.args.value) ∷ []
  only = c.in_ok-push.ensures.items ∙ ap (λ es. es ++ (c.args.name, c.args.value) ∷ []) c.new-leaf.ensures.items

  set : IsSetAt (get nat_cmp c.args.leaves.now) (c.args.name / 64) c.push.new.self (get nat_cmp c.insert.new.self)
  set = c.in_ok-insert.ensures.updates.0

  fresh : IsSetAt (held_in c.args.leaves.now) c.args.name c.args.value (held_in c.insert.new.self)
  fresh = started c.args.leaves.now c.insert.new.self (c.args.name / 64) c.push.new.self set c.args.name refl c.requires.new c.args.value only

pub returns-in_err-insert-clause-put : goal.returns-in_err-insert-clause-put
returns-in_err-insert-clause-put g c = put_nothing g.V.Join.known g.V.Join.is_of (held_in c.args.leaves.now) (held_in c.insert.new.self) c.args.name c.args.value (held_stays c.args.leaves.now c.insert.new.self c.in_err-insert.ensures.err)

pub returns-in_err-insert-clause-leaves : goal.returns-in_err-insert-clause-leaves
returns-in_err-insert-clause-leaves g c = leaves_stay c.args.leaves.now c.insert.new.self c.in_err-insert.ensures.err c.insert.ensures.ordered c.requires.leaves

pub returns-clause-put : goal.returns-clause-put
returns-clause-put g c = put_new g.V.Join.known g.V.Join.is_of (held_in c.args.leaves.now) (held_in c.insert.new.self) c.args.name c.args.value
    (nothing_held c.args.leaves.now c.insert.new.self (c.args.name / 64) c.push.new.self (set g c) c.args.name refl c.requires.new c.args.value (only g c)) (fresh g c)

pub returns-clause-whole : goal.returns-clause-whole
returns-clause-whole g c = whole_new g.V.Join.known g.V.Join.is_of (held_in c.args.leaves.now) (held_in c.insert.new.self) c.args.name c.args.value
    (nothing_held c.args.leaves.now c.insert.new.self (c.args.name / 64) c.push.new.self (set g c) c.args.name refl c.requires.new c.args.value (only g c)) (fresh g c)

pub returns-clause-fresh : goal.returns-clause-fresh
returns-clause-fresh g c = fresh g c

pub returns-clause-leaves : goal.returns-clause-leaves
returns-clause-leaves g c = are_leaves c.args.leaves.now c.insert.new.self (c.args.name / 64) c.push.new.self (set g c) c.insert.ensures.ordered c.requires.leaves
    (started_leaf c.args.leaves.now c.insert.new.self (c.args.name / 64) c.push.new.self (set g c) c.args.name refl c.requires.new c.args.value (only g c))
