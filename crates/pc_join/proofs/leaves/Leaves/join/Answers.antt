use Rattle.pc_join.specs.ByName.{value_at}
use Rattle.pc_join.specs.Inner.Leaves.{held_in}
use Rattle.pc_join.proofs.Puts.{OnOk_then}
use Rattle.pc_join.proofs.Trees.{all_ascend, put_as, whole_as, shown_as, held_shown}
use Rattle.pc_join.proofs.leaves.Leaves.join.Goals as goal

pub returns-clause-put : goal.returns-clause-put
returns-clause-put g c = put_as (held_in c.self.inside.leaves) (held_in c.join_value.new.leaves) _ _ (shown_as c.self.inside.leaves c.args.self.now c.self.view_is c.self.invariant) (held_shown c.join_value.new.leaves c.join_value.ensures.leaves)
    c.args.name c.args.value.now g.V.Join.known g.V.Join.is_of c.join_value.ensures.put

pub returns-clause-whole : goal.returns-clause-whole
returns-clause-whole g c = OnOk_then c.join_value.result c.join_value.ensures.whole
    (λ w. whole_as (held_in c.self.inside.leaves) (held_in c.join_value.new.leaves) (value_at c.args.self.now) (value_at _) (shown_as c.self.inside.leaves c.args.self.now c.self.view_is c.self.invariant) (held_shown c.join_value.new.leaves c.join_value.ensures.leaves)
    c.args.name c.args.value.now g.V.Join.known g.V.Join.is_of w)

pub returns-clause-ascend : goal.returns-clause-ascend
returns-clause-ascend g c = all_ascend c.join_value.new.leaves c.join_value.ensures.leaves
