use Rattle.std.proofs.Common.{sym, ◌∙◌}
use Rattle.pc_join.specs.ByName.{value_at}
use Rattle.pc_join.specs.Inner.Leaves.{held_in}
use Rattle.pc_join.proofs.Puts.{OnOk_then}
use Rattle.pc_join.proofs.Trees.{all_ascend, put_as, whole_as, fresh_as, shown_as, held_shown}
use Rattle.pc_join.proofs.leaves.Leaves.put.Goals as goal

pub returns-clause-put : goal.returns-clause-put
returns-clause-put g c = put_as (held_in c.self.inside.leaves) (held_in c.put_value.new.leaves) _ _ (shown_as c.self.inside.leaves c.args.self.now c.self.view_is c.self.invariant) (held_shown c.put_value.new.leaves c.put_value.ensures.leaves)
    c.args.name c.args.value g.V.Join.known g.V.Join.is_of c.put_value.ensures.put

pub returns-clause-whole : goal.returns-clause-whole
returns-clause-whole g c = OnOk_then c.put_value.result c.put_value.ensures.whole
    (λ w. whole_as (held_in c.self.inside.leaves) (held_in c.put_value.new.leaves) (value_at c.args.self.now) (value_at _) (shown_as c.self.inside.leaves c.args.self.now c.self.view_is c.self.invariant) (held_shown c.put_value.new.leaves c.put_value.ensures.leaves)
    c.args.name c.args.value g.V.Join.known g.V.Join.is_of w)

pub returns-clause-fresh : goal.returns-clause-fresh
returns-clause-fresh g c = λ none. OnOk_then c.put_value.result (c.put_value.ensures.fresh (sym (shown_as c.self.inside.leaves c.args.self.now c.self.view_is c.self.invariant c.args.name) ∙ none))
    (λ w. fresh_as (held_in c.self.inside.leaves) (held_in c.put_value.new.leaves) (value_at c.args.self.now) (value_at _) (shown_as c.self.inside.leaves c.args.self.now c.self.view_is c.self.invariant) (held_shown c.put_value.new.leaves c.put_value.ensures.leaves)
    c.args.name c.args.value w)

pub returns-clause-ascend : goal.returns-clause-ascend
returns-clause-ascend g c = all_ascend c.put_value.new.leaves c.put_value.ensures.leaves
