use Rattle.pc_join.proofs.Trees.{next_as, shown_as}
use Rattle.pc_join.specs.ByName.{value_at}
use Rattle.pc_join.specs.Inner.Leaves.{held_in}
use Rattle.pc_join.proofs.leaves.Leaves.next.Goals as goal

pub returns : goal.returns
returns g c = next_as (held_in c.self.inside.leaves) (value_at c.args.self.now) c.args.from c.next_name.result (shown_as c.self.inside.leaves c.args.self.now c.self.view_is c.self.invariant) c.next_name.ensures
