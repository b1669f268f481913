use Rattle.pc_join.proofs.Trees.{next_here, next_later}
use Rattle.pc_join.proofs.leaves.next_name.Goals as goal

pub returns-in-Some : goal.returns-in-Some
returns-in-Some g c = next_here c.args.leaves.now c.requires c.args.from c.in-Some.name c.in-Some.ensures

pub returns-in-Some-next_leaf : goal.returns-in-Some-next_leaf
returns-in-Some-next_leaf g c = next_later c.args.leaves.now c.requires c.args.from c.in_default.ensures c.in-Some-next_leaf.later c.first_from-in-Some-next_leaf.result c.in-Some-next_leaf.ensures c.first_from-in-Some-next_leaf.ensures
