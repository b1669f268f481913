use Rattle.std.proofs.Common.{ltb-true}
use Rattle.pc_join.proofs.Standing.{after_last}
use Rattle.pc_join.proofs.leaf.is_after_all.Goals as goal

pub returns-in-Some : goal.returns-in-Some
returns-in-Some g c = λ t. after_last c.args.entries.now c.in-Some.field-0-1.now c.in-Some.last.now c.args.name c.in-Some.ensures.cases.0 c.requires (ltb-true c.in-Some.last.now.0 c.args.name t)
