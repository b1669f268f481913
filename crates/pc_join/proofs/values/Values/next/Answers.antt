use Rattle.pc_join.proofs.Both.{next_near, next_far}
use Rattle.pc_join.proofs.values.Values.next.Goals as goal

pub returns-in-Some : goal.returns-in-Some
returns-in-Some g c = next_near c.self.inside.near c.self.inside.far c.args.self.now c.self.view_is c.self.invariant c.args.from c.in-Some.name c.in-Some.ensures

pub returns-in-None : goal.returns-in-None
returns-in-None g c = next_far c.self.inside.near c.self.inside.far c.args.self.now c.self.view_is c.self.invariant c.args.from c.next-in-None.result c.in-None.ensures c.next-in-None.ensures
