use Rattle.pc_join.proofs.Standing.{least_at, none_at}
use Rattle.pc_join.proofs.leaf.name_from.Goals as goal

pub returns-in-Some : goal.returns-in-Some
returns-in-Some g c = least_at c.args.entries.now c.args.from c.place_of.result c.place_of.ensures c.in-Some.entry.now c.in-Some.ensures.lookup.3

pub returns-in-None : goal.returns-in-None
returns-in-None g c = none_at c.args.entries.now c.args.from c.place_of.result c.place_of.ensures c.in-None.ensures.lookup.3
