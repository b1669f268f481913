use Rattle.pc_world.specs.Inner.Handling.{outcome_of}
use Rattle.pc_world.proofs.Lasting.{keeps_sent, reached_on}
use Rattle.pc_world.proofs.Counting.{counts_done, counts_left}
use Rattle.pc_world.proofs.world.World.step_in_place.Goals as goal

pub invariant_of-self : goal.invariant_of-self
invariant_of-self c = reached_on c.kernel_laws.ensures c.args.event.now (outcome_of c.handle.result c.handle.new.reply) c.self.inside.parts c.handle.new.self c.handle.ensures.handles c.self.invariant

pub returns-clause-kept : goal.returns-clause-kept
returns-clause-kept c = rw (← c.self.view_is) (keeps_sent c.args.event.now (outcome_of c.handle.result c.handle.new.reply) c.self.inside.parts c.handle.new.self c.handle.ensures.handles c.self.invariant)

pub returns-clause-counts : goal.returns-clause-counts
returns-clause-counts c =
    rw (← c.self.view_is) (counts_done c.args.event.now c.handle.result c.handle.new.reply c.self.inside.parts c.handle.new.self c.handle.ensures.counts)

pub returns-clause-uncounted : goal.returns-clause-uncounted
returns-clause-uncounted c =
    rw (← c.self.view_is) (counts_left c.args.event.now c.handle.result c.handle.new.reply c.self.inside.parts c.handle.new.self c.handle.ensures.counts)
