use Rattle.pc_world.proofs.Chaining.{all_one, part_one}
use Rattle.pc_world.proofs.Counting.{all_counted_one, among_one}
use Rattle.pc_world.proofs.world.World.take.Goals as goal

pub returns-in-Ok-clause-done : goal.returns-in-Ok-clause-done
returns-in-Ok-clause-done c = all_one c.args.event c.in-Ok.field-0 c.args.self.now c.step.new.self c.in-Ok.ensures.step

pub returns-in-Err-clause-no_memory : goal.returns-in-Err-clause-no_memory
returns-in-Err-clause-no_memory c = part_one c.args.event c.args.self.now c.step.new.self c.in-Err.ensures.no_memory

pub returns-in-Ok-clause-counts : goal.returns-in-Ok-clause-counts
returns-in-Ok-clause-counts c =
    all_counted_one c.args.event c.in-Ok.field-0 c.args.self.now c.step.new.self c.in-Ok.ensures.step c.in-Ok.ensures.counts

pub returns-in-Err-clause-counts_in_part : goal.returns-in-Err-clause-counts_in_part
returns-in-Err-clause-counts_in_part c =
    among_one c.args.event c.args.self.now c.step.new.self c.in-Err.ensures.no_memory c.in-Err.ensures.uncounted
