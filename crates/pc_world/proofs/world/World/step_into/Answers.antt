use Rattle.std.proofs.Common.{inl, inr}
use Rattle.pc_world.proofs.Running.{done_in, on_err, ran_out_in}
use Rattle.pc_world.proofs.world.World.step_into.Goals as goal

pub returns-in-Ok-clause-no_memory : goal.returns-in-Ok-clause-no_memory
returns-in-Ok-clause-no_memory c = on_err c.add.result _ (done_in c.args.event c.in-Ok.reply c.args.self.now c.step.new.self c.in-Ok.ensures.step)

pub returns-in-Err-clause-no_memory : goal.returns-in-Err-clause-no_memory
returns-in-Err-clause-no_memory c = ran_out_in c.args.event c.args.self.now c.step.new.self c.in-Err.ensures.no_memory

pub returns-in-Ok-clause-counts_in_part : goal.returns-in-Ok-clause-counts_in_part
returns-in-Ok-clause-counts_in_part c = on_err c.add.result _ (inl (c.in-Ok.reply, c.in-Ok.ensures.step, c.in-Ok.ensures.counts))

pub returns-in-Err-clause-counts_in_part : goal.returns-in-Err-clause-counts_in_part
returns-in-Err-clause-counts_in_part c = inr (c.in-Err.ensures.no_memory, c.in-Err.ensures.uncounted)
