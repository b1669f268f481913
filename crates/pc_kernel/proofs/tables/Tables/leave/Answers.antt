use Rattle.std.proofs.Common.{◌∙◌, sym}
use Rattle.pc_kernel.proofs.Stepped.{stays, out_of_memory_leaves, left}
use Rattle.pc_kernel.proofs.tables.Tables.leave.Goals as goal

pub returns-in_err-thread-clause-step : goal.returns-in_err-thread-clause-step
returns-in_err-thread-clause-step c = stays c.args.cpu c.args.kind c.in_err-thread.field-0.0 c.from_residual.result c.args.self.now (sym c.in_err-thread.ensures.refused) c.from_residual.ensures.1

pub returns-in-Ok-clause-step : goal.returns-in-Ok-clause-step
returns-in-Ok-clause-step c =
    left c.args.cpu c.in_ok-thread.thread c.args.kind c.in-Ok.posted c.args.self.now c.tell.new.self c.take_off.new.self (sym c.in_ok-thread.ensures.refused) c.in_ok-thread.ensures.runs c.in-Ok.ensures.ok c.take_off.ensures.shown

pub returns-in-Err-clause-step : goal.returns-in-Err-clause-step
returns-in-Err-clause-step c = out_of_memory_leaves c.args.cpu c.args.kind c.args.self.now c.tell.new.self (sym c.in_ok-thread.ensures.refused) c.in-Err.ensures.err

pub returns-in-Ok-clause-extends : goal.returns-in-Ok-clause-extends
returns-in-Ok-clause-extends c t = let told = c.tell.ensures.extends t in (told.0, c.take_off.ensures.kinds t ∙ told.1)
