use Rattle.std.proofs.Common.{ap, ◌∙◌, drop, set, ◌+◌}
use Rattle.pc_thread_view.proofs.Slots.{lowered}
use Rattle.pc_thread_view.proofs.early.lower.Goals as goal

pub returns-clause-lowered : goal.returns-clause-lowered
returns-clause-lowered c = ap (λ l. drop c.args.front (set l (c.args.front + c.args.place) c.args.entry)) c.move_down.ensures ∙ lowered c.args.front c.args.place c.args.slots.now c.args.entry c.requires
