use Rattle.pc_kernel.proofs.Held.{read_held}
use Rattle.pc_kernel.proofs.kernel.Kernel.peek.Goals as goal

pub returns-in-Ok-clause-queued : goal.returns-in-Ok-clause-queued
returns-in-Ok-clause-queued c = rw (← c.self.view_is) (read_held c.self.inside.tables c.args.cpu c.len.result c.in-Some.entry.now c.in-Ok.items.items c.is_sound.ensures c.in-Some.ensures.row c.len.ensures.items c.in-Ok.ensures)
