use Rattle.pc_kernel.proofs.Held.{all_held}
use Rattle.pc_kernel.proofs.kernel.Kernel.queued.Goals as goal

pub returns-clause-queued : goal.returns-clause-queued
returns-clause-queued c = rw (← c.self.view_is) (all_held c.self.inside.tables c.args.cpu c.in_ok-entry.entry.now _ c.is_sound.ensures c.in_ok-entry.ensures.row c.as_slices.ensures.items)
