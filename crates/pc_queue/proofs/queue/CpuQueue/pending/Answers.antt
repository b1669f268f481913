use Rattle.std.proofs.Common.{◌∙◌, ap, is_some}
use Rattle.pc_messages.specs.Items.{is_of}
use Rattle.pc_queue.proofs.Count.{any_is_some}
use Rattle.pc_queue.proofs.queue.CpuQueue.pending.Goals as goal

pub returns : goal.returns
returns c =
    rw (any_is_some (is_of c.args.thread) c.args.self.now.items, ← c.self.view_is) (c.contains_key.ensures ∙ ap is_some (c.self.invariant.counted.each c.args.thread))
