use Rattle.std.proofs.Common.{◌∙◌, refl, sym}
use Rattle.pc_protocol.proofs.Turning.{looked, not_looked}
use Rattle.pc_protocol.proofs.turns.read_queue.Goals as goal

pub returns-in_default : goal.returns-in_default
returns-in_default c = not_looked c.args.cpu c.args.world.now c.kernel-kernel.result.now c.aseq.result c.kernel-kernel.ensures c.aseq.ensures c.in_default.not-Some

pub returns : goal.returns
returns c =
    looked c.args.cpu c.args.world.now c.perform.new.world c.kernel-kernel.result.now c.sent.result.now _ c.in_ok-perform.field-0 c.kernel-kernel.ensures (sym c.in-Some.is ∙ c.aseq.ensures)
    c.has_ticks_alone-is_void.ensures c.sent.ensures.tell refl c.in_ok-perform.ensures
