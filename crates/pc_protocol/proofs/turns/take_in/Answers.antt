use Rattle.std.proofs.Common.{sym, subst, take}
use Rattle.pc_protocol.specs.Turning.{TakesInAll}
use Rattle.pc_protocol.proofs.Turning.{take_next, takes_more}
use Rattle.pc_protocol.proofs.turns.take_in.Goals as goal

pub loop-delta-preserved : goal.loop-delta-preserved
loop-delta-preserved c =
    subst (λ l. TakesInAll c.args.cpu l c.args.world.now c.perform.new.world) (sym (take_next c.args.mail.now c.loop-delta.delta-index _ c.loop-delta-test.true))
    (takes_more c.args.cpu 0 c.args.world.now c.loop-delta.world c.perform.new.world (take c.loop-delta.delta-index c.args.mail.now) _ c.in_ok-perform.field-0 c.loop-delta.invariant c.in_ok-perform.ensures)
