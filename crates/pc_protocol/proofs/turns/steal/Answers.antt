use Rattle.std.proofs.Common.{subst, sym}
use Rattle.pc_world.specs.Shows.{Does}
use Rattle.pc_world.specs.Steps.{Step}
use Rattle.pc_calls.specs.declared.event.Event.TheVariants as event
use Rattle.pc_protocol.specs.Turning.{StealsOn}
use Rattle.pc_protocol.proofs.Turning.{failed_on, not_else, steal_told, stole_on}
use Rattle.pc_protocol.proofs.turns.steal.Goals as goal

pub unreachable-requires : goal.unreachable-requires
unreachable-requires c = not_else c.in_ok-perform.field-0 (steal_told c.args.cpu c.args.aseq c.args.world.now c.perform.new.world c.in_ok-perform.field-0 c.is_reached.ensures c.in_ok-perform.ensures) c.in-Done.is

pub returns-in_ok-perform-in-Associated : goal.returns-in_ok-perform-in-Associated
returns-in_ok-perform-in-Associated c =
    stole_on c.args.cpu c.args.aseq c.args.world.now c.perform.new.world c.perform-in-Associated.new.world c.in-Associated.queue c.in-Associated.thread c.in_ok-perform-in-Associated.field-0
    (subst (λ r. Does (λ w. Step w (event.Steal c.args.cpu)) c.args.world.now c.perform.new.world r) c.in-Associated.is c.in_ok-perform.ensures) c.in_ok-perform-in-Associated.ensures

pub returns-in-Refused : goal.returns-in-Refused
returns-in-Refused c =
    subst (λ b. StealsOn c.args.cpu c.args.aseq c.args.world.now c.perform.new.world b) (sym c.is_late.ensures)
    (failed_on c.args.cpu c.args.aseq c.args.world.now c.perform.new.world c.in-Refused.refusal
    (subst (λ r. Does (λ w. Step w (event.Steal c.args.cpu)) c.args.world.now c.perform.new.world r) c.in-Refused.is c.in_ok-perform.ensures))
