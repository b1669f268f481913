use Rattle.std.proofs.Common.{refl, subst, sym}
use Rattle.pc_protocol.specs.Machine.{HasBegun}
use Rattle.pc_protocol.proofs.Doing.{does_restart, manned_crash}
use Rattle.pc_protocol.proofs.machine.Protocol.restart.Goals as goal

pub returns : goal.returns
returns c =
    let old = c.args.self in
    let seats = old.seats.items in
    let told = c.in-Ok.field-0 in
    record {
      restarts = does_restart old _ c.args.cpu told
          (manned_crash c.kernel_laws.ensures c.args.cpu told old.world c.perform.new.world seats seats c.is_reached.ensures old.manned refl c.in-Ok.ensures)
          (subst (λ b. HasBegun c.args.cpu old b) c.if-not-begins.false c.begins.ensures) c.in-Ok.ensures c.in-Ok-ask.ensures.asks;
      no_step = λ none. cc;
    }
