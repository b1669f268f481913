use Rattle.std.proofs.Common.{◌∙◌, sym}
use Rattle.pc_protocol.proofs.Doing.{none_woken, one_woken}
use Rattle.pc_protocol.proofs.machine.tell_woken.Goals as goal

pub returns-in_ok-tell-clause-tells : goal.returns-in_ok-tell-clause-tells
returns-in_ok-tell-clause-tells c =
    one_woken c.args.reply.now c.in-Some.woken c.args.seats.now.items c.tell.new.seats.items (sym c.woken_by.ensures ∙ c.in-Some.is) c.in_ok-tell.ensures.tells

pub returns-in_default-clause-tells : goal.returns-in_default-clause-tells
returns-in_default-clause-tells c = none_woken c.args.reply.now c.woken_by.result c.args.seats.now.items c.woken_by.ensures c.in_default.not-Some
