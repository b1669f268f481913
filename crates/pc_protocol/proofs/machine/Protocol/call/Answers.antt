use Rattle.pc_protocol.proofs.Doing.{does_call, manned_call}
use Rattle.pc_protocol.proofs.machine.Protocol.call.Goals as goal

pub invariant_of-machine : goal.invariant_of-machine
invariant_of-machine c = record {
  manned = manned_call c.kernel_laws.ensures c.args.call c.in_ok-reply.reply c.args.self.world c.perform.new.world c.args.self.seats.items c.tell_woken.new.seats.items c.is_reached.ensures c.args.self.manned
      c.in_ok-tell_woken.ensures.count c.in_ok-reply.ensures;
}

pub returns : goal.returns
returns c = does_call c.args.self _ c.args.call c.in_ok-reply.reply c.in_ok-reply.ensures c.in_ok-tell_woken.ensures.tells
