use Rattle.std.proofs.Common.{◌≡◌}
use Rattle.pc_calls.specs.declared.call.Answer.TheVariants.{Done}
use Rattle.pc_calls.specs.declared.call.Call.TheVariants as call
use Rattle.pc_agent.specs.Shows.{cpu_of, sent_of}
use Rattle.pc_threads.proofs.Listing.{put}
use Rattle.pc_threads.proofs.book.Book.consume.Goals as goal

pub invariant_of-self-in-Ok : goal.invariant_of-self-in-Ok
invariant_of-self-in-Ok c =
    let made : call.Consume (cpu_of c.args.agent.now) (sent_of c.args.agent.now) ≡ call.Consume c.cpu-cpu.result c.in-Ok.count = cc (c.in-Ok.ensures.count, c.cpu-cpu.ensures) in
    put c.self.inside.kernel c.consume.new.kernel c.self.inside.calls.items c.make_room.new.calls.items c.list.new.calls.items _ _ Done made c.make_room.ensures.items
    c.list.ensures c.in-Ok.ensures.goes_on.limits c.in-Ok.ensures.kernel c.self.invariant

pub returns-in-Err-clause-consumes : goal.returns-in-Err-clause-consumes
returns-in-Err-clause-consumes c = rw (← c.self.view_is) c.in-Err.ensures.consumes

pub returns-in-Ok-clause-extends : goal.returns-in-Ok-clause-extends
returns-in-Ok-clause-extends c = rw (← c.self.view_is) c.in-Ok.ensures.goes_on.extends

pub returns-in-Err-clause-own : goal.returns-in-Err-clause-own
returns-in-Err-clause-own c = rw (← c.self.view_is) c.in-Err.ensures.own

pub returns-in-Ok-clause-consumes : goal.returns-in-Ok-clause-consumes
returns-in-Ok-clause-consumes c = rw (← c.self.view_is) c.in-Ok.ensures.consumes

pub returns-in-Ok-clause-own : goal.returns-in-Ok-clause-own
returns-in-Ok-clause-own c = rw (← c.self.view_is) c.in-Ok.ensures.own
