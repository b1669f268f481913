use Rattle.std.proofs.Common.{◌≡◌}
use Rattle.pc_calls.specs.AgentCalls.{commits}
use Rattle.pc_calls.specs.declared.call.Answer.TheVariants.{Done}
use Rattle.pc_agent.specs.Shows.{cpu_of}
use Rattle.pc_threads.proofs.Listing.{put}
use Rattle.pc_threads.proofs.book.Book.pick.Goals as goal

pub invariant_of-self-in-Ok : goal.invariant_of-self-in-Ok
invariant_of-self-in-Ok c =
    let made : commits (cpu_of c.args.agent.now) c.in-Ok.thread c.args.aseq ≡ commits c.cpu-cpu.result c.in-Ok.thread c.args.aseq = cc c.cpu-cpu.ensures in
    put c.self.inside.kernel c.pick.new.kernel c.self.inside.calls.items c.make_room.new.calls.items c.list.new.calls.items _ _ Done made c.make_room.ensures.items
    c.list.ensures c.in-Ok.ensures.goes_on.limits c.in-Ok.ensures.kernel c.self.invariant

pub returns-in-Err-clause-picks : goal.returns-in-Err-clause-picks
returns-in-Err-clause-picks c = rw (← c.self.view_is) c.in-Err.ensures.picks

pub returns-in-Ok-clause-extends : goal.returns-in-Ok-clause-extends
returns-in-Ok-clause-extends c = rw (← c.self.view_is) c.in-Ok.ensures.goes_on.extends

pub returns-in-Err-clause-own : goal.returns-in-Err-clause-own
returns-in-Err-clause-own c = rw (← c.self.view_is) c.in-Err.ensures.own

pub returns-in-Ok-clause-picks : goal.returns-in-Ok-clause-picks
returns-in-Ok-clause-picks c = rw (← c.self.view_is) c.in-Ok.ensures.picks

pub returns-in-Ok-clause-own : goal.returns-in-Ok-clause-own
returns-in-Ok-clause-own c = rw (← c.self.view_is) c.in-Ok.ensures.own
