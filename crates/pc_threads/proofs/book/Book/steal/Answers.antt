use Rattle.std.proofs.Common.{◌≡◌, ◌∙◌, ap, sym, subst, Err}
use Rattle.pc_calls.specs.AgentCalls.{associates}
use Rattle.pc_calls.specs.declared.call.Answer.TheVariants.{Done}
use Rattle.pc_view.specs.Prefixes.{upto_of}
use Rattle.pc_agent.specs.Own.{StealsAsSeen}
use Rattle.pc_agent.specs.Shows.{cpu_of, list_of, rules_in, view_of}
use Rattle.pc_threads.specs.Pages.{Pages}
use Rattle.pc_threads.proofs.Listing.{put}
use Rattle.pc_threads.proofs.book.Book.steal.Goals as goal

pub invariant_of-self-in-Ok : goal.invariant_of-self-in-Ok
invariant_of-self-in-Ok c =
    let number : upto_of (view_of c.args.agent.now) c.in-Ok.thread ≡ c.upto-number.result =
    ap (λ view. upto_of view c.in-Ok.thread) (sym (c.view.ensures.same ∙ c.in-Ok.ensures.same.view)) ∙ sym c.upto-number.ensures in
    let made : associates c.in-Ok.thread (cpu_of c.args.agent.now) (upto_of (view_of c.args.agent.now) c.in-Ok.thread) ≡ associates c.in-Ok.thread c.cpu-queue.result c.upto-number.result = cc (number, c.cpu-queue.ensures) in
    put c.self.inside.kernel c.steal.new.kernel c.self.inside.calls.items c.make_room.new.calls.items c.list.new.calls.items _ _ Done made c.make_room.ensures.items
    c.list.ensures c.in-Ok.ensures.goes_on.limits c.in-Ok.ensures.kernel c.self.invariant

pub returns-in-Err-clause-own : goal.returns-in-Err-clause-own
returns-in-Err-clause-own c _ =
    let same : c.self.inside.kernel ≡ c.args.self.now.kernel = ap (λ (book : Pages). book.kernel) c.self.view_is in
    subst (λ before. StealsAsSeen (rules_in c.args.agent.now) (view_of c.args.agent.now) (cpu_of c.args.agent.now) (Err c.in-Err.fault) (list_of c.args.agent.now) (list_of c.steal.new.self) before c.steal.new.kernel) same
    c.in-Err.ensures.own

pub returns-in-Ok-clause-extends : goal.returns-in-Ok-clause-extends
returns-in-Ok-clause-extends c = rw (← c.self.view_is) c.in-Ok.ensures.goes_on.extends

pub returns-in-Ok-clause-steals : goal.returns-in-Ok-clause-steals
returns-in-Ok-clause-steals c _ = rw (← c.self.view_is) c.in-Ok.ensures.steals

pub returns-in-Ok-clause-own : goal.returns-in-Ok-clause-own
returns-in-Ok-clause-own c _ = rw (← c.self.view_is) c.in-Ok.ensures.own

pub returns-in-Err-clause-steals : goal.returns-in-Err-clause-steals
returns-in-Err-clause-steals c _ = rw (← c.self.view_is) c.in-Err.ensures.steals
