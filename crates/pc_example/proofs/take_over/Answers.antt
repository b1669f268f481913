use Rattle.std.proofs.Common.{subst, ap, ◌∙◌}
use Rattle.pc_calls.specs.declared.event.Event.TheVariants as event
use Rattle.pc_calls.specs.declared.event.Reply.TheVariants as replies
use Rattle.pc_view.specs.Prefixes.{reported_in}
use Rattle.pc_world.specs.Steps.{Step}
use Rattle.pc_example.proofs.Taking.{own_queue}
use Rattle.pc_example.proofs.take_over.Goals as goal

pub returns-in-Some-taken_by : goal.returns-in-Some-taken_by
returns-in-Some-taken_by c =
    let at = c.is_reached.ensures in
    let w = at.plain in
    let cpu = c.args.cpu in
    let thread = c.in-Some-taken_by.thread in
    let did = c.in_ok-reply.ensures.step w at.shows in
    let took = c.in-Some-taken_by.ensures in
    let step = subst (λ told. Step w (event.Steal cpu) told did.0) took.1 did.1 in
    let own = own_queue w did.0 cpu took.0 thread step in
    let steals = subst (λ queue. Step w (event.Steal cpu) (replies.Associated queue thread) did.0) own step in
    let reported = c.what_a_steal_took_is_reported.ensures _ w did.0 cpu thread c.args.world.now.kernel c.in-Some.view.now at.reached record { of_kernel = at.shows.kernel; of_agent = (c.in-Some.ensures w at.shows).1 } steals in
    record { reported = c.reported.ensures ∙ ap (λ view. reported_in view thread) c.in_ok-before-in-Some.ensures ∙ reported }
