use Rattle.std.proofs.Common.{◌+◌, take, sym, subst, rules}
use Rattle.pc_world.specs.Shows.{RunsThrough}
use Rattle.pc_world.proofs.Running.{keeps_none, keeps_then, on_err, runs_next, stops_in}
use Rattle.pc_world.specs.Counting.{CountsEvents}
use Rattle.pc_world.proofs.Counting.{counted_in_part, counts_next}
use Rattle.pc_world.proofs.world.World.run.Goals as goal

pub returns-in_err-step_into-clause-no_memory : goal.returns-in_err-step_into-clause-no_memory
returns-in_err-step_into-clause-no_memory c =
    on_err c.from_residual.result _
    (stops_in c.args.events.now c.loop-event.event-index c.event-item.result c.event-item.is c.loop-event-test.true c.loop-event.replies.items c.args.self.now c.loop-event.self c.loop-event.invariant.ran c.step_into.new.self c.in_err-step_into.ensures.no_memory)

pub returns-in_err-step_into-clause-counts_in_part : goal.returns-in_err-step_into-clause-counts_in_part
returns-in_err-step_into-clause-counts_in_part c =
    on_err c.from_residual.result _
    (counted_in_part c.args.events.now c.loop-event.event-index c.event-item.result c.event-item.is c.loop-event-test.true c.loop-event.replies.items c.args.self.now c.loop-event.self c.step_into.new.self c.loop-event.invariant.ran c.loop-event.invariant.counted c.in_err-step_into.ensures.counts_in_part)

pub returns-in_err-step_into-clause-kept : goal.returns-in_err-step_into-clause-kept
returns-in_err-step_into-clause-kept c =
    keeps_then c.args.self.now c.loop-event.self c.step_into.new.self c.loop-event.invariant.kept c.step_into.ensures.kept

pub loop-event-init : goal.loop-event-init
loop-event-init c = record { ran = search rules; kept = keeps_none c.args.self.now; counted = search rules }

pub loop-event-preserved : goal.loop-event-preserved
loop-event-preserved c =
    let did = c.in_ok-step_into.ensures.ok in
    let told = c.in_ok-step_into.ensures.counts in
    record {
      ran = subst (λ l. RunsThrough (take (c.loop-event.event-index + 1) c.args.events.now) l c.args.self.now c.step_into.new.self) (sym did.1)
          (runs_next c.args.events.now c.loop-event.event-index c.event-item.result c.event-item.is c.loop-event-test.true c.loop-event.replies.items c.args.self.now c.loop-event.self c.loop-event.invariant.ran did.0 c.step_into.new.self did.2);
      kept = keeps_then c.args.self.now c.loop-event.self c.step_into.new.self c.loop-event.invariant.kept c.step_into.ensures.kept;
      counted = subst (λ l. CountsEvents (take (c.loop-event.event-index + 1) c.args.events.now) l c.args.self.now c.step_into.new.self) (sym told.1)
          (counts_next c.args.events.now c.loop-event.event-index c.event-item.result c.event-item.is c.loop-event-test.true c.loop-event.replies.items told.0 c.args.self.now c.loop-event.self c.step_into.new.self c.loop-event.invariant.counted told.2);
    }
