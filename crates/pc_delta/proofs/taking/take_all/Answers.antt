use Rattle.std.proofs.Common.{◌+◌, drop}
use Rattle.pc_delta.specs.Parts.{all_parts}
use Rattle.pc_delta.proofs.Intake.{taking_start, taking_on, taking_stops, next_delta, no_delta_left, partly}
use Rattle.pc_delta.proofs.Others.{all_kept, keeping_on, keeping_start, keeping_stops, next_delta_kept}
use Rattle.pc_delta.proofs.taking.take_all.Goals as goal

pub loop-delta-init : goal.loop-delta-init
loop-delta-init c = record { taking = taking_start (all_parts c.args.deltas.now) c.args.view.now; others = keeping_start (all_parts c.args.deltas.now) c.args.view.now }

pub returns-in_err-take_in-clause-partly : goal.returns-in_err-take_in-clause-partly
returns-in_err-take_in-clause-partly c =
    taking_stops (all_parts c.args.deltas.now) c.delta-item.result (all_parts (drop (c.loop-delta.delta-index + 1) c.args.deltas.now)) c.args.view.now c.loop-delta.view c.take_in.new.view
    (next_delta c.args.deltas.now c.loop-delta.delta-index c.delta-item.result c.args.view.now c.loop-delta.view c.delta-item.is c.loop-delta-test.true c.loop-delta.invariant.taking)
    c.take_in.ensures.partly

pub loop-delta-preserved : goal.loop-delta-preserved
loop-delta-preserved c = record {
  taking = taking_on (all_parts c.args.deltas.now) c.delta-item.result (all_parts (drop (c.loop-delta.delta-index + 1) c.args.deltas.now)) c.args.view.now c.loop-delta.view c.take_in.new.view
      (next_delta c.args.deltas.now c.loop-delta.delta-index c.delta-item.result c.args.view.now c.loop-delta.view c.delta-item.is c.loop-delta-test.true c.loop-delta.invariant.taking)
      c.in_ok-take_in.ensures.done;
  others = keeping_on (all_parts c.args.deltas.now) c.delta-item.result (all_parts (drop (c.loop-delta.delta-index + 1) c.args.deltas.now)) c.args.view.now c.loop-delta.view c.take_in.new.view
      (next_delta_kept c.args.deltas.now c.loop-delta.delta-index c.delta-item.result c.args.view.now c.loop-delta.view c.delta-item.is c.loop-delta-test.true c.loop-delta.invariant.others)
      c.take_in.ensures.others;
}

pub returns-clause-done : goal.returns-clause-done
returns-clause-done c = no_delta_left c.args.deltas.now c.loop-delta.delta-index c.args.view.now c.loop-delta.view c.loop-delta-test.false c.loop-delta.invariant.taking

pub returns-clause-partly : goal.returns-clause-partly
returns-clause-partly c = partly (all_parts c.args.deltas.now) c.args.view.now c.loop-delta.view (no_delta_left c.args.deltas.now c.loop-delta.delta-index c.args.view.now c.loop-delta.view c.loop-delta-test.false c.loop-delta.invariant.taking)

pub returns-in_err-take_in-clause-others : goal.returns-in_err-take_in-clause-others
returns-in_err-take_in-clause-others c =
    keeping_stops (all_parts c.args.deltas.now) c.delta-item.result (all_parts (drop (c.loop-delta.delta-index + 1) c.args.deltas.now)) c.args.view.now c.loop-delta.view c.take_in.new.view
    (next_delta_kept c.args.deltas.now c.loop-delta.delta-index c.delta-item.result c.args.view.now c.loop-delta.view c.delta-item.is c.loop-delta-test.true c.loop-delta.invariant.others)
    c.take_in.ensures.others

pub returns-clause-others : goal.returns-clause-others
returns-clause-others c = all_kept (all_parts c.args.deltas.now) _ c.args.view.now c.loop-delta.view c.loop-delta.invariant.others
