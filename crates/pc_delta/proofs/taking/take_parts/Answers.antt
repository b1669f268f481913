use Rattle.std.proofs.Common.{[], ◌∷◌, ◌+◌, drop}
use Rattle.pc_delta.proofs.Intake.{taking_start, taking_on, taking_stops, next_part, no_part_left, next_faultless, faultless_first, faultless_rest, one_taken, one_partly, partly}
use Rattle.pc_delta.proofs.Others.{all_kept, keeping_on, keeping_start, keeping_stops, next_kept, one_keeps}
use Rattle.pc_delta.proofs.taking.take_parts.Goals as goal

pub loop-part-init : goal.loop-part-init
loop-part-init c = record { taking = taking_start c.args.parts.now c.args.view.now; others = keeping_start c.args.parts.now c.args.view.now; faultless = c.requires }

pub take_part-requires : goal.take_part-requires
take_part-requires c = faultless_first c.part-item.result (drop (c.loop-part.part-index + 1) c.args.parts.now) (next_faultless c.args.parts.now c.loop-part.part-index c.part-item.result c.part-item.is c.loop-part-test.true c.loop-part.invariant.faultless)

pub returns-in_err-take_part-clause-partly : goal.returns-in_err-take_part-clause-partly
returns-in_err-take_part-clause-partly c =
    taking_stops c.args.parts.now (c.part-item.result ∷ []) (drop (c.loop-part.part-index + 1) c.args.parts.now) c.args.view.now c.loop-part.view c.take_part.new.view
    (next_part c.args.parts.now c.loop-part.part-index c.part-item.result c.args.view.now c.loop-part.view c.part-item.is c.loop-part-test.true c.loop-part.invariant.taking)
    (one_partly c.part-item.result c.loop-part.view c.take_part.new.view c.take_part.ensures.between c.take_part.ensures.of_run)

pub loop-part-preserved : goal.loop-part-preserved
loop-part-preserved c = record {
  taking = taking_on c.args.parts.now (c.part-item.result ∷ []) (drop (c.loop-part.part-index + 1) c.args.parts.now) c.args.view.now c.loop-part.view c.take_part.new.view
      (next_part c.args.parts.now c.loop-part.part-index c.part-item.result c.args.view.now c.loop-part.view c.part-item.is c.loop-part-test.true c.loop-part.invariant.taking)
      (one_taken c.part-item.result c.loop-part.view c.take_part.new.view c.in_ok-take_part.ensures.union c.take_part.ensures.of_run);
  others = keeping_on c.args.parts.now (c.part-item.result ∷ []) (drop (c.loop-part.part-index + 1) c.args.parts.now) c.args.view.now c.loop-part.view c.take_part.new.view
      (next_kept c.args.parts.now c.loop-part.part-index c.part-item.result c.args.view.now c.loop-part.view c.part-item.is c.loop-part-test.true c.loop-part.invariant.others)
      (one_keeps c.part-item.result c.loop-part.view c.take_part.new.view c.take_part.ensures.others);
  faultless = faultless_rest c.part-item.result (drop (c.loop-part.part-index + 1) c.args.parts.now) (next_faultless c.args.parts.now c.loop-part.part-index c.part-item.result c.part-item.is c.loop-part-test.true c.loop-part.invariant.faultless);
}

pub returns-clause-done : goal.returns-clause-done
returns-clause-done c = no_part_left c.args.parts.now c.loop-part.part-index c.args.view.now c.loop-part.view c.loop-part-test.false c.loop-part.invariant.taking

pub returns-clause-partly : goal.returns-clause-partly
returns-clause-partly c = partly c.args.parts.now c.args.view.now c.loop-part.view (no_part_left c.args.parts.now c.loop-part.part-index c.args.view.now c.loop-part.view c.loop-part-test.false c.loop-part.invariant.taking)

pub returns-in_err-take_part-clause-others : goal.returns-in_err-take_part-clause-others
returns-in_err-take_part-clause-others c =
    keeping_stops c.args.parts.now (c.part-item.result ∷ []) (drop (c.loop-part.part-index + 1) c.args.parts.now) c.args.view.now c.loop-part.view c.take_part.new.view
    (next_kept c.args.parts.now c.loop-part.part-index c.part-item.result c.args.view.now c.loop-part.view c.part-item.is c.loop-part-test.true c.loop-part.invariant.others)
    (one_keeps c.part-item.result c.loop-part.view c.take_part.new.view c.take_part.ensures.others)

pub returns-clause-others : goal.returns-clause-others
returns-clause-others c = all_kept c.args.parts.now _ c.args.view.now c.loop-part.view c.loop-part.invariant.others
