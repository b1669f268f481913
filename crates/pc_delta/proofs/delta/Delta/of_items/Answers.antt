use Rattle.pc_delta.specs.Inner.Kept.{kept}
use Rattle.pc_delta.proofs.Telling.{faultless_parts, set_in, no_conflict_in, are_of_run}
use Rattle.pc_delta.proofs.delta.Delta.of_items.Goals as goal

pub invariant_of-result : goal.invariant_of-result
invariant_of-result c = faultless_parts c.args.items.now (kept c.in_ok-parts.parts) c.requires.tellable c.in_ok-parts.ensures

pub returns-clause-set : goal.returns-clause-set
returns-clause-set c = set_in c.args.items.now (kept c.in_ok-parts.parts) c.in_ok-parts.ensures

pub returns-clause-no_conflict : goal.returns-clause-no_conflict
returns-clause-no_conflict c = no_conflict_in c.args.items.now (kept c.in_ok-parts.parts) c.requires.tellable c.in_ok-parts.ensures

pub returns-clause-of_run : goal.returns-clause-of_run
returns-clause-of_run c = are_of_run c.args.items.now (kept c.in_ok-parts.parts) c.in_ok-parts.ensures
