use Rattle.std.proofs.Common.{refl, sym, ◌∙◌}
use Rattle.pc_delta.proofs.Intake.{found_fault, no_fault_yet, no_fault}
use Rattle.pc_delta.proofs.places.first_fault_of.Goals as goal

pub loop-part-init : goal.loop-part-init
loop-part-init c = refl

pub returns-in-Some : goal.returns-in-Some
returns-in-Some c = found_fault c.args.parts.now c.loop-part.part-index c.part-item.result c.in-Some.found c.part-item.is c.loop-part-test.true c.loop-part.invariant (sym c.fault.ensures ∙ c.in-Some.is)

pub loop-part-preserved : goal.loop-part-preserved
loop-part-preserved c = no_fault_yet c.args.parts.now c.loop-part.part-index c.part-item.result c.part-item.is c.loop-part-test.true c.loop-part.invariant (sym c.fault.ensures ∙ c.in_default.is)

pub returns : goal.returns
returns c = no_fault c.args.parts.now c.loop-part.part-index c.loop-part-test.false c.loop-part.invariant
