use Rattle.std.proofs.Common.{◌≡◌, None, drop}
use Rattle.pc_delta.specs.Faults.{first_fault}
use Rattle.pc_delta.proofs.Intake.{IsTakingFrom}
use Rattle.pc_delta.proofs.Others.{IsKeepingFrom}
use Rattle.pc_delta.proofs.taking.take_parts.Given as goal

abbrev pub invariant-loop-part : goal.invariant-loop-part
invariant-loop-part l = record {
  taking : IsTakingFrom l.parts l.part-index l.fn.view l.view;
  others : IsKeepingFrom l.parts l.part-index l.fn.view l.view;
  faultless : first_fault (drop l.part-index l.parts) ≡ None;
}
