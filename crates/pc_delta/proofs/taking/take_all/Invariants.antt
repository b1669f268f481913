use Rattle.pc_delta.proofs.Intake.{IsTakingAllFrom}
use Rattle.pc_delta.proofs.Others.{IsKeepingAllFrom}
use Rattle.pc_delta.proofs.taking.take_all.Given as goal

abbrev pub invariant-loop-delta : goal.invariant-loop-delta
invariant-loop-delta l = record {
  taking : IsTakingAllFrom l.deltas l.delta-index l.fn.view l.view;
  others : IsKeepingAllFrom l.deltas l.delta-index l.fn.view l.view;
}
