use Rattle.std.proofs.Common.{◌≡◌, ◌+◌, ◌<◌, ◌≤◌, ◌^◌, length}
use Rattle.std.specs.Prelude.{decimal}
use Rattle.pc_rank.proofs.written.digits.Given as goal

abbrev pub invariant-loop-rest : goal.invariant-loop-rest
invariant-loop-rest l = record {
  left : l.count + length (decimal l.rest) ≡ length (decimal l.number) + 1;
  few : length (decimal l.number) ≤ 20;
  small : l.rest < 2 ^ 64;
}

abbrev pub decreases-loop-rest : goal.decreases-loop-rest
decreases-loop-rest l = l.rest
