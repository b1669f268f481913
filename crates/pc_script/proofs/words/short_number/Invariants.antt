use Rattle.std.proofs.Common.{◌≡◌, ◌≤◌, drop, length}
use Rattle.pc_script.proofs.Numerals.{HasRead}
use Rattle.pc_script.proofs.words.short_number.Given as goal

abbrev pub invariant-loop-rest : goal.invariant-loop-rest
invariant-loop-rest l = record {
  read : HasRead l.text l.count l.value;
  short : l.count ≤ 19;
  rest : l.rest ≡ drop l.count l.text;
  within : l.count ≤ length l.text;
}

abbrev pub decreases-loop-rest : goal.decreases-loop-rest
decreases-loop-rest l = length l.rest
