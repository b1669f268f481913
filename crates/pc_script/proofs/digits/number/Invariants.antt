use Rattle.pc_script.proofs.Numerals.{HasRead}
use Rattle.pc_script.proofs.digits.number.Given as goal

abbrev pub invariant-loop-byte : goal.invariant-loop-byte
invariant-loop-byte l = HasRead l.word l.byte-index l.value
