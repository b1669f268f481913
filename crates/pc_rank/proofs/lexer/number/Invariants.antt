use Rattle.pc_rank.proofs.Numerals.{HasRead}
use Rattle.pc_rank.proofs.lexer.number.Given as goal

abbrev pub invariant-loop-byte : goal.invariant-loop-byte
invariant-loop-byte l = HasRead l.word l.byte-index l.value
