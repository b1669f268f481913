use Rattle.std.proofs.Common.{◌≡◌, ◌+◌, drop}
use Rattle.pc_rank.specs.Inner.Cutting.{letters}
use Rattle.pc_rank.proofs.lexer.letters.Given as goal

abbrev pub invariant-loop-byte : goal.invariant-loop-byte
invariant-loop-byte l = record {
  count : letters l.text ≡ l.count + letters (drop l.byte-index l.text);
  is : l.count ≡ l.byte-index;
}
