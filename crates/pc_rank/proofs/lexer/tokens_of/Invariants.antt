use Rattle.std.proofs.Common.{◌≡◌, ◌+◌, ◌≤◌, ◌++◌, length, take}
use Rattle.pc_rank.specs.Inner.Cutting.{tokens_of}
use Rattle.pc_rank.proofs.lexer.tokens_of.Given as goal

abbrev pub invariant-loop-byte : goal.invariant-loop-byte
invariant-loop-byte l = record {
  tokens : tokens_of l.text ≡ take l.count l.tokens ++ tokens_of l.rest;
  shorter : l.count + length l.rest ≤ length l.text;
  wide : length l.tokens ≡ 512;
}

abbrev pub decreases-loop-byte : goal.decreases-loop-byte
decreases-loop-byte l = length l.rest
