use Rattle.std.proofs.Common.{w64}
use Rattle.std.proofs.lemmas.Nat.Bits.{bit_at_clear_same, bit_at_clear_other}
use Rattle.pc_join.proofs.name_set.without_bit.Goals as goal

pub returns-clause-same : goal.returns-clause-same
returns-clause-same c = bit_at_clear_same w64 c.args.word c.args.bit c.requires

pub returns-clause-others : goal.returns-clause-others
returns-clause-others c = λ i low apart. bit_at_clear_other w64 c.args.word c.args.bit c.requires i low apart
