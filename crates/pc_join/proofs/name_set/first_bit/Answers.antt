use Rattle.std.proofs.Common.{◌-◌, ◌*◌, ◌^◌, ◌%◌, arith, ◌∙◌, ap, w64}
use Rattle.std.proofs.lemmas.Nat.Bits.{bit_at-zero, bit_at-trailing_zeros}
use Rattle.std.specs.Int.{bit_at}
use Rattle.std.specs.Int.Bits.{and_lt}
use Rattle.pc_join.proofs.Blocks.{left, lacks, has, reached}
use Rattle.pc_join.proofs.name_set.first_bit.Goals as goal

pub returns-then-left-eq0 : goal.returns-then-left-eq0
returns-then-left-eq0 c = λ bit low b. lacks c.args.word c.args.others c.args.low c.ranges.others.fits c.requires bit low b (ap (λ n. bit_at n bit) c.if-left-eq0.true ∙ bit_at-zero bit)

pub returns : goal.returns
returns c =
    let fits = and_lt 64 _ ((2 ^ 64 - 1) * 2 ^ c.args.low % 2 ^ 64) (and_lt 64 c.args.word (2 ^ 64 - 1 - c.args.others) c.ranges.word.fits (omega arith)) (omega arith) in
    let lowest = bit_at-trailing_zeros w64 (left c.args.word c.args.others c.args.low) (omega (arith, c.if-left-eq0.false)) fits in (
      reached c.args.word c.args.others c.args.low c.ranges.others.fits c.requires _ lowest.0 lowest.1,
      lowest.0,
      has c.args.word c.args.others c.args.low c.ranges.others.fits c.requires _ lowest.0 lowest.1,
      λ bit low less. lacks c.args.word c.args.others c.args.low c.ranges.others.fits c.requires bit low (omega (arith, less, lowest.0)) (lowest.2 bit less),
    )
