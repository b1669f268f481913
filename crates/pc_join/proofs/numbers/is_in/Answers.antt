use Rattle.std.proofs.Common.{arith, ◌∙◌}
use Rattle.pc_join.proofs.Walks.{half_low, half_high, part_one, part_none}
use Rattle.pc_join.proofs.numbers.is_in.Goals as goal

pub loop-part-preserved-then-n-high : goal.loop-part-preserved-then-n-high
loop-part-preserved-then-n-high c = half_low c.args.ranges.now c.loop-part.part.now c.split_at.result.0.now c.split_at.result.1.now _ c.args.n c.loop-part.invariant c.split_at.ensures.front c.split_at.ensures.back (omega (arith, c.split_at.ensures.back_len)) c.if-n-high.true

pub loop-part-preserved : goal.loop-part-preserved
loop-part-preserved c = half_high c.args.ranges.now c.loop-part.part.now c.split_at.result.0.now c.split_at.result.1.now _ c.args.n c.loop-part.invariant c.split_at.ensures.front c.split_at.ensures.back (omega (arith, c.split_at.ensures.back_len)) c.if-n-high.false

pub returns-in-Some : goal.returns-in-Some
returns-in-Some c = c.has_number.ensures ∙ part_one c.args.ranges.now c.loop-part.part.now c.in-Some.field-0-1.now c.in-Some.range.now c.args.n c.loop-part.invariant c.in-Some.ensures.cases.0 c.loop-part-test.false

pub returns-in-None : goal.returns-in-None
returns-in-None c = part_none c.args.ranges.now c.loop-part.part.now c.args.n c.loop-part.invariant c.in-None.ensures.cases
