use Rattle.std.proofs.Common.{◌≡◌, ◌+◌, ◌<◌, ◌≤◌, ◌^◌, ◌/◌, ℕ, length, ap, ◌∙◌, arith, length-append}
use Rattle.std.specs.Prelude.{decimal}
use Rattle.std.proofs.lemmas.Fmt.{decimal_digit, decimal_step, length-decimal-le}
use Rattle.pc_rank.proofs.written.digits.Goals as goal

longer : (n : ℕ) → n < 2 ^ 64 → 10 ≤ n → length (decimal n) ≡ length (decimal (n / 10)) + 1
longer n small h = ap length (decimal_step n h small) ∙ length-append (decimal (n / 10)) _

pub loop-rest-init : goal.loop-rest-init
loop-rest-init c = record {
  left = omega arith;
  few = length-decimal-le 20 c.args.number (omega arith) (omega (arith, c.ranges.number)) (omega (arith, c.ranges.number));
  small = omega (arith, c.ranges.number);
}

pub loop-rest-preserved : goal.loop-rest-preserved
loop-rest-preserved c =
    let h = c.loop-rest.invariant in
    record {
      left = omega (arith, h.left, longer c.loop-rest.rest h.small c.loop-rest-test.true);
      few = h.few;
      small = omega (arith, h.small);
    }

pub returns : goal.returns
returns c =
    let h = c.loop-rest.invariant in
    omega (arith, h.left, ap length (decimal_digit c.loop-rest.rest c.loop-rest-test.false))
