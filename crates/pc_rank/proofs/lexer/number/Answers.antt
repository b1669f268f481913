use Rattle.std.proofs.Common.{◌≡◌, ◌-◌, ◌*◌, ◌+◌, get_or, subst, arith}
use Rattle.pc_rank.proofs.Numerals.{HasRead, not_plain, is_digit_at, read_more, at_most, read_all}
use Rattle.pc_rank.proofs.lexer.number.Goals as goal

pub returns-then-not-is_plain : goal.returns-then-not-is_plain
returns-then-not-is_plain c = λ n small is. not_plain c.args.word.now n (λ plain. let told = c.is_plain.ensures.1 plain in cc) small is

pub returns-then-not-is_ascii_digit : goal.returns-then-not-is_ascii_digit
returns-then-not-is_ascii_digit c = λ n small is.
    omega (arith, is_digit_at c.args.word.now n c.loop-byte.byte-index small is c.loop-byte-test.true, c.if-not-is_ascii_digit.ensures.cases)

pub returns-in_err-checked_mul : goal.returns-in_err-checked_mul
returns-in_err-checked_mul c = rw c.from_residual.ensures (λ n small is.
    c.in_err-checked_mul.ensures
    (omega (arith, small, at_most c.args.word.now n c.loop-byte.byte-index c.loop-byte.value c.loop-byte.invariant c.loop-byte-test.true small is)))

pub returns-in_err-value : goal.returns-in_err-value
returns-in_err-value c = rw c.from_residual-in_err-value.ensures (λ n small is.
    let digit = c.from-digit.ensures in
    let tens = c.in_ok-checked_mul.ensures.1 in
    let most = at_most c.args.word.now n c.loop-byte.byte-index c.loop-byte.value c.loop-byte.invariant c.loop-byte-test.true small is in
    c.in_err-value.ensures (omega (arith, small, digit, tens, most)))

pub loop-byte-preserved : goal.loop-byte-preserved
loop-byte-preserved c =
    let byte = get_or c.args.word.now c.loop-byte.byte-index 0 in
    let digit = c.from-digit.ensures in
    let tens = c.in_ok-checked_mul.ensures.1 in
    let sum = c.in_ok-value.ensures in
    let is : c.loop-byte.value * 10 + (byte - 48) ≡ c.in_ok-value.value = omega (arith, digit, tens, sum.1) in
    subst (HasRead c.args.word.now (c.loop-byte.byte-index + 1)) is
    (read_more c.args.word.now c.loop-byte.byte-index c.loop-byte.value c.loop-byte.invariant c.loop-byte-test.true c.if-not-is_ascii_digit.ensures.cases (omega (arith, is, sum.0, sum.1)))

pub returns : goal.returns
returns c = (c.loop-byte.invariant.small, read_all c.args.word.now c.loop-byte.byte-index c.loop-byte.value (c.is_plain.ensures.0 (cc)) c.loop-byte.invariant c.loop-byte-test.false)
