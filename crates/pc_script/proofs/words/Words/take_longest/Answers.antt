use Rattle.std.proofs.Common.{◌≡◌, ◌<◌, ◌-◌, drop, length, take, arith, length-drop, refl}
use Rattle.std.specs.Str.Parse.{digits_value}
use Rattle.std.proofs.lemmas.List.{take_all}
use Rattle.pc_script.proofs.Numerals.{not_plain}
use Rattle.pc_script.proofs.Taking.{digits_with_last, ends_at, names_value, no_digit_there, too_long, value_of_named, value_with_last}
use Rattle.pc_script.proofs.words.Words.take_longest.Goals as goal

pub returns-then-not-is_ascii_digit : goal.returns-then-not-is_ascii_digit
returns-then-not-is_ascii_digit c =
    let none = c.if-not-is_ascii_digit.ensures.cases in
    no_digit_there c.args.self.now.rest.now 19 c.requires.digits.0 c.requires.longer.0 c.requires.longer.1 (λ digit. omega (arith, none, digit))

pub returns-then-not-is_end : goal.returns-then-not-is_end
returns-then-not-is_end c =
    let text = c.args.self.now.rest.now in
    let digits = digits_with_last text c.requires.digits.0 c.requires.longer.0 c.if-not-is_ascii_digit.ensures.cases in
    let more = c.if-not-is_end.ensures in
    too_long text 20 digits (omega arith) more.0 more.1

pub returns-then-not-is_plain : goal.returns-then-not-is_plain
returns-then-not-is_plain c =
    let text = c.args.self.now.rest.now in
    let digits = digits_with_last text c.requires.digits.0 c.requires.longer.0 c.if-not-is_ascii_digit.ensures.cases in
    let end = ends_at text 20 digits (omega (arith, c.requires.longer.0)) c.if-not-is_end.ensures in
    rw end (λ n small is. not_plain (take 20 text) n (λ plain. let told = c.is_plain.ensures.1 plain in cc) small is)

pub returns-in_err-value : goal.returns-in_err-value
returns-in_err-value c =
    let text = c.args.self.now.rest.now in
    let digits = digits_with_last text c.requires.digits.0 c.requires.longer.0 c.if-not-is_ascii_digit.ensures.cases in
    let end = ends_at text 20 digits (omega (arith, c.requires.longer.0)) c.if-not-is_end.ensures in
    let value = value_with_last text c.requires.digits.0 c.requires.longer.0 c.if-not-is_ascii_digit.ensures.cases in
    rw (c.from_residual.ensures, end) (λ n small is.
    let same = value_of_named (take 20 text) n small is in
    omega (arith, same, value, c.requires.digits.1, small, c.in_err-value.ensures))

pub returns : goal.returns
returns c =
    let text = c.args.self.now.rest.now in
    let digits = digits_with_last text c.requires.digits.0 c.requires.longer.0 c.if-not-is_ascii_digit.ensures.cases in
    let end = ends_at text 20 digits (omega (arith, c.requires.longer.0)) c.if-not-is_end.ensures in
    let value = value_with_last text c.requires.digits.0 c.requires.longer.0 c.if-not-is_ascii_digit.ensures.cases in
    let is : digits_value 10 (take 20 text) ≡ c.in_ok-value.value = omega (arith, value, c.requires.digits.1, c.in_ok-value.ensures.1) in
    let small : digits_value 10 (take 20 text) < 18446744073709551616 = omega (arith, is, c.in_ok-value.ensures.0) in
    let named = names_value text 20 digits small (c.is_plain.ensures.0 (cc)) in
    let rest = take_all (length text - 20) (drop 20 text) (omega (arith, length-drop 20 text)) in
    rw (end, rest) (c.in_ok-value.ensures.0, rw is at named, refl)
