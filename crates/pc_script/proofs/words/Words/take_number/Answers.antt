use Rattle.std.proofs.Common.{subst, ◌≡◌, ◌-◌, take, drop, length, arith, length-drop, refl}
use Rattle.std.specs.Str.Parse.{AllDigits, digits_value}
use Rattle.std.proofs.lemmas.List.{take_all}
use Rattle.pc_script.proofs.Numerals.{not_plain}
use Rattle.pc_script.proofs.Taking.{ends_at, names_value, no_digit_there, small_value}
use Rattle.pc_script.proofs.words.Words.take_number.Goals as goal

pub returns-then-not-is_plain : goal.returns-then-not-is_plain
returns-then-not-is_plain c =
    let text = c.args.self.now.rest.now in
    let read = c.short_number-value.ensures in
    let end = ends_at text c.short_number-value.result.1 read.digits.2 read.digits.1 (c.if-is_end.ensures) in
    rw end (λ n small is. not_plain (take c.short_number-value.result.1 text) n (λ plain. let told = c.is_plain.ensures.1 plain in cc) small is)

pub returns-then-is_end : goal.returns-then-is_end
returns-then-is_end c =
    let text = c.args.self.now.rest.now in
    let count = c.short_number-value.result.1 in
    let read = c.short_number-value.ensures in
    let end = ends_at text count read.digits.2 read.digits.1 (c.if-is_end.ensures) in
    let small = small_value text count read.digits.2 read.digits.1 read.digits.0 in
    let named = names_value text count read.digits.2 small (c.is_plain.ensures.0 (cc)) in
    let rest = take_all (length text - count) (drop count text) (omega (arith, length-drop count text)) in
    rw (end, read.value, rest) (small, named, refl)

pub returns-then-end-lt-SHORT : goal.returns-then-end-lt-SHORT
returns-then-end-lt-SHORT c =
    let text = c.args.self.now.rest.now in
    let read = c.short_number-value.ensures in
    let more = c.if-is_end.ensures in
    no_digit_there text c.short_number-value.result.1 read.digits.2 more.0 more.1 (read.all c.if-end-lt-SHORT.true more.0)

pub take_longest-requires-clause-digits : goal.take_longest-requires-clause-digits
take_longest-requires-clause-digits c =
    let read = c.short_number-value.ensures in
    let most : c.short_number-value.result.1 ≡ 19 = omega (arith, read.digits.0, c.if-end-lt-SHORT.false) in
    (subst (λ n. AllDigits 10 (take n c.args.self.now.rest.now)) most read.digits.2, subst (λ n. c.short_number-value.result.0 ≡ digits_value 10 (take n c.args.self.now.rest.now)) most read.value)
