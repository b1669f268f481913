use Rattle.std.proofs.Common.{◌-◌, drop, length, arith, length-drop}
use Rattle.std.proofs.lemmas.List.{take_all}
use Rattle.pc_script.proofs.Taking.{takes_digit, takes_two_digits}
use Rattle.pc_script.proofs.words.Words.small_number.Goals as goal

pub returns-then-is_end : goal.returns-then-is_end
returns-then-is_end c =
    let text = c.args.self.now.rest.now in
    let digit = c.if-not-is_ascii_digit.ensures.cases in
    let rest = take_all (length text - 1) (drop 1 text) (omega (arith, length-drop 1 text)) in
    rw rest (omega (arith, digit), takes_digit text digit c.if-is_end.ensures)

pub returns : goal.returns
returns c =
    let text = c.args.self.now.rest.now in
    let first = c.if-not-is_ascii_digit.ensures.cases in
    let second = c.if-not-is_ascii_digit-2.ensures.cases in
    let rest = take_all (length text - 2) (drop 2 text) (omega (arith, length-drop 2 text)) in
    rw rest (omega (arith, first, second), takes_two_digits text first (λ zero. omega (arith, zero, c.if-first-eq0.false)) second c.if-not-is_end.ensures)
