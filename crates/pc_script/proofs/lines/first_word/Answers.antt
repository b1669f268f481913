use Rattle.std.proofs.Common.{rules, tests, arith, ◌-◌, length, drop, take, length-drop}
use Rattle.std.proofs.lemmas.List.{take_all}
use Rattle.std.proofs.lemmas.Iterator.{IsFirst-from_position, YieldsList-from_slice}
use Rattle.pc_script.proofs.Splits.{byte_at, no_byte, IsSpace, IsNoSpace, words-none, words-cut, words-cut-last}
use Rattle.pc_script.proofs.lines.first_word.Goals as goal

pub returns-in_err-start : goal.returns-in_err-start
returns-in_err-start c =
    let text = c.args.text.now in
    let found = IsFirst-from_position _ _ _ IsNoSpace IsSpace c.in_err-start.ensures.ran (YieldsList-from_slice text cc) (λ x q k. search (rules, tests)) (λ x q k. search (rules, tests)) in
    rw c.from_residual.ensures (words-none text found)

pub returns-in-Some : goal.returns-in-Some
returns-in-Some c =
    let text = c.args.text.now in
    let start = c.in_ok-start.start in
    let end = c.in-Some.end in
    let rest = take (length text - start) (drop start text) in
    let whole = take_all (length text - start) (drop start text) (omega (arith, length-drop start text)) in
    let begun = IsFirst-from_position _ _ _ IsNoSpace IsSpace c.in_ok-start.ensures.ran (YieldsList-from_slice text cc) (λ x q k. search (rules, tests)) (λ x q k. search (rules, tests)) in
    let found = c.in-Some.ensures in
    words-cut text rest start end whole begun.0 begun.1 begun.2 found.0.high (byte_at 32 rest end found.0.high found.1) (no_byte 32 rest end (omega (arith, found.0.high)) found.0.before)

pub returns-in-None : goal.returns-in-None
returns-in-None c =
    let text = c.args.text.now in
    let start = c.in_ok-start.start in
    let rest = take (length text - start) (drop start text) in
    let whole = take_all (length text - start) (drop start text) (omega (arith, length-drop start text)) in
    let begun = IsFirst-from_position _ _ _ IsNoSpace IsSpace c.in_ok-start.ensures.ran (YieldsList-from_slice text cc) (λ x q k. search (rules, tests)) (λ x q k. search (rules, tests)) in
    words-cut-last text rest start whole begun.0 begun.2 (no_byte 32 rest (length rest) (omega arith) c.in-None.ensures)
