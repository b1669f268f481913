use Rattle.std.proofs.Common.{◌≡◌, ◌∙◌, ◌+◌, ◌-◌, ◌≤◌, ℕ, List, rules, tests, arith, length, drop, take, get_or, length-drop, sym, subst, ap}
use Rattle.std.specs.List.{AllWithin}
use Rattle.std.proofs.lemmas.Bool.{true≢false}
use Rattle.std.proofs.lemmas.List.{take_all, get_or-drop}
use Rattle.std.proofs.lemmas.Iterator.{IsFirst-from_position, YieldsList-from_slice}
use Rattle.memchr.specs.Find.{Nowhere, Passes, is_byte}
use Rattle.pc_script.proofs.Splits.{IsSpace, IsNoSpace}
use Rattle.pc_script.proofs.lines.first_space_from.Goals as goal

-- what stands in the rest of a text from a place on stands in the text
there : (text rest : List ℕ) (from k : ℕ) → rest ≡ drop from text → from ≤ k → get_or rest (k - from) 0 ≡ get_or text k 0
there text rest from k is low =
    let back : from + (k - from) ≡ k = omega (arith, low) in
    ap (λ l. get_or l (k - from) 0) is ∙ get_or-drop from text (k - from) 0 ∙ ap (λ j. get_or text j 0) back

nowhere : (text rest : List ℕ) (from n : ℕ) → rest ≡ drop from text → AllWithin IsNoSpace rest 0 n → Nowhere (Passes (is_byte 32) text) from (from + n)
nowhere text rest from n is none k low high passes =
    true≢false (sym (subst IsSpace (sym (there text rest from k is low)) passes) ∙ none (k - from) 0 (omega arith) (omega (arith, low, high)))

pub returns-in_err-place : goal.returns-in_err-place
returns-in_err-place c =
    let text = c.args.text.now in
    let from = c.args.from in
    let rest = take (length text - from) (drop from text) in
    let whole = take_all (length text - from) (drop from text) (omega (arith, length-drop from text)) in
    let none = IsFirst-from_position _ _ _ IsSpace IsNoSpace c.in_err-place.ensures.ran (YieldsList-from_slice rest cc) (λ x q k. search (rules, tests)) (λ x q k. search (rules, tests)) in
    rw c.from_residual.ensures (λ k low high. nowhere text rest from (length rest) whole none k low (omega (arith, high, c.requires, ap length whole, length-drop from text)))

pub returns : goal.returns
returns c =
    let text = c.args.text.now in
    let from = c.args.from in
    let place = c.in_ok-place.place in
    let rest = take (length text - from) (drop from text) in
    let whole = take_all (length text - from) (drop from text) (omega (arith, length-drop from text)) in
    let found = IsFirst-from_position _ _ _ IsSpace IsNoSpace c.in_ok-place.ensures.ran (YieldsList-from_slice rest cc) (λ x q k. search (rules, tests)) (λ x q k. search (rules, tests)) in
    let at : get_or rest (from + place - from) 0 ≡ get_or text (from + place) 0 = there text rest from (from + place) whole (omega arith) in
    let back : from + place - from ≡ place = omega arith in (
      record {
        low = omega arith;
        high = omega (arith, found.0, c.requires, ap length whole, length-drop from text);
        before = nowhere text rest from place whole found.2;
      },
      subst IsSpace (ap (λ j. get_or rest j 0) (sym back) ∙ at) (found.1 0),
    )
