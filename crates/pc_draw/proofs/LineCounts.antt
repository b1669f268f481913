-- How many lines a text has.
use Rattle.std.proofs.Common.{◌≡◌, ℕ, suc, ◌+◌, ◌-◌, ◌<◌, ◌≤◌, ◌==◌, Bool, true, false, List, [], ◌∷◌, length, cond, refl, sym, ap, ◌∙◌, Some, count_by, arith}
use Rattle.std.specs.List.{slice_split, onto_first}
use Rattle.std.specs.Prelude.{slice_get}
use Rattle.std.specs.Str.Lines.{lines, lines_of_parts}
use Rattle.std.proofs.lemmas.Bool.{ne_eqb}
use Rattle.std.proofs.lemmas.List.Splits.{length-slice_split}
use Rattle.std.proofs.lemmas.List.Sums.{sum_by-cons}
use Rattle.std.proofs.lemmas.Option.{none-some, same_Some}

-- whether a byte is a line feed
abbrev pub is_feed : ℕ → Bool
is_feed byte = byte == 10

-- a part in front of others is a line
more_parts : (part : List ℕ) (parts : List (List ℕ)) → 0 < length parts → length (lines_of_parts (part ∷ parts)) ≡ length (lines_of_parts parts) + 1
more_parts part [] some = absurd (omega (arith, some))
more_parts part (next ∷ parts) some = omega arith

-- where the first part becomes longer there are as many lines, unless it was empty and alone
longer_first : (byte : ℕ) (parts : List (List ℕ)) (count : ℕ) → 0 < length parts → length (lines_of_parts parts) ≡ count → (length parts ≡ 1 → count ≡ 1)
    → length (lines_of_parts (onto_first byte parts)) ≡ count
longer_first byte [] count some h alone = absurd (omega (arith, some))
longer_first byte (part ∷ []) count some h alone =
    ap (λ is. length (cond is [] ((byte ∷ part) ∷ []))) (ne_eqb (suc (length part)) 0 (λ e. omega (arith, e))) ∙ sym (alone refl)
longer_first byte (part ∷ next ∷ parts) count some h alone = omega (arith, h, more_parts part (next ∷ parts) (omega arith), more_parts (byte ∷ part) (next ∷ parts) (omega arith))

-- A text has as many lines as line feeds, and so many behind the last
record Counts (script : List ℕ) (behind : ℕ) : Type 0 where
  lines_are : length (lines script) ≡ count_by is_feed script + behind
  some : 1 ≤ count_by is_feed script + behind
  few : behind ≤ 1

step : (byte : ℕ) (script : List ℕ) (behind : ℕ) (is : Bool) → is_feed byte ≡ is → Counts script behind
    → length (lines_of_parts (cond is ([] ∷ slice_split is_feed script) (onto_first byte (slice_split is_feed script)))) ≡ cond is 1 0 + count_by is_feed script + behind
step byte script behind true e h = omega (arith, h.lines_are, more_parts [] (slice_split is_feed script) (omega (arith, length-slice_split is_feed script)))
step byte script behind false e h =
    longer_first byte (slice_split is_feed script) (0 + count_by is_feed script + behind) (omega (arith, length-slice_split is_feed script)) (omega (arith, h.lines_are))
    (λ alone. omega (arith, alone, length-slice_split is_feed script, h.some, h.few))

counts_more : (byte : ℕ) (script : List ℕ) (behind : ℕ) → Counts script behind → Counts (byte ∷ script) behind
counts_more byte script behind h =
    let sums : count_by is_feed (byte ∷ script) ≡ cond (is_feed byte) 1 0 + count_by is_feed script = sum_by-cons (λ b. cond (is_feed b) 1 0) byte script in
    record {
      lines_are = step byte script behind (is_feed byte) refl h ∙ ap (λ n. n + behind) (sym sums);
      some = omega (arith, sums, h.some);
      few = h.few;
    }

counts_one : (byte : ℕ) (is : Bool) → is_feed byte ≡ is → Counts (byte ∷ []) (cond is 0 1)
counts_one byte true e =
    let sums : count_by is_feed (byte ∷ []) ≡ cond (is_feed byte) 1 0 + 0 = sum_by-cons (λ b. cond (is_feed b) 1 0) byte [] in
    let one : count_by is_feed (byte ∷ []) ≡ 1 = sums ∙ ap (λ b. cond b 1 0 + 0) e in
    record {
      lines_are = ap (λ b. length (lines_of_parts (cond b ([] ∷ [] ∷ []) ((byte ∷ []) ∷ [])))) e ∙ omega (arith, one);
      some = omega (arith, one);
      few = omega arith;
    }
counts_one byte false e =
    let sums : count_by is_feed (byte ∷ []) ≡ cond (is_feed byte) 1 0 + 0 = sum_by-cons (λ b. cond (is_feed b) 1 0) byte [] in
    let none : count_by is_feed (byte ∷ []) ≡ 0 = sums ∙ ap (λ b. cond b 1 0 + 0) e in
    record {
      lines_are = ap (λ b. length (lines_of_parts (cond b ([] ∷ [] ∷ []) ((byte ∷ []) ∷ [])))) e ∙ omega (arith, none);
      some = omega arith;
      few = omega arith;
    }

counts : (script : List ℕ) (last : ℕ) (is : Bool) → is_feed last ≡ is → Some last ≡ slice_get script (length script - 1) → Counts script (cond is 0 1)
counts [] last is e h = absurd (none-some last (sym h))
counts (byte ∷ []) last is e h = counts_one byte is (ap is_feed (sym (same_Some last byte h)) ∙ e)
counts (byte ∷ next ∷ more) last is e h =
    let place : length (byte ∷ next ∷ more) - 1 ≡ suc (length (next ∷ more) - 1) = omega arith in
    counts_more byte (next ∷ more) (cond is 0 1) (counts (next ∷ more) last is e (h ∙ ap (slice_get (byte ∷ next ∷ more)) place))

-- of a text whose last byte is no line feed, and of one whose last byte is
pub counted_behind : (script : List ℕ) (last : ℕ) → is_feed last ≡ false → Some last ≡ slice_get script (length script - 1) → count_by (λ byte. byte == 10) script + 1 ≡ length (lines script)
counted_behind script last e h = sym (counts script last false e h).lines_are

pub counted : (script : List ℕ) (last : ℕ) → is_feed last ≡ true → Some last ≡ slice_get script (length script - 1) → count_by (λ byte. byte == 10) script ≡ length (lines script)
counted script last e h = omega (arith, (counts script last true e h).lines_are)
