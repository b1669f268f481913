-- The lines and the words of a text.
use Rattle.std.proofs.Common.{◌≡◌, ℕ, zero, suc, ◌+◌, ◌-◌, length-drop, filter, cond, inl, inr, ◌⊎◌, subst, refl, ◌<◌, ◌≤◌, Bool, true, false, not, List, [], ◌∷◌, length, map, take, drop, eqb, get_or, sym, ap, ◌∙◌, ◌++◌, arith, add-one, drop-cons, take-append-drop}
use Rattle.std.specs.List.{slice_split, AllWithin, HoldsAt, position_or_len}
use Rattle.std.specs.Str.Lines.{strip_carriage_return}
use Rattle.std.proofs.lemmas.List.Splits.{slice_split-cons_yes, slice_split_none, slice_split_first, length-slice_split}
use Rattle.std.proofs.lemmas.List.Sums.{prefix_len_is, count_by-le-length, position_or_len_is, passes_at_first, fails_before_first}
use Rattle.std.proofs.lemmas.Grind.{get_or_default_zero}
use Rattle.std.proofs.lemmas.List.{length-map, length-take-le, take_all, drop_all}
use Rattle.std.proofs.lemmas.Bool.{cases_lt, ne_eqb, true≢false}
use Rattle.pc_script.specs.Inner.Taking.{StartsWithNoSpace, word_end}
use Rattle.pc_script.specs.Text.{lines, words}

-- a byte is a line feed, or isn't
abbrev pub IsLineFeed : ℕ → Type 0
IsLineFeed b = eqb b 10 ≡ true

abbrev pub IsNoLineFeed : ℕ → Type 0
IsNoLineFeed b = eqb b 10 ≡ false

untrue : (b : Bool) → (b ≡ true → ⊥) → b ≡ false
untrue true none = absurd (none refl)
untrue false none = refl

-- a place of a text where this byte is found, and places where it is not
pub byte_at : (byte : ℕ) (text : List ℕ) (place : ℕ) → place < length text → eqb (get_or text place 0) byte ≡ true → HoldsAt (λ b. eqb b byte ≡ true) text place
byte_at byte text place within is = λ d. subst (λ b. eqb b byte ≡ true) (sym (get_or_default_zero text place d within)) is

pub no_byte : (byte : ℕ) (text : List ℕ) (end : ℕ) → end ≤ length text → ((k : ℕ) → 0 ≤ k → k < end → eqb (get_or text k 0) byte ≡ true → ⊥)
    → AllWithin (λ b. eqb b byte ≡ false) text 0 end
no_byte byte text end within none = λ k d low high.
    subst (λ b. eqb b byte ≡ false) (sym (get_or_default_zero text k d (omega (arith, within, high)))) (untrue (eqb (get_or text k 0) byte) (none k low high))

-- a text without a line feed is one line
pub lines-last : (text : List ℕ) → AllWithin IsNoLineFeed text 0 (length text) → lines text ≡ strip_carriage_return text ∷ []
unfolding lines
lines-last text none =
    ap (map strip_carriage_return) (slice_split_none (λ b. eqb b 10) text (λ k d h. none k d (omega arith) h))

-- the first line ends at the first line feed
pub lines-first : (text : List ℕ) (end : ℕ) → end < length text → HoldsAt IsLineFeed text end → AllWithin IsNoLineFeed text 0 end
    → lines text ≡ strip_carriage_return (take end text) ∷ lines (drop (end + 1) text)
unfolding lines
lines-first text end within at before =
    let here : position_or_len (λ b. eqb b 10) text ≡ end =
    prefix_len_is (λ b. not (eqb b 10)) text end 0 (omega arith) (λ k h. ap not (before k 0 (omega arith) h)) (λ h. ap not (at 0)) in
    let first = slice_split_first (λ b. eqb b 10) text 0 (omega arith) in
    ap (map strip_carriage_return) (rw here at first)

-- a text has no more lines than bytes, and one
pub lines-few : (text : List ℕ) → length (lines text) ≤ length text + 1
unfolding lines
lines-few text =
    let parts = length-slice_split (λ b. eqb b 10) text in
    let feeds = count_by-le-length (λ b. eqb b 10) text in
    simp length-map (omega arith)

-- a list is what stands before a place, what stands there, and what stands after it
pub list_at : {X : Type 0} (all front : List X) (here : X) (place : ℕ) → front ≡ take place all → place < length all → here ≡ get_or all place here
    → front ++ here ∷ drop (place + 1) all ≡ all
list_at all front here place before within at =
    ap (λ xs. xs ++ here ∷ drop (place + 1) all) before
    ∙ ap (λ x. take place all ++ x ∷ drop (place + 1) all) at
    ∙ rw add-one (ap (λ xs. take place all ++ xs) (sym (drop-cons all place here within)))
    ∙ take-append-drop place all

-- ---- words

-- a byte is a space, or isn't
abbrev pub IsSpace : ℕ → Type 0
IsSpace b = eqb b 32 ≡ true

abbrev pub IsNoSpace : ℕ → Type 0
IsNoSpace b = eqb b 32 ≡ false

-- a part that isn't empty is a word
word-kept : (part : List ℕ) (parts : List (List ℕ)) → 0 < length part
    → filter (λ word. not (eqb (length word) 0)) (part ∷ parts) ≡ part ∷ filter (λ word. not (eqb (length word) 0)) parts
word-kept part parts some =
    let rest = filter (λ (word : List ℕ). not (eqb (length word) 0)) parts in
    ap (λ is_empty. cond (not is_empty) (part ∷ rest) rest) (ne_eqb (length part) 0 (λ none. omega (arith, some, none)))

words-space : (x : ℕ) (xs : List ℕ) → IsSpace x → words (x ∷ xs) ≡ words xs
unfolding words
words-space x xs is = ap (filter (λ word. not (eqb (length word) 0))) (slice_split-cons_yes (λ b. eqb b 32) x xs is)

-- spaces in front are passed over
pub words-skip : (text : List ℕ) (start : ℕ) → start ≤ length text → AllWithin IsSpace text 0 start → words text ≡ words (drop start text)
words-skip text zero within spaces = refl
words-skip [] (suc start) within spaces = absurd (omega (arith, within))
words-skip (x ∷ xs) (suc start) within spaces =
    words-space x xs (spaces 0 0 (omega arith) (omega arith))
    ∙ words-skip xs start (omega (arith, within)) (λ k d low high. spaces (suc k) d (omega arith) (omega (arith, high)))

-- spaces alone have no word
pub words-none : (text : List ℕ) → AllWithin IsSpace text 0 (length text) → words text ≡ []
unfolding words
words-none [] spaces = refl
words-none (x ∷ xs) spaces =
    words-space x xs (spaces 0 0 (omega arith) (omega arith))
    ∙ words-none xs (λ k d low high. spaces (suc k) d (omega arith) (omega (arith, high)))

-- no byte both is a space and isn't
starts-apart : (text : List ℕ) (end : ℕ) → end ≡ 0 → HoldsAt IsSpace text end → HoldsAt IsNoSpace text 0 → ⊥
starts-apart text end none at begins = true≢false (sym (subst (λ k. IsSpace (get_or text k 0)) none (at 0)) ∙ begins 0)

eq_or_more : (n : ℕ) → (n ≡ 0) ⊎ (0 < n)
eq_or_more zero = inl refl
eq_or_more (suc n) = inr (omega arith)

-- the first word ends at the first space
pub words-first : (text : List ℕ) (end : ℕ) → HoldsAt IsNoSpace text 0 → end < length text → HoldsAt IsSpace text end → AllWithin IsNoSpace text 0 end
    → words text ≡ take end text ∷ words (drop (end + 1) text)
unfolding words
words-first text end begins within at before =
    let here : position_or_len (λ b. eqb b 32) text ≡ end =
    prefix_len_is (λ b. not (eqb b 32)) text end 0 (omega arith) (λ k h. ap not (before k 0 (omega arith) h)) (λ h. ap not (at 0)) in
    let first = slice_split_first (λ b. eqb b 32) text 0 (omega arith) in
    let some : 0 < end = elim (eq_or_more end) [ inl none ↦ absurd (starts-apart text end none at begins) | inr more ↦ more ] in
    ap (filter (λ word. not (eqb (length word) 0))) (rw here at first)
    ∙ word-kept (take end text) (slice_split (λ b. eqb b 32) (drop (end + 1) text)) (omega (arith, length-take-le end text (omega arith), some))

-- a text without a space is one word
pub words-last : (text : List ℕ) → 0 < length text → AllWithin IsNoSpace text 0 (length text) → words text ≡ text ∷ []
unfolding words
words-last text some none =
    ap (filter (λ word. not (eqb (length word) 0))) (slice_split_none (λ b. eqb b 32) text (λ k d h. none k d (omega arith) h))
    ∙ word-kept text [] some

-- what is left of a text after the spaces in front begins with another byte
begins-after : (text : List ℕ) (start : ℕ) → start < length text → HoldsAt IsNoSpace text start → HoldsAt IsNoSpace (drop start text) 0
begins-after text start within begins = λ d. subst (λ rest. IsNoSpace (get_or rest 0 d)) (sym (drop-cons text start d within)) (begins d)

-- the first word lies between the spaces in front and the next one
pub words-cut : (text rest : List ℕ) (start end : ℕ) → rest ≡ drop start text
    → start < length text → HoldsAt IsNoSpace text start → AllWithin IsSpace text 0 start
    → end < length rest → HoldsAt IsSpace rest end → AllWithin IsNoSpace rest 0 end
    → words text ≡ take end rest ∷ words (take (length rest - (end + 1)) (drop (end + 1) rest))
words-cut text rest start end is within begins spaces ends at before =
    let more = take_all (length rest - (end + 1)) (drop (end + 1) rest) (omega (arith, length-drop (end + 1) rest)) in
    let first : HoldsAt IsNoSpace rest 0 = subst (λ r. HoldsAt IsNoSpace r 0) (sym is) (begins-after text start within begins) in
    words-skip text start (omega (arith, within)) spaces
    ∙ ap words (sym is)
    ∙ rw more (words-first rest end first ends at before)

-- or between the spaces in front and the end
pub words-cut-last : (text rest : List ℕ) (start : ℕ) → rest ≡ drop start text
    → start < length text → AllWithin IsSpace text 0 start → AllWithin IsNoSpace rest 0 (length rest)
    → words text ≡ rest ∷ words (take (length rest - length rest) (drop (length rest) rest))
words-cut-last text rest start is within spaces none =
    let some : 0 < length rest = omega (arith, ap length is, length-drop start text, within) in
    let none_left : length rest - length rest ≡ 0 = omega arith in
    let empty : take (length rest - length rest) (drop (length rest) rest) ≡ [] = ap (λ count. take count (drop (length rest) rest)) none_left in
    words-skip text start (omega (arith, within)) spaces
    ∙ ap words (sym is)
    ∙ rw (empty, words-none [] (λ k d low high. absurd (omega (arith, high)))) (words-last rest some none)

-- ---- words that are taken one after another

-- a space in front is passed over
pub words-after_space : (text : List ℕ) → 0 < length text → get_or text 0 0 ≡ 32 → words (take (length text - 1) (drop 1 text)) ≡ words text
words-after_space text some is =
    let rest = take_all (length text - 1) (drop 1 text) (omega (arith, length-drop 1 text)) in
    let space : AllWithin IsSpace text 0 1 = λ k d low high.
    let first : k ≡ 0 = omega (arith, high) in
    let at : get_or text k d ≡ 32 = get_or_default_zero text k d (omega (arith, high, some)) ∙ ap (λ j. get_or text j 0) first ∙ is in
    subst IsSpace (sym at) refl in
    rw rest (sym (words-skip text 1 (omega (arith, some)) space))

-- the first space is where none stands before it, or the end
pub word_end-is : (text : List ℕ) (end : ℕ) → end ≤ length text → ((k : ℕ) → k < end → eqb (get_or text k 0) 32 ≡ true → ⊥)
    → (end < length text → eqb (get_or text end 0) 32 ≡ true) → word_end text ≡ end
word_end-is text end within none at = position_or_len_is (λ b. eqb b 32) text end 0 within (λ k below. untrue (eqb (get_or text k 0) 32) (none k below)) at

-- what does not start with a space starts with a word
pub words-start : (text : List ℕ) → 0 < length text → StartsWithNoSpace text → words text ≡ take (word_end text) text ∷ words (drop (word_end text) text)
words-start text some begins =
    let end = word_end text in
    let before : AllWithin IsNoSpace text 0 end = λ k d low high. fails_before_first (λ b. eqb b 32) text k d high in
    let first : HoldsAt IsNoSpace text 0 = λ d. subst IsNoSpace (sym (get_or_default_zero text 0 d some)) (ne_eqb (get_or text 0 0) 32 (begins some)) in
    elim (cases_lt end (length text)) [
      | inl within ↦
          let at : HoldsAt IsSpace text end = λ d. passes_at_first (λ b. eqb b 32) text d within in
          let here : drop end text ≡ get_or text end 0 ∷ drop (end + 1) text = rw add-one (drop-cons text end 0 within) in
          words-first text end first within at before
          ∙ ap (λ parts. take end text ∷ parts) (sym (ap words here ∙ words-space (get_or text end 0) (drop (end + 1) text) (at 0)))
      | inr past ↦
          let all : take end text ≡ text = take_all end text past in
          let none : drop end text ≡ [] = drop_all end text past in
          rw (all, none, words-none [] (λ k d low high. absurd (omega (arith, high))))
          (words-last text some (λ k d low high. before k d low (omega (arith, past, high))))
    ]
