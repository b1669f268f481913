-- Texts that stand on one line: no byte of them is a control character.
use Rattle.std.proofs.Common.{◌≡◌, ◌∙◌, ◌<◌, ◌≤◌, ◌+◌, ◌-◌, ◌/◌, ◌%◌, ℕ, zero, suc, Bool, true, false, ◌&&◌, ◌||◌, eqb, leb, ltb, List, [], ◌∷◌, ◌++◌, append_assoc, get_or, length, take, refl, ap, arith, inl, inr}
use Rattle.std.specs.Fmt.{digit_glyph, digits, digits_onto}
use Rattle.std.specs.List.{list_all}
use Rattle.std.specs.Prelude.{codes, decimal, encode_utf8, flat_map}
use Rattle.std.specs.Str.Lines.{strip_carriage_return}
use Rattle.std.proofs.lemmas.Bool.{and_from, and_parts, cond-false, cond_both, eqb-true, le-leb, leb-true, ne_eqb, or_cases}
use Rattle.std.proofs.lemmas.Str.{encode_ascii}
use Rattle.pc_load.specs.Variants.{is_letter, name_text}
use Rattle.pc_script.specs.Inner.Pieces.{IsUnbroken}
use Rattle.pc_script.specs.Text.{lines, words}
use Rattle.pc_script.proofs.Pieces.{lines_cut}

-- no byte is a control character
abbrev pub is_printed : List ℕ → Bool
is_printed [] = true
is_printed (b ∷ bs) = leb 32 b && is_printed bs

pub printed_more : (b : ℕ) (bs : List ℕ) → 32 ≤ b → is_printed bs ≡ true → is_printed (b ∷ bs) ≡ true
printed_more b bs high printed = and_from (leb 32 b) (is_printed bs) (le-leb 32 b high) printed

pub printed_both : (first second : List ℕ) → is_printed first ≡ true → is_printed second ≡ true → is_printed (first ++ second) ≡ true
printed_both [] second printed other = other
printed_both (b ∷ bs) second printed other =
    let parts = and_parts (leb 32 b) (is_printed bs) printed in
    and_from (leb 32 b) (is_printed (bs ++ second)) parts.0 (printed_both bs second parts.1 other)

printed_at : (text : List ℕ) → is_printed text ≡ true → (k d : ℕ) → k < length text → 32 ≤ get_or text k d
printed_at [] printed k d below = absurd (omega (arith, below))
printed_at (b ∷ bs) printed zero d below = leb-true 32 b (and_parts (leb 32 b) (is_printed bs) printed).0
printed_at (b ∷ bs) printed (suc k) d below = printed_at bs (and_parts (leb 32 b) (is_printed bs) printed).1 k d (omega (arith, below))

-- ---- lines

unbroken : (line : List ℕ) → is_printed line ≡ true → IsUnbroken line
unbroken line printed = λ k d below.
    let high = printed_at line printed k d below in
    ne_eqb (get_or line k d) 10 (λ feed. omega (arith, high, feed))

stripped_some : (line : List ℕ) → 0 < length line → is_printed line ≡ true → strip_carriage_return line ≡ line
stripped_some line some printed =
    let last = get_or line (length line - 1) 0 in
    let high = printed_at line printed (length line - 1) 0 (omega (arith, some)) in
    cond-false (eqb last 13) (take (length line - 1) line) line (ne_eqb last 13 (λ returns. omega (arith, high, returns)))

stripped : (line : List ℕ) → is_printed line ≡ true → strip_carriage_return line ≡ line
stripped [] printed = refl
stripped (b ∷ bs) printed = stripped_some (b ∷ bs) (omega arith) printed

-- what stands in front of a line feed is a line
pub line_then : (line rest : List ℕ) → is_printed line ≡ true → lines (line ++ 10 ∷ rest) ≡ line ∷ lines rest
line_then line rest printed = lines_cut line rest (unbroken line printed) ∙ ap (λ l. l ∷ lines rest) (stripped line printed)

-- so is one to which the line feed was added first
pub line_ended : (line rest : List ℕ) → is_printed line ≡ true → lines (line ++ codes "\n" ++ rest) ≡ line ∷ lines rest
line_ended line rest printed = ap lines (append_assoc line (10 ∷ []) rest) ∙ line_then line rest printed

-- a text without a byte is one line, which has no word
pub lines_of_nothing : lines [] ≡ [] ∷ []
unfolding lines
lines_of_nothing = refl

pub words_of_nothing : words [] ≡ []
unfolding words
words_of_nothing = refl

-- ---- numbers

glyph_high : (d : ℕ) → 32 ≤ digit_glyph false d
glyph_high d = cond_both (ltb d 10) (48 + d) (87 + d) (λ b. 32 ≤ b) (λ below. omega arith) (λ above. omega arith)

printed_onto : (count n : ℕ) (behind : List ℕ) → is_printed behind ≡ true → is_printed (digits_onto count 10 false n behind) ≡ true
printed_onto zero n behind printed = printed
printed_onto (suc count) n behind printed =
    let next = digit_glyph false (n % 10) ∷ behind in
    let more : is_printed next ≡ true = printed_more (digit_glyph false (n % 10)) behind (glyph_high (n % 10)) printed in
    cond_both (eqb (n / 10) 0) next (digits_onto count 10 false (n / 10) next) (λ text. is_printed text ≡ true)
    (λ last. more) (λ others. printed_onto count (n / 10) next more)

pub printed_decimal : (n : ℕ) → is_printed (decimal n) ≡ true
unfolding digits
printed_decimal n = printed_onto 64 n [] refl

-- ---- names of variants

between : (low high b : ℕ) → (leb low b && leb b high) ≡ true → (low ≤ b) × (b ≤ high)
between low high b within =
    let parts = and_parts (leb low b) (leb b high) within in
    (leb-true low b parts.0, leb-true b high parts.1)

letter_range : (b : ℕ) → is_letter b ≡ true → (32 ≤ b) × (b < 128)
letter_range b letter =
    elim (or_cases ((leb 97 b && leb b 122 || leb 48 b && leb b 57) || eqb b 45) (eqb b 46) letter) [
      | inl others ↦ elim (or_cases (leb 97 b && leb b 122 || leb 48 b && leb b 57) (eqb b 45) others) [
        | inl alphanumeric ↦ elim (or_cases (leb 97 b && leb b 122) (leb 48 b && leb b 57) alphanumeric) [
          | inl small ↦ let range = between 97 122 b small in (omega (arith, range.0), omega (arith, range.1))
          | inr digit ↦ let range = between 48 57 b digit in (omega (arith, range.0), omega (arith, range.1))
        ]
        | inr dash ↦ let is = eqb-true b 45 dash in (omega (arith, is), omega (arith, is))
      ]
      | inr point ↦ let is = eqb-true b 46 point in (omega (arith, is), omega (arith, is))
    ]

pub printed_name : (name : List ℕ) → list_all is_letter name ≡ true → is_printed (name_text name) ≡ true
printed_name [] letters = refl
printed_name (b ∷ bs) letters =
    let parts = and_parts (is_letter b) (list_all is_letter bs) letters in
    let range = letter_range b parts.0 in
    let first : is_printed (encode_utf8 b) ≡ true = ap is_printed (encode_ascii b range.1) ∙ printed_more b [] range.0 refl in
    printed_both (encode_utf8 b) (flat_map encode_utf8 bs) first (printed_name bs parts.1)
