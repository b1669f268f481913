-- The lines of a text that comes in pieces.
use Rattle.std.proofs.Common.{◌≡◌, ◌∙◌, ◌+◌, ◌-◌, ◌<◌, ◌≤◌, ℕ, Bool, true, false, cond, eqb, List, [], ◌∷◌, ◌++◌, get_or, length, map, take, drop, refl, sym, ap, subst, arith, append_assoc, append-nil, eqb-true, length-append, get_or-take, length-drop, suc, zero-add}
use lib.Seq.{paste}
use Rattle.std.proofs.lemmas.List.Edits.{take-paste}
use Rattle.std.proofs.lemmas.List.{drop-take, take-append-le}
use Rattle.std.specs.List.{AllWithin}
use Rattle.std.specs.Str.Lines.{strip_carriage_return}
use Rattle.std.proofs.lemmas.List.{length-take-le}
use Rattle.std.proofs.lemmas.List.Elements.{All-append}
use Rattle.std.proofs.lemmas.List.Splits.{slice_split_at, slice_split_none}
use Rattle.std.proofs.lemmas.Bool.{true≢false}
use Rattle.std.proofs.lemmas.Grind.{get_or_default_zero}
use Rattle.pc_script.specs.Inner.Pieces.{IsCut, IsFirstLine, IsPassed, IsUnbroken}
use Rattle.pc_script.specs.Text.{lines}
use Rattle.pc_script.specs.declared.session.TheConstants.{MOST_LINE}
use Rattle.pc_script.proofs.Splits.{IsNoLineFeed, list_at}

-- ---- the first line that is whole

pub unbroken_front : (text : List ℕ) (end : ℕ) → end < length text → AllWithin IsNoLineFeed text 0 end → IsUnbroken (take end text)
unbroken_front text end within none = λ k d high.
    let below : k < end = omega (arith, high, length-take-le end text (omega (arith, within))) in
    subst IsNoLineFeed (sym (get_or-take end text k d below)) (none k d (omega arith) below)

pub split_at : (text : List ℕ) (end : ℕ) → end < length text → eqb (get_or text end 0) 10 ≡ true → text ≡ take end text ++ 10 ∷ drop (end + 1) text
split_at text end within is =
    sym (list_at text (take end text) 10 end refl within (sym (get_or_default_zero text end 10 within ∙ eqb-true (get_or text end 0) 10 is)))

pub lines_cut : (front rest : List ℕ) → IsUnbroken front → lines (front ++ 10 ∷ rest) ≡ strip_carriage_return front ∷ lines rest
unfolding lines
lines_cut front rest h = ap (map strip_carriage_return) (slice_split_at (λ b. eqb b 10) front 10 rest h refl)

pub lines_one : (text : List ℕ) → IsUnbroken text → lines text ≡ strip_carriage_return text ∷ []
unfolding lines
lines_one text h = ap (map strip_carriage_return) (slice_split_none (λ b. eqb b 10) text h)

pub lines_of_first : (text line rest : List ℕ) → IsFirstLine text line rest → lines text ≡ line ∷ lines rest
lines_of_first text line rest (front, unbroken, is, stripped) =
    ap lines is ∙ lines_cut front rest unbroken ∙ ap (λ l. l ∷ lines rest) (sym stripped)

pub first_cut : (text line rest : List ℕ) → IsFirstLine text line rest → (more : List ℕ) → lines (text ++ more) ≡ line ∷ lines (rest ++ more)
first_cut text line rest (front, unbroken, is, stripped) more =
    ap (λ t. lines (t ++ more)) is
    ∙ ap lines (append_assoc front (10 ∷ rest) more)
    ∙ lines_cut front (rest ++ more) unbroken
    ∙ ap (λ l. l ∷ lines (rest ++ more)) (sym stripped)

pub first_shorter : (text line rest : List ℕ) → IsFirstLine text line rest → length rest < length text
first_shorter text line rest (front, unbroken, is, stripped) = omega (arith, ap length is, length-append front (10 ∷ rest))

pub behind_first : (text front rest line next : List ℕ) → text ≡ front ++ rest → IsFirstLine rest line next → (before : List ℕ) × (text ≡ before ++ next)
behind_first text front rest line next is (first, unbroken, more, stripped) =
    (front ++ (first ++ 10 ∷ []), is ∙ ap (λ t. front ++ t) (more ∙ sym (append_assoc first (10 ∷ []) next)) ∙ sym (append_assoc front (first ++ 10 ∷ []) next))

-- ---- lines that are taken from a text

pub cut_none : (text : List ℕ) → IsCut text [] text
cut_none text = λ more. refl

pub cut_one : (text rest next line : List ℕ) (taken : List (List ℕ)) → IsCut text taken rest → IsFirstLine rest line next
    → IsCut text (taken ++ line ∷ []) next
cut_one text rest next line taken cut first = λ more.
    cut more ∙ ap (λ ls. taken ++ ls) (first_cut rest line next first more) ∙ sym (append_assoc taken (line ∷ []) (lines (next ++ more)))

-- a cut of what was left
pub cut_more : (text rest next : List ℕ) (taken further : List (List ℕ)) → IsCut text taken rest → IsCut rest further next
    → IsCut text (taken ++ further) next
cut_more text rest next taken further cut then = λ more.
    cut more ∙ ap (λ ls. taken ++ ls) (then more) ∙ sym (append_assoc taken further (lines (next ++ more)))

-- more of the text was read
pub cut_longer : (text rest bytes : List ℕ) (taken : List (List ℕ)) → IsCut text taken rest → IsCut (text ++ bytes) taken (rest ++ bytes)
cut_longer text rest bytes taken cut = λ more.
    ap lines (append_assoc text bytes more) ∙ cut (bytes ++ more) ∙ ap (λ l. taken ++ lines l) (sym (append_assoc rest bytes more))

-- a piece was read behind what was kept
pub cut_piece : (text passed kept bytes piece : List ℕ) (taken : List (List ℕ)) → IsCut text taken (passed ++ kept) → piece ≡ kept ++ bytes
    → IsCut (text ++ bytes) taken (passed ++ piece)
cut_piece text passed kept bytes piece taken cut is =
    subst (λ t. IsCut (text ++ bytes) taken t) (append_assoc passed kept bytes ∙ ap (λ p. passed ++ p) (sym is)) (cut_longer text (passed ++ kept) bytes taken cut)

pub passed_none : (passes : Bool) (passed : List ℕ) → passes ≡ false → IsPassed passes passed → passed ≡ []
passed_none true passed is over = absurd (true≢false is)
passed_none false passed is over = over

pub unbroken_passed : (passes : Bool) (passed kept : List ℕ) → IsPassed passes passed → IsUnbroken kept → IsUnbroken (passed ++ kept)
unbroken_passed true passed kept over unbroken = All-append (λ b. eqb b 10 ≡ false) passed kept over.0 unbroken
unbroken_passed false passed kept over unbroken = subst (λ p. IsUnbroken (p ++ kept)) (sym over) unbroken

-- the first line of a text, with what was passed over in front
pub first_passed : (passed text line rest : List ℕ) → IsUnbroken passed → IsFirstLine text line rest
    → (front : List ℕ) × (length passed ≤ length front) × IsFirstLine (passed ++ text) (strip_carriage_return front) rest
first_passed passed text line rest unbroken (front, more, is, stripped) = (
  passed ++ front,
  omega (arith, length-append passed front),
  (passed ++ front, All-append (λ b. eqb b 10 ≡ false) passed front unbroken more, ap (λ t. passed ++ t) is ∙ sym (append_assoc passed front (10 ∷ rest)), refl),
)

-- ---- lengths

at_least : (b : Bool) (n : ℕ) (text : List ℕ) → n < length text → n ≤ length (cond b (take (length text - 1) text) text)
at_least true n text h = omega (arith, h, length-take-le (length text - 1) text (omega arith))
at_least false n text h = omega (arith, h)

-- a line is no more than a byte shorter than what a line feed ends
pub stripped_length : (n : ℕ) (text : List ℕ) → n < length text → n ≤ length (strip_carriage_return text)
stripped_length n text h = at_least _ n text h

pub too_long : (passed text : List ℕ) → MOST_LINE + 1 < length passed → MOST_LINE < length (strip_carriage_return (passed ++ text))
too_long passed text h =
    let long : MOST_LINE + 1 < length (passed ++ text) = omega (arith, h, length-append passed text) in
    omega (arith, stripped_length (MOST_LINE + 1) (passed ++ text) long)

pub kept_end : (text front rest : List ℕ) → text ≡ front ++ rest → drop (length text - length rest) text ≡ rest
kept_end text front rest is =
    let count : length text - length rest ≡ length front = omega (arith, ap length is, length-append front rest) in
    ap (λ n. drop n text) count ∙ ap (drop (length front)) is ∙ dropped front rest
  where
    dropped : (xs ys : List ℕ) → drop (length xs) (xs ++ ys) ≡ ys
    dropped [] ys = refl
    dropped (x ∷ xs) ys = dropped xs ys

-- nothing is left behind the end
pub end_empty : (text : List ℕ) → take (length text - length text) (drop (length text) text) ≡ []
end_empty text =
    let none : length text - length text ≡ 0 = omega arith in
    ap (λ count. take count (drop (length text) text)) none

pub all_behind : (text rest : List ℕ) → rest ≡ [] → (front : List ℕ) × (text ≡ front ++ rest)
all_behind text rest none = (text, sym (append-nil text) ∙ ap (λ r. text ++ r) (sym none))

pub behind_more : (text rest next : List ℕ) → (front : List ℕ) × (text ≡ front ++ rest) → (front : List ℕ) × (rest ≡ front ++ next)
    → (front : List ℕ) × (text ≡ front ++ next)
behind_more text rest next (front, is) (other, more) = (front ++ other, is ∙ ap (λ t. front ++ t) more ∙ sym (append_assoc front other next))

pub behind_line : (text line rest : List ℕ) → IsFirstLine text line rest → (front : List ℕ) × (text ≡ front ++ rest)
behind_line text line rest (first, unbroken, is, stripped) = (first ++ 10 ∷ [], is ∙ sym (append_assoc first (10 ∷ []) rest))

pub cut_nothing : (text : List ℕ) → IsCut text [] (text ++ [])
cut_nothing text = λ more. ap (λ t. lines (t ++ more)) (sym (append-nil text))

pub cut_to_nothing : (text rest : List ℕ) (taken : List (List ℕ)) → IsCut text taken rest → IsCut text taken (rest ++ [])
cut_to_nothing text rest taken cut = λ more. cut more ∙ ap (λ t. taken ++ lines (t ++ more)) (sym (append-nil rest))

-- ---- the bytes of a piece

take_past : (xs ys : List ℕ) (count : ℕ) → take (length xs + count) (xs ++ ys) ≡ xs ++ take count ys
take_past [] ys count = ap (λ n. take n ys) (zero-add count)
take_past (x ∷ xs) ys count =
    let one : length (x ∷ xs) + count ≡ suc (length xs + count) = omega arith in
    ap (λ n. take n (x ∷ (xs ++ ys))) one ∙ ap (λ l. x ∷ l) (take_past xs ys count)

-- bytes that were read behind others
pub filled : (bytes read after : List ℕ) (len count : ℕ) → len ≤ length bytes → count ≤ length read
    → take (len + count) (take len bytes ++ (read ++ after)) ≡ take len bytes ++ take count read
filled bytes read after len count within few =
    ap (λ n. take (n + count) (take len bytes ++ (read ++ after))) (sym (length-take-le len bytes within))
    ∙ take_past (take len bytes) (read ++ after) count
    ∙ ap (λ l. take len bytes ++ l) (take-append-le count read after few)

drop_taken : (start len : ℕ) (bytes : List ℕ) → start ≤ len → drop start (take len bytes) ≡ take (len - start) (drop start bytes)
drop_taken start len bytes low =
    let whole : len ≡ start + (len - start) = omega (arith, low) in
    ap (λ n. drop start (take n bytes)) whole ∙ drop-take start (len - start) bytes

-- the last bytes of a piece, moved to its front
pub moved : (bytes : List ℕ) (len count : ℕ) → len ≤ length bytes → count ≤ length (take len bytes)
    → take count (paste bytes 0 (drop (len - count) bytes) (len - (len - count)))
    ≡ drop (length (take len bytes) - count) (take len bytes)
moved bytes len count within few =
    let all : length (take len bytes) ≡ len = length-take-le len bytes within in
    let back : len - (len - count) ≡ 0 + count = omega (arith, few, all) in
    let start : length (take len bytes) - count ≡ len - count = omega (arith, all) in
    let kept : len - (len - count) ≡ count = omega (arith, few, all) in
    ap (λ n. take count (paste bytes 0 (drop (len - count) bytes) n)) kept
    ∙ ap (λ n. take n (paste bytes 0 (drop (len - count) bytes) count)) (sym (zero-add count))
    ∙ take-paste bytes 0 (drop (len - count) bytes) count (omega arith) (omega (arith, within, few, all, length-drop (len - count) bytes))
    ∙ ap (λ n. take n (drop (len - count) bytes)) (sym kept)
    ∙ sym (drop_taken (len - count) len bytes (omega arith))
    ∙ ap (λ n. drop n (take len bytes)) (sym start)
