-- Numbers that are taken from a text where they stand.
use Rattle.std.proofs.Common.{◌≡◌, ◌∙◌, ℕ, zero, suc, ◌<◌, ◌≤◌, ◌+◌, ◌*◌, ◌-◌, ◌^◌, eqb, not, true, List, [], ◌∷◌, Option, Some, None, Result, Ok, Err, get_or, length, take, drop, decimal, refl, sym, subst, ap, arith, inl, inr, zero-add}
use Rattle.std.specs.Bool.{MatchBool}
use Rattle.std.specs.Int.{IsInRange}
use Rattle.std.specs.Result.{result_ok, OkIff}
use Rattle.std.specs.Str.Parse.{digits_value, AllDigits}
use Rattle.std.proofs.lemmas.Str.Parse.{digit_at}
use Rattle.std.proofs.lemmas.Int.Digits.{digits_value-lt, digits_more}
use Rattle.std.proofs.lemmas.List.{get_or-take, length-take-le}
use Rattle.std.proofs.lemmas.List.Sums.{prefix_len-le-length, passes_at_first}
use Rattle.std.proofs.lemmas.Bool.{cases_lt, eq-eqb, eqb-true, ne_eqb}
use Rattle.std.proofs.lemmas.Fmt.{decimal-digits_value, decimal_injective, digits_value-decimal, length-decimal-le}
use Rattle.std.proofs.lemmas.Str.{digit_value_digit}
use Rattle.std.proofs.Math.Nat.{pow-le-pow_right}
use Rattle.pc_script.specs.Grammar.{thread_name}
use Rattle.pc_script.specs.Inner.Taking.{IsTaken, StartsWithNoSpace, TakesNumber, word_end}
use Rattle.pc_script.specs.Text.{words}
use Rattle.pc_script.proofs.Numerals.{own, HasRead, IsPlain, IsPlain-decimal, is_digit_at, read_more, read_none, value_more}
use Rattle.pc_script.proofs.Splits.{word_end-is, words-none, words-start}

-- the digits in front are no spaces
digit_there : (text : List ℕ) (count place : ℕ) → AllDigits 10 (take count text) → count ≤ length text → place < count → IsInRange 48 57 (get_or text place 0)
digit_there text count place digits within below =
    let size : length (take count text) ≡ count = length-take-le count text within in
    subst (IsInRange 48 57) (get_or-take count text place 0 below) (digit_at (take count text) place digits (omega (arith, size, below)))

no_space_there : (text : List ℕ) (count place : ℕ) → AllDigits 10 (take count text) → count ≤ length text → place < count → eqb (get_or text place 0) 32 ≡ true → ⊥
no_space_there text count place digits within below is =
    let space : get_or text place 0 ≡ 32 = eqb-true (get_or text place 0) 32 is in
    omega (arith, space, digit_there text count place digits within below)

-- digits before a space or the end are the first word
pub ends_at : (text : List ℕ) (count : ℕ) → AllDigits 10 (take count text) → count ≤ length text → (count < length text → get_or text count 0 ≡ 32) → word_end text ≡ count
ends_at text count digits within at =
    word_end-is text count within (λ k below. no_space_there text count k digits within below) (λ more. eq-eqb (get_or text count 0) 32 (at more))

-- nineteen digits make a small number
pub small_value : (text : List ℕ) (count : ℕ) → AllDigits 10 (take count text) → count ≤ length text → count ≤ 19 → digits_value 10 (take count text) < 2 ^ 64
small_value text count digits within few =
    let word = take count text in
    let size : length word ≡ count = length-take-le count text within in
    let below : digits_value 10 word < 10 ^ count = subst (λ n. digits_value 10 word < 10 ^ n) size (digits_value-lt 10 word digits) in
    let most : 10 ^ count ≤ 10 ^ 19 = pow-le-pow_right {n = 10} (omega arith) {i = count} {j = 19} few in
    omega (arith, below, most)

-- digits without a needless zero are the number that they make
pub names_value : (text : List ℕ) (count : ℕ) → AllDigits 10 (take count text) → digits_value 10 (take count text) < 2 ^ 64 → IsPlain (take count text)
    → take count text ≡ decimal (digits_value 10 (take count text))
names_value text count digits small plain = sym (decimal-digits_value own (take count text) digits plain.0 plain.1 small)

-- the first word goes on where neither a space nor the end stands behind its digits
beyond : (text : List ℕ) (count : ℕ) → AllDigits 10 (take count text) → count < length text → (get_or text count 0 ≡ 32 → ⊥) → count < word_end text
beyond text count digits within no_space =
    let end = word_end text in
    elim (cases_lt count end) [
      | inl below ↦ below
      | inr early ↦
          let at : eqb (get_or text end 0) 32 ≡ true = passes_at_first (λ b. eqb b 32) text 0 (omega (arith, early, within)) in
          elim (cases_lt end count) [
            | inl below ↦ absurd (no_space_there text count end digits (omega (arith, within)) below at)
            | inr late ↦
                let same : end ≡ count = omega (arith, early, late) in
                absurd (no_space (eqb-true (get_or text count 0) 32 (subst (λ k. eqb (get_or text k 0) 32 ≡ true) same at)))
          ]
    ]

-- digits that were read before a space or the end are the next word
read_word : (text : List ℕ) (count value : ℕ) → HasRead text count value → 0 < count → count ≤ length text → (count < length text → get_or text count 0 ≡ 32)
    → IsPlain (take count text) → words text ≡ decimal value ∷ words (drop count text)
read_word text count value read some within at plain =
    let digit = digit_there text count 0 read.digits within some in
    let end = ends_at text count read.digits within at in
    let first = words-start text (omega (arith, some, within)) (λ _ is. omega (arith, is, digit)) in
    let named = names_value text count read.digits (omega (arith, read.small, read.number)) plain in
    let named_so : take count text ≡ decimal value = named ∙ ap decimal (sym read.number) in
    let cut : words text ≡ take count text ∷ words (drop count text) = rw end at first in
    cut ∙ ap (λ word. word ∷ words (drop count text)) named_so

-- a digit stands within its text
digit_within : (text : List ℕ) (place : ℕ) → IsInRange 48 57 (get_or text place 0) → place < length text
digit_within [] place digit = absurd (omega (arith, digit))
digit_within (x ∷ xs) zero digit = omega arith
digit_within (x ∷ xs) (suc place) digit = omega (arith, digit_within xs place digit)

-- one digit
pub takes_digit : (text : List ℕ) → IsInRange 48 57 (get_or text 0 0) → (1 < length text → get_or text 1 0 ≡ 32)
    → words text ≡ decimal (get_or text 0 0 - 48) ∷ words (drop 1 text)
takes_digit text first at =
    let some = digit_within text 0 first in
    let read : HasRead text 1 (get_or text 0 0 - 48) = subst (HasRead text 1) (zero-add (get_or text 0 0 - 48)) (read_more text 0 0 (read_none text) some first (omega (arith, first))) in
    let size : length (take 1 text) ≡ 1 = length-take-le 1 text (omega (arith, some)) in
    read_word text 1 (get_or text 0 0 - 48) read (omega arith) (omega (arith, some)) at (omega (arith, size), (λ _. size))

-- two digits, of which the first is no zero
pub takes_two_digits : (text : List ℕ) → IsInRange 48 57 (get_or text 0 0) → (get_or text 0 0 ≡ 48 → ⊥) → IsInRange 48 57 (get_or text 1 0)
    → (2 < length text → get_or text 2 0 ≡ 32)
    → words text ≡ decimal ((get_or text 0 0 - 48) * 10 + (get_or text 1 0 - 48)) ∷ words (drop 2 text)
takes_two_digits text first no_zero second at =
    let more = digit_within text 1 second in
    let one : HasRead text 1 (get_or text 0 0 - 48) = subst (HasRead text 1) (zero-add (get_or text 0 0 - 48)) (read_more text 0 0 (read_none text) (omega (arith, more)) first (omega (arith, first))) in
    let read = read_more text 1 (get_or text 0 0 - 48) one more second (omega (arith, first, second)) in
    let size : length (take 2 text) ≡ 2 = length-take-le 2 text (omega (arith, more)) in
    let front : get_or (take 2 text) 0 0 ≡ get_or text 0 0 = get_or-take 2 text 0 0 (omega arith) in
    read_word text 2 _ read (omega arith) (omega (arith, more)) at (omega (arith, size), (λ zero. absurd (no_zero (sym front ∙ zero))))

length-word : (text : List ℕ) → length (take (word_end text) text) ≡ word_end text
length-word text = length-take-le (word_end text) text (prefix_len-le-length (λ b. not (eqb b 32)) text)

-- the first word is no number where a byte of it is no digit
pub no_digit_there : (text : List ℕ) (count : ℕ) → AllDigits 10 (take count text) → count < length text → (get_or text count 0 ≡ 32 → ⊥)
    → (IsInRange 48 57 (get_or text count 0) → ⊥) → (n : ℕ) → n < 2 ^ 64 → take (word_end text) text ≡ decimal n → ⊥
no_digit_there text count digits within no_space no_digit n small is =
    let end = word_end text in
    let below = beyond text count digits within no_space in
    let digit = is_digit_at (take end text) n count small is (omega (arith, length-word text, below)) in
    no_digit (subst (IsInRange 48 57) (get_or-take end text count 0 below) digit)

-- nor where it is longer than any number
pub too_long : (text : List ℕ) (count : ℕ) → AllDigits 10 (take count text) → 20 ≤ count → count < length text → (get_or text count 0 ≡ 32 → ⊥)
    → (n : ℕ) → n < 2 ^ 64 → take (word_end text) text ≡ decimal n → ⊥
too_long text count digits many within no_space n small is =
    let short : length (decimal n) ≤ 20 = length-decimal-le 20 n (omega arith) (omega arith) (omega (arith, small)) in
    omega (arith, beyond text count digits within no_space, many, length-word text, ap length is, short)

-- a digit more than nineteen
pub digits_with_last : (text : List ℕ) → AllDigits 10 (take 19 text) → 19 < length text → IsInRange 48 57 (get_or text 19 0) → AllDigits 10 (take 20 text)
digits_with_last text digits within last = digits_more 10 text 19 within digits (omega (arith, digit_value_digit (get_or text 19 0) last, last))

pub value_with_last : (text : List ℕ) → AllDigits 10 (take 19 text) → 19 < length text → IsInRange 48 57 (get_or text 19 0)
    → digits_value 10 (take 20 text) ≡ digits_value 10 (take 19 text) * 10 + (get_or text 19 0 - 48)
value_with_last text digits within last =
    value_more text 19 (digits_value 10 (take 19 text)) (record { digits = digits; number = refl; small = small_value text 19 digits (omega (arith, within)) (omega arith) }) within last

-- a number is what its digits make
pub value_of_named : (word : List ℕ) (n : ℕ) → n < 2 ^ 64 → word ≡ decimal n → digits_value 10 word ≡ n
value_of_named word n small is = subst (λ w. digits_value 10 w ≡ n) (sym is) (digits_value-decimal own n small)

some_text : (text : List ℕ) (n : ℕ) → n < 2 ^ 64 → take (word_end text) text ≡ decimal n → 0 < length text
some_text [] n small is = let some = (IsPlain-decimal n small).0 in omega (arith, some, ap length is)
some_text (x ∷ xs) n small is = omega arith

no_words_left : words [] ≡ []
no_words_left = words-none [] (λ k d low high. absurd (omega (arith, high)))

-- a number that the text starts with is the next word
pub takes_number : (before text after : List ℕ) (r : Option ℕ) → words text ≡ words before → StartsWithNoSpace text → IsTaken text after r
    → TakesNumber (2 ^ 64) decimal (words before) (words after) r
takes_number before [] after None same begins taken = λ n small others is. let none = no_words_left in cc
takes_number before (x ∷ xs) after None same begins taken = λ n small others is.
    let first = words-start (x ∷ xs) (omega arith) begins in
    taken n small (cc)
takes_number before text after (Some n) same begins taken =
    let first = words-start text (some_text text n taken.0 taken.1) begins in
    (taken.0, (cc))

-- a word that starts with `t`
after_t : (digits : List ℕ) → StartsWithNoSpace (116 ∷ digits) → words (116 ∷ digits) ≡ (116 ∷ take (word_end digits) digits) ∷ words (drop (word_end digits) digits)
after_t digits begins =
    let one_more : word_end (116 ∷ digits) ≡ suc (word_end digits) = omega arith in
    let first : words (116 ∷ digits) ≡ take (suc (word_end digits)) (116 ∷ digits) ∷ words (drop (suc (word_end digits)) (116 ∷ digits)) =
    rw one_more at (words-start (116 ∷ digits) (omega arith) begins) in
    first

-- `t` and a number that the rest starts with are the next word
pub takes_thread : (before text digits after : List ℕ) (r : Option ℕ) → words text ≡ words before → StartsWithNoSpace text → text ≡ 116 ∷ digits → IsTaken digits after r
    → TakesNumber (2 ^ 64) thread_name (words before) (words after) r
takes_thread before text digits after None same begins is taken = λ n small others named.
    let first = after_t digits (subst StartsWithNoSpace is begins) in
    taken n small (cc)
takes_thread before text digits after (Some n) same begins is taken =
    let first = after_t digits (subst StartsWithNoSpace is begins) in
    (taken.0, (cc))

-- the next word is the name of no thread
pub no_thread : (before text : List ℕ) → words text ≡ words before → StartsWithNoSpace text → (0 < length text → get_or text 0 0 ≡ 116 → ⊥)
    → (n : ℕ) (others : List (List ℕ)) → words before ≡ thread_name n ∷ others → ⊥
no_thread before [] same begins none n others named = let left = no_words_left in cc
no_thread before (x ∷ xs) same begins none n others named =
    let first = words-start (x ∷ xs) (omega arith) begins in
    let text = x ∷ xs in
    let end = word_end text in
    let word : take end text ≡ thread_name n = cc in
    let size = length-word text in
    let front = get_or-take end text 0 0 (omega (arith, size, ap length word)) in
    none (omega arith) (sym front ∙ ap (λ w. get_or w 0 0) word)

-- a number below a bound that is not there is none below a smaller one
pub no_narrow : (bound : ℕ) (name : ℕ → List ℕ) (before after : List (List ℕ)) → bound ≤ 2 ^ 64 → TakesNumber (2 ^ 64) name before after None
    → TakesNumber bound name before after None
no_narrow bound name before after low none = λ n below others named. none n (omega (arith, low, below)) others named

-- a number that is put into a smaller type
pub narrow : {E : Type 0} (bound wide : ℕ) (name : ℕ → List ℕ) (before after : List (List ℕ)) (r : Result ℕ E) → bound ≤ 2 ^ 64
    → ((one other : ℕ) → one < 2 ^ 64 → other < 2 ^ 64 → name one ≡ name other → one ≡ other)
    → TakesNumber (2 ^ 64) name before after (Some wide) → OkIff r (wide < bound) wide → TakesNumber bound name before after (result_ok r)
narrow bound wide name before after (Ok n) low apart taken h = let same = h.1 in (omega (arith, h.0, h.1), cc)
narrow bound wide name before after (Err e) low apart taken h = λ n below others named.
    let same : n ≡ wide = apart n wide (omega (arith, low, below)) taken.0 (cc) in
    h (omega (arith, same, below))

pub one_decimal : (one other : ℕ) → one < 2 ^ 64 → other < 2 ^ 64 → decimal one ≡ decimal other → one ≡ other
one_decimal one other h k same = decimal_injective one other h k same

pub one_thread : (one other : ℕ) → one < 2 ^ 64 → other < 2 ^ 64 → thread_name one ≡ thread_name other → one ≡ other
one_thread one other h k same = decimal_injective one other h k (cc)

-- whether a word is left
pub over_or_not : (before text : List ℕ) → words text ≡ words before → StartsWithNoSpace text
    → MatchBool (eqb (length text) 0) (words before ≡ []) (words before ≡ [] → ⊥)
over_or_not before [] same begins = sym same ∙ no_words_left
over_or_not before (x ∷ xs) same begins =
    let some = ne_eqb (length (x ∷ xs)) 0 (λ none. omega (arith, none)) in
    rw some (λ none. let first = words-start (x ∷ xs) (omega arith) begins in cc)
