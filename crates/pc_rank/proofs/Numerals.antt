-- Numbers as words.
use Rattle.std.proofs.Common.{◌≡◌, ℕ, zero, suc, ◌<◌, ◌≤◌, ◌+◌, ◌*◌, ◌-◌, ◌^◌, List, length, get_or, take, decimal, [], ◌∷◌, refl, sym, subst, ap, ◌∙◌, arith}
use Rattle.std.specs.Int.{IsInRange}
use Rattle.std.specs.Str.Parse.{digits_value, AllDigits}
use Rattle.std.proofs.lemmas.Str.Parse.{numerals_by_value, tells_digits, IsNumeralModel, digit_at, digits_value-take-le}
use Rattle.std.proofs.lemmas.Int.Digits.{digits_value_more, digits_more}
use Rattle.std.proofs.lemmas.List.{take_all}
use Rattle.std.proofs.lemmas.Str.{digit_value_digit}
use Rattle.std.proofs.lemmas.Fmt.{decimal_digit, first_decimal, decimal-digits_value, decimal_nonempty, digits_decimal, digits_value-decimal}

pub own : IsNumeralModel (AllDigits 10) (digits_value 10)
own = numerals_by_value (AllDigits 10) tells_digits

-- a word is not empty, and no needless zero stands in front
abbrev pub IsPlain : List ℕ → Type 0
IsPlain word = (0 < length word) × (get_or word 0 0 ≡ 48 → length word ≡ 1)

pub IsPlain-decimal : (n : ℕ) → n < 2 ^ 64 → IsPlain (decimal n)
IsPlain-decimal zero h =
    let e : decimal 0 ≡ 48 ∷ [] = decimal_digit 0 (omega arith) in
    subst IsPlain (sym e) (omega arith, (λ _. refl))
IsPlain-decimal (suc n) h =
    let f : 48 < get_or (decimal (suc n)) 0 0 = first_decimal (suc n) (omega arith) h in
    (decimal_nonempty (suc n) h, (λ q. absurd (omega arith)))

pub not_plain : (word : List ℕ) (n : ℕ) → (IsPlain word → ⊥) → n < 2 ^ 64 → word ≡ decimal n → ⊥
not_plain word n none small is = none (subst IsPlain (sym is) (IsPlain-decimal n small))

-- the first bytes of a word are digits, and write this number
pub record HasRead (word : List ℕ) (count value : ℕ) : Type 0 where
  pub digits : AllDigits 10 (take count word)
  pub number : value ≡ digits_value 10 (take count word)
  pub small : value < 2 ^ 64

pub read_none : (word : List ℕ) → HasRead word 0 0
read_none word = record { digits = tt; number = refl; small = omega arith }

-- each byte of a number is a digit
pub is_digit_at : (word : List ℕ) (n place : ℕ) → n < 2 ^ 64 → word ≡ decimal n → place < length word → IsInRange 48 57 (get_or word place 0)
is_digit_at word n place small is within =
    digit_at word place (subst (AllDigits 10) (sym is) (digits_decimal own n small)) within

-- with one digit more
pub value_more : (word : List ℕ) (count value : ℕ) → HasRead word count value → count < length word → IsInRange 48 57 (get_or word count 0)
    → digits_value 10 (take (count + 1) word) ≡ value * 10 + (get_or word count 0 - 48)
value_more word count value read within digit =
    let more = digits_value_more 10 word count within in
    let last = digit_value_digit (get_or word count 0) digit in
    omega (arith, more, last, read.number)

pub read_more : (word : List ℕ) (count value : ℕ) → HasRead word count value → count < length word → IsInRange 48 57 (get_or word count 0)
    → value * 10 + (get_or word count 0 - 48) < 2 ^ 64 → HasRead word (count + 1) (value * 10 + (get_or word count 0 - 48))
read_more word count value read within digit small =
    let last = digit_value_digit (get_or word count 0) digit in
    record {
      digits = digits_more 10 word count within read.digits (omega (arith, last, digit));
      number = sym (value_more word count value read within digit);
      small = small;
    }

-- a number has no larger one in front
pub at_most : (word : List ℕ) (n count value : ℕ) → HasRead word count value → count < length word → n < 2 ^ 64 → word ≡ decimal n
    → value * 10 + (get_or word count 0 - 48) ≤ n
at_most word n count value read within small is =
    let whole : digits_value 10 word ≡ n = subst (λ w. digits_value 10 w ≡ n) (sym is) (digits_value-decimal own n small) in
    let more = value_more word count value read within (is_digit_at word n count small is within) in
    omega (arith, digits_value-take-le 10 word (count + 1) (omega arith), more, whole)

pub read_all : (word : List ℕ) (count value : ℕ) → IsPlain word → HasRead word count value → length word ≤ count → word ≡ decimal value
read_all word count value plain read all =
    let whole : take count word ≡ word = take_all count word all in
    let digits : AllDigits 10 word = subst (AllDigits 10) whole read.digits in
    let is : value ≡ digits_value 10 word = subst (λ w. value ≡ digits_value 10 w) whole read.number in
    let back = decimal-digits_value own word digits plain.0 plain.1 (omega (arith, is, read.small)) in
    sym back ∙ ap decimal (sym is)
