-- A text is cut into its tokens.
use Rattle.std.proofs.Common.{◌≡◌, ℕ, zero, suc, ◌+◌, ◌<◌, ◌≤◌, ◌^◌, ◌==◌, Bool, true, false, not, ◌&&◌, cond, List, [], ◌∷◌, ◌++◌, length, get_or, take, drop, codes, decimal, bytes_eq, refl, sym, ap, subst, ◌∙◌, ◌⊎◌, inl, inr, ⊎_elim, arith, append_assoc, length-append, length-drop}
use Rattle.std.specs.Char.{is_ascii_digit}
use Rattle.std.specs.Int.{IsInRange}
use Rattle.std.specs.Prelude.{nat_lt}
use Rattle.std.specs.Str.Parse.{AllDigits, digits_value}
use Rattle.std.proofs.lemmas.Bool.Decides.{nat_tests}
use Rattle.std.proofs.lemmas.Fmt.{decimal_nonempty, digits_decimal, decimal_injective, digits_value-decimal}
use Rattle.std.proofs.lemmas.List.{take-append-drop, append-nil, take_more_set}
use Rattle.std.proofs.Math.ListN.{set}
use Rattle.std.proofs.Math.Seq.{take-append_seam, drop-append_seam}
use Rattle.std.proofs.lemmas.Slice.Eq.{bytes_eq-Decides}
use Rattle.std.proofs.lemmas.Str.Parse.{digit_from_value}
use Rattle.pc_rank.specs.Inner.Cutting.{before_equals, doubles, fact_named, first_token, is_number, letters, sign_at, single, tokens_of, tokens_within, word_named, word_token}
use Rattle.pc_rank.specs.Tokens.{IsToken, Spells, done, space, one, begins, is_of_word, lengthens, token_text}
use Rattle.pc_rank.specs.declared.facts.Fact.TheVariants as fact
use Rattle.pc_rank.specs.declared.operators.Comparison.TheVariants as comparison
use Rattle.pc_rank.specs.declared.operators.Extreme.TheVariants as extreme
use Rattle.pc_rank.specs.declared.operators.Joiner.TheVariants as joiner
use Rattle.pc_rank.specs.declared.operators.Operator.TheVariants as operator
use Rattle.pc_rank.specs.declared.token.Token.{Token}
use Rattle.pc_rank.specs.declared.token.Token.TheVariants as token
use Rattle.pc_rank.proofs.Cuts.{Cuts, HasTokens, IsKnown, IsNamed, is_sign}
use Rattle.pc_rank.proofs.Numerals.{own, is_digit_at}

-- ---- words

-- each byte is a letter or a digit
abbrev pub all_of_word : List ℕ → Bool
all_of_word [] = true
all_of_word (byte ∷ bytes) = is_of_word byte && all_of_word bytes

pub both : (a b : Bool) → (a && b) ≡ true → (a ≡ true) × (b ≡ true)
both true b e = (refl, e)
both false b e = cc

digit_of_word : (c : ℕ) → IsInRange 48 57 c → is_of_word c ≡ true
digit_of_word c h = grind (arith, nat_tests)

digits_of_word : (ds : List ℕ) → AllDigits 10 ds → all_of_word ds ≡ true
digits_of_word [] h = refl
digits_of_word (d ∷ ds) h =
    ap (λ b. b && all_of_word ds) (digit_of_word d (digit_from_value d h.0)) ∙ digits_of_word ds h.1

letters_none : (rest : List ℕ) → begins is_of_word rest ≡ false → letters rest ≡ 0
letters_none [] h = refl
letters_none (b ∷ bs) h = ap (λ t. cond t (suc (letters bs)) 0) h

-- a word is as long as letters stand in front, where none stands behind it
letters_word : (word rest : List ℕ) → all_of_word word ≡ true → begins is_of_word rest ≡ false → letters (word ++ rest) ≡ length word
letters_word [] rest all none = letters_none rest none
letters_word (b ∷ bs) rest all none =
    let here = both (is_of_word b) (all_of_word bs) all in
    let ih = letters_word bs rest here.1 none in
    ap (λ t. cond t (suc (letters (bs ++ rest))) 0) here.0 ∙ ap suc ih

none_behind : (text : List ℕ) → begins is_of_word (drop (letters text) text) ≡ false
none_behind [] = refl
none_behind (b ∷ bs) = by_test (is_of_word b) refl (none_behind bs)
  where
    by_test : (t : Bool) → is_of_word b ≡ t → begins is_of_word (drop (letters bs) bs) ≡ false → begins is_of_word (drop (cond t (suc (letters bs)) 0) (b ∷ bs)) ≡ false
    by_test true e ih = ih
    by_test false e ih = e

-- ---- which token it is

-- a word begins with a letter or a digit, and all of it is of them
record IsWord (word : List ℕ) : Type 0 where
  pub some : 0 < length word
  pub all : all_of_word word ≡ true

is_word : (word : List ℕ) → 0 < length word → all_of_word word ≡ true → IsWord word
is_word word some all = record { some = some; all = all }

wordy : (t : Token) → IsToken t → is_sign t ≡ false → IsWord (token_text t)
wordy (token.Number n) h e = is_word (decimal n) (decimal_nonempty n h) (digits_of_word (decimal n) (digits_decimal own n h))
wordy (token.Given fact.Level) h e = is_word _ (omega arith) refl
wordy (token.Given fact.Ran) h e = is_word _ (omega arith) refl
wordy (token.Given fact.Thread) h e = is_word _ (omega arith) refl
wordy (token.Given fact.Cpu) h e = is_word _ (omega arith) refl
wordy (token.Given fact.Allowed) h e = is_word _ (omega arith) refl
wordy token.NoRank h e = is_word _ (omega arith) refl
wordy token.If h e = is_word _ (omega arith) refl
wordy token.Then h e = is_word _ (omega arith) refl
wordy token.Else h e = is_word _ (omega arith) refl
wordy token.Not h e = is_word _ (omega arith) refl
wordy (token.Call extreme.Min) h e = is_word _ (omega arith) refl
wordy (token.Call extreme.Max) h e = is_word _ (omega arith) refl
wordy (token.Join joiner.And) h e = is_word _ (omega arith) refl
wordy (token.Join joiner.Or) h e = is_word _ (omega arith) refl
wordy (token.Infix o) h e = cc
wordy (token.Compare c) h e = cc
wordy token.Open h e = cc
wordy token.Close h e = cc
wordy token.Comma h e = cc
wordy token.NoNumber h e = absurd h
wordy token.Unknown h e = absurd h

-- a word or a number goes on with a letter or a digit
word_lengthens : (t : Token) → is_sign t ≡ false → lengthens t ≡ is_of_word
word_lengthens (token.Number n) e = refl
word_lengthens (token.Given f) e = refl
word_lengthens token.NoRank e = refl
word_lengthens token.If e = refl
word_lengthens token.Then e = refl
word_lengthens token.Else e = refl
word_lengthens token.Not e = refl
word_lengthens (token.Call x) e = refl
word_lengthens (token.Join j) e = refl
word_lengthens (token.Infix o) e = cc
word_lengthens (token.Compare c) e = cc
word_lengthens token.Open e = cc
word_lengthens token.Close e = cc
word_lengthens token.Comma e = cc
word_lengthens token.NoNumber e = refl
word_lengthens token.Unknown e = refl

-- a sign begins with a byte that is neither of a word nor a space
record Sign (t : Token) : Type 0 where
  pub first : ℕ
  pub more : List ℕ
  pub text : token_text t ≡ first ∷ more
  pub no_letter : is_of_word first ≡ false
  pub no_space : (first == 32) ≡ false

sign_text : (t : Token) → is_sign t ≡ true → Sign t
sign_text (token.Infix operator.Plus) e = record { first = 43; more = []; text = refl; no_letter = refl; no_space = refl }
sign_text (token.Infix operator.Times) e = record { first = 42; more = []; text = refl; no_letter = refl; no_space = refl }
sign_text (token.Infix operator.Minus) e = record { first = 45; more = []; text = refl; no_letter = refl; no_space = refl }
sign_text (token.Infix operator.Over) e = record { first = 47; more = []; text = refl; no_letter = refl; no_space = refl }
sign_text (token.Infix operator.Modulo) e = record { first = 37; more = []; text = refl; no_letter = refl; no_space = refl }
sign_text (token.Compare comparison.Below) e = record { first = 60; more = []; text = refl; no_letter = refl; no_space = refl }
sign_text (token.Compare comparison.AtMost) e = record { first = 60; more = 61 ∷ []; text = refl; no_letter = refl; no_space = refl }
sign_text (token.Compare comparison.Same) e = record { first = 61; more = 61 ∷ []; text = refl; no_letter = refl; no_space = refl }
sign_text (token.Compare comparison.Other) e = record { first = 33; more = 61 ∷ []; text = refl; no_letter = refl; no_space = refl }
sign_text (token.Compare comparison.AtLeast) e = record { first = 62; more = 61 ∷ []; text = refl; no_letter = refl; no_space = refl }
sign_text (token.Compare comparison.Above) e = record { first = 62; more = []; text = refl; no_letter = refl; no_space = refl }
sign_text token.Open e = record { first = 40; more = []; text = refl; no_letter = refl; no_space = refl }
sign_text token.Close e = record { first = 41; more = []; text = refl; no_letter = refl; no_space = refl }
sign_text token.Comma e = record { first = 44; more = []; text = refl; no_letter = refl; no_space = refl }
sign_text (token.Number n) e = cc
sign_text (token.Given f) e = cc
sign_text token.NoRank e = cc
sign_text token.If e = cc
sign_text token.Then e = cc
sign_text token.Else e = cc
sign_text token.Not e = cc
sign_text (token.Call x) e = cc
sign_text (token.Join j) e = cc
sign_text token.NoNumber e = cc
sign_text token.Unknown e = cc

sign_first : (t : Token) (behind : List ℕ) → is_sign t ≡ true → begins is_of_word (token_text t ++ behind) ≡ false
sign_first t behind e = let sign = sign_text t e in ap (λ w. begins is_of_word (w ++ behind)) sign.text ∙ sign.no_letter

-- ---- names

-- a word is written as this token, which is no sign
abbrev Sound : List ℕ → Token → Type 0
Sound word t = (is_sign t ≡ false) × (IsKnown t → IsToken t × (word ≡ token_text t))

pick : (word name : List ℕ) (t other : Token) → IsToken t → name ≡ token_text t → is_sign t ≡ false → Sound word other → Sound word (cond (bytes_eq word name) t other)
pick word name t other known is kind rest = by_test (bytes_eq word name) refl
  where
    by_test : (b : Bool) → bytes_eq word name ≡ b → Sound word (cond b t other)
    by_test true e = (kind, (λ h. (known, (bytes_eq-Decides word name).0 e ∙ is)))
    by_test false e = rest

fact_sound : (word : List ℕ) → Sound word (fact_named word)
fact_sound word =
    pick word (codes "level") (token.Given fact.Level) _ tt refl refl (
    pick word (codes "ran") (token.Given fact.Ran) _ tt refl refl (
    pick word (codes "thread") (token.Given fact.Thread) _ tt refl refl (
    pick word (codes "cpu") (token.Given fact.Cpu) _ tt refl refl (
    pick word (codes "allowed") (token.Given fact.Allowed) _ tt refl refl (
    pick word (codes "none") token.NoRank token.Unknown tt refl refl (refl, (λ h. absurd h)))))))

word_sound : (word : List ℕ) → Sound word (word_named word)
word_sound word =
    pick word (codes "if") (token.If) _ tt refl refl (
    pick word (codes "then") (token.Then) _ tt refl refl (
    pick word (codes "else") (token.Else) _ tt refl refl (
    pick word (codes "not") (token.Not) _ tt refl refl (
    pick word (codes "min") (token.Call extreme.Min) _ tt refl refl (
    pick word (codes "max") (token.Call extreme.Max) _ tt refl refl (
    pick word (codes "and") (token.Join joiner.And) _ tt refl refl (
    pick word (codes "or") (token.Join joiner.Or) (fact_named word) tt refl refl (fact_sound word))))))))

-- words that are no numbers
abbrev is_name : Token → Bool
is_name (token.Number n) = false
is_name token.NoNumber = false
is_name token.Unknown = false
is_name t = not (is_sign t)

named_only : (t : Token) → is_name t ≡ true → word_named (token_text t) ≡ t
named_only (token.Given fact.Level) e = refl
named_only (token.Given fact.Ran) e = refl
named_only (token.Given fact.Thread) e = refl
named_only (token.Given fact.Cpu) e = refl
named_only (token.Given fact.Allowed) e = refl
named_only token.NoRank e = refl
named_only token.If e = refl
named_only token.Then e = refl
named_only token.Else e = refl
named_only token.Not e = refl
named_only (token.Call extreme.Min) e = refl
named_only (token.Call extreme.Max) e = refl
named_only (token.Join joiner.And) e = refl
named_only (token.Join joiner.Or) e = refl
named_only (token.Number n) e = cc
named_only (token.Infix o) e = cc
named_only (token.Compare c) e = cc
named_only token.Open e = cc
named_only token.Close e = cc
named_only token.Comma e = cc
named_only token.NoNumber e = cc
named_only token.Unknown e = cc

-- no such word begins with a digit
name_first : (t : Token) → is_name t ≡ true → IsInRange 48 57 (get_or (token_text t) 0 0) → ⊥
name_first (token.Given fact.Level) e h = omega (arith, h)
name_first (token.Given fact.Ran) e h = omega (arith, h)
name_first (token.Given fact.Thread) e h = omega (arith, h)
name_first (token.Given fact.Cpu) e h = omega (arith, h)
name_first (token.Given fact.Allowed) e h = omega (arith, h)
name_first token.NoRank e h = omega (arith, h)
name_first token.If e h = omega (arith, h)
name_first token.Then e h = omega (arith, h)
name_first token.Else e h = omega (arith, h)
name_first token.Not e h = omega (arith, h)
name_first (token.Call extreme.Min) e h = omega (arith, h)
name_first (token.Call extreme.Max) e h = omega (arith, h)
name_first (token.Join joiner.And) e h = omega (arith, h)
name_first (token.Join joiner.Or) e h = omega (arith, h)
name_first (token.Number n) e h = cc
name_first (token.Infix o) e h = cc
name_first (token.Compare c) e h = cc
name_first token.Open e h = cc
name_first token.Close e h = cc
name_first token.Comma e h = cc
name_first token.NoNumber e h = cc
name_first token.Unknown e h = cc

-- a token that is no sign is a number or a name
kinds : (t : Token) → IsToken t → is_sign t ≡ false → ((n : ℕ) × (n < 2 ^ 64) × (t ≡ token.Number n)) ⊎ (is_name t ≡ true)
kinds (token.Number n) h e = inl (n, h, refl)
kinds (token.Given f) h e = inr refl
kinds token.NoRank h e = inr refl
kinds token.If h e = inr refl
kinds token.Then h e = inr refl
kinds token.Else h e = inr refl
kinds token.Not h e = inr refl
kinds (token.Call x) h e = inr refl
kinds (token.Join j) h e = inr refl
kinds (token.Infix o) h e = cc
kinds (token.Compare c) h e = cc
kinds token.Open h e = cc
kinds token.Close h e = cc
kinds token.Comma h e = cc
kinds token.NoNumber h e = absurd h
kinds token.Unknown h e = absurd h

-- ---- numbers

is_below : (a b : ℕ) → a < b → nat_lt a b ≡ true
is_below a b h = grind (arith, nat_tests)

is_above : (a b : ℕ) → nat_lt a b ≡ true → a < b
is_above a b e = grind (arith, nat_tests)

-- a word that writes a number is one, and writes its value
value_is : (word : List ℕ) (n : ℕ) → n < 2 ^ 64 → word ≡ decimal n → digits_value 10 word ≡ n
value_is word n small is = ap (digits_value 10) is ∙ digits_value-decimal own n small

is_tested : (word : List ℕ) (n : ℕ) → n < 2 ^ 64 → word ≡ decimal n → is_number word ≡ true
unfolding is_number
is_tested word n small is =
    let value = value_is word n small is in
    let same : word ≡ decimal (digits_value 10 word) = is ∙ ap decimal (sym value) in
    ap (λ b. b && bytes_eq word (decimal (digits_value 10 word))) (is_below (digits_value 10 word) (2 ^ 64) (omega (arith, value, small)))
    ∙ (bytes_eq-Decides word (decimal (digits_value 10 word))).1 same

-- which number it is
record IsValue (word : List ℕ) : Type 0 where
  small : digits_value 10 word < 2 ^ 64
  is : word ≡ decimal (digits_value 10 word)

value_of : (word : List ℕ) → is_number word ≡ true → IsValue word
unfolding is_number
value_of word e =
    let tests = both (nat_lt (digits_value 10 word) (2 ^ 64)) (bytes_eq word (decimal (digits_value 10 word))) e in
    record {
      small = is_above (digits_value 10 word) (2 ^ 64) tests.0;
      is = (bytes_eq-Decides word (decimal (digits_value 10 word))).0 tests.1;
    }

abbrev pub NoNumber : List ℕ → Type 0
NoNumber word = (n : ℕ) → n < 2 ^ 64 → word ≡ decimal n → ⊥

not_tested : (word : List ℕ) → NoNumber word → is_number word ≡ false
not_tested word none = by_test (is_number word) refl
  where
    by_test : (b : Bool) → is_number word ≡ b → b ≡ false
    by_test false e = refl
    by_test true e = let value = value_of word e in absurd (none (digits_value 10 word) value.small value.is)

none_tested : (word : List ℕ) → is_number word ≡ false → NoNumber word
none_tested word e = λ n small is. let no : true ≡ false = sym (is_tested word n small is) ∙ e in cc

-- ---- the token of a word

digit_first : (word : List ℕ) → begins is_ascii_digit word ≡ true → IsInRange 48 57 (get_or word 0 0)
digit_first [] e = cc
digit_first (b ∷ bs) e = in_range b e
  where
    in_range : (c : ℕ) → is_ascii_digit c ≡ true → IsInRange 48 57 c
    in_range c e = grind (arith, nat_tests)

first_digit : (word : List ℕ) → 0 < length word → IsInRange 48 57 (get_or word 0 0) → begins is_ascii_digit word ≡ true
first_digit [] some h = absurd (omega (arith, some))
first_digit (b ∷ bs) some h = tested b h
  where
    tested : (c : ℕ) → IsInRange 48 57 c → is_ascii_digit c ≡ true
    tested c h = grind (arith, nat_tests)

pub number_token : (word : List ℕ) (n : ℕ) → n < 2 ^ 64 → word ≡ decimal n → token.Number n ≡ word_token word
unfolding word_token
number_token word n small is =
    ap token.Number (sym (value_is word n small is))
    ∙ sym (ap (λ b. cond b (token.Number (digits_value 10 word)) (cond (begins is_ascii_digit word) token.NoNumber (word_named word))) (is_tested word n small is))

other_token : (word : List ℕ) → NoNumber word → (b : Bool) → begins is_ascii_digit word ≡ b → word_token word ≡ cond b token.NoNumber (word_named word)
unfolding word_token
other_token word none b e =
    ap (λ b. cond b (token.Number (digits_value 10 word)) (cond (begins is_ascii_digit word) token.NoNumber (word_named word))) (not_tested word none)
    ∙ ap (λ b. cond b token.NoNumber (word_named word)) e

pub no_number_token : (word : List ℕ) → 0 < length word → IsInRange 48 57 (get_or word 0 0) → NoNumber word → token.NoNumber ≡ word_token word
no_number_token word some digit none = sym (other_token word none true (first_digit word some digit))

pub name_token : (word : List ℕ) → (IsInRange 48 57 (get_or word 0 0) → ⊥) → NoNumber word → word_named word ≡ word_token word
name_token word no_digit none = by_test (begins is_ascii_digit word) refl
  where
    by_test : (b : Bool) → begins is_ascii_digit word ≡ b → word_named word ≡ word_token word
    by_test true e = absurd (no_digit (digit_first word e))
    by_test false e = sym (other_token word none false e)

number_named : (word : List ℕ) (n : ℕ) → n < 2 ^ 64 → word ≡ decimal n → IsNamed word (token.Number n)
number_named word n small is =
    let some : 0 < length word = subst (λ w. 0 < length w) (sym is) (decimal_nonempty n small) in
    record {
      kind = refl;
      sound = λ h. (small, is);
      only = λ t h e same. ⊎_elim
          (λ number. let text : decimal n ≡ decimal number.0 = sym is ∙ same ∙ ap token_text number.2 in ap token.Number (decimal_injective n number.0 small number.1 text) ∙ sym number.2)
          (λ name. absurd (name_first t name (subst (λ w. IsInRange 48 57 (get_or w 0 0)) same (is_digit_at word n 0 small is some))))
          (kinds t h e);
    }

no_number_named : (word : List ℕ) → IsInRange 48 57 (get_or word 0 0) → NoNumber word → IsNamed word token.NoNumber
no_number_named word digit none = record {
  kind = refl;
  sound = λ h. absurd h;
  only = λ t h e same. ⊎_elim
      (λ number. absurd (none number.0 number.1 (same ∙ ap token_text number.2)))
      (λ name. absurd (name_first t name (subst (λ w. IsInRange 48 57 (get_or w 0 0)) same digit)))
      (kinds t h e);
}

name_named : (word : List ℕ) → NoNumber word → IsNamed word (word_named word)
name_named word none = record {
  kind = (word_sound word).0;
  sound = (word_sound word).1;
  only = λ t h e same. ⊎_elim
      (λ number. absurd (none number.0 number.1 (same ∙ ap token_text number.2)))
      (λ name. ap word_named same ∙ named_only t name)
      (kinds t h e);
}

is_named : (word : List ℕ) → IsNamed word (word_token word)
is_named word = by_number (is_number word) refl
  where
    by_digit : (none : NoNumber word) (b : Bool) → begins is_ascii_digit word ≡ b → IsNamed word (word_token word)
    by_digit none true e = subst (IsNamed word) (sym (other_token word none true e)) (no_number_named word (digit_first word e) none)
    by_digit none false e = subst (IsNamed word) (sym (other_token word none false e)) (name_named word none)

    by_number : (b : Bool) → is_number word ≡ b → IsNamed word (word_token word)
    by_number true e =
        let value = value_of word e in
        subst (IsNamed word) (number_token word (digits_value 10 word) value.small value.is) (number_named word (digits_value 10 word) value.small value.is)
    by_number false e = by_digit (none_tested word e) (begins is_ascii_digit word) refl

-- ---- the first token

-- a word in front, behind which neither letter nor digit stands
cut_word : (text : List ℕ) (found : Token) → 0 < letters text → IsNamed (take (letters text) text) found → Cuts text found (drop (letters text) text)
cut_word text found some named = record {
  sound = λ h. ((named.sound h).0, sym (take-append-drop (letters text) text) ∙ ap (λ w. w ++ drop (letters text) text) (named.sound h).1, ap (λ such. begins such (drop (letters text) text)) (word_lengthens found named.kind) ∙ none_behind text);
  only = λ t behind h none is. by_kind t behind h none is (is_sign t) refl;
}
  where
    by_kind : (t : Token) (behind : List ℕ) → IsToken t → begins (lengthens t) behind ≡ false → text ≡ token_text t ++ behind → (b : Bool) → is_sign t ≡ b → (found ≡ t) × (drop (letters text) text ≡ behind)
    by_kind t behind h none is true e =
        let zero_letters : letters text ≡ 0 = letters_none text (ap (begins is_of_word) is ∙ sign_first t behind e) in
        absurd (omega arith)
    by_kind t behind h none is false e =
        let word = wordy t h e in
        let apart : begins is_of_word behind ≡ false = ap (λ such. begins such behind) (sym (word_lengthens t e)) ∙ none in
        let size : letters text ≡ length (token_text t) = ap letters is ∙ letters_word (token_text t) behind word.all apart in
        let front : take (letters text) text ≡ token_text t = ap (λ n. take n text) size ∙ ap (take (length (token_text t))) is ∙ take-append_seam (token_text t) behind in
        let back : drop (letters text) text ≡ behind = ap (λ n. drop n text) size ∙ ap (drop (length (token_text t))) is ∙ drop-append_seam (token_text t) behind in
        (named.only t h e front, back)

-- ---- signs

never : (rest : List ℕ) → begins (λ b. false) rest ≡ false
never [] = refl
never (b ∷ bs) = refl

equal : (a b : ℕ) → (a == b) ≡ true → a ≡ b
equal a b e = grind (arith, nat_tests)

unequal : (a b : ℕ) → (a ≡ b → ⊥) → (a == b) ≡ false
unequal a b h = grind (arith, nat_tests)

not_zero : (a : ℕ) → (a == 0) ≡ false → 0 < a
not_zero a e = grind (arith, nat_tests)

-- the bytes in front are those of the token, with nothing behind them that would belong to it
abbrev FitsIn : List ℕ → List ℕ → Token → Type 0
FitsIn front rest t = IsKnown t → IsToken t × (front ++ rest ≡ token_text t ++ rest) × (begins (lengthens t) rest ≡ false)

pick_sign : (byte code : ℕ) (behind rest : List ℕ) (t other : Token) → IsToken t → token_text t ≡ code ∷ behind → (byte ≡ code → begins (lengthens t) rest ≡ false) → FitsIn (byte ∷ behind) rest other → FitsIn (byte ∷ behind) rest (cond (byte == code) t other)
pick_sign byte code behind rest t other known is none more = by_test (byte == code) refl
  where
    by_test : (b : Bool) → (byte == code) ≡ b → FitsIn (byte ∷ behind) rest (cond b t other)
    by_test true e h = (known, ap (λ c. c ∷ (behind ++ rest)) (equal byte code e) ∙ ap (λ w. w ++ rest) (sym is), none (equal byte code e))
    by_test false e h = more h

single_fits : (byte : ℕ) (rest : List ℕ) → (doubles byte ≡ true → begins (λ b. b == 61) rest ≡ false) → FitsIn (byte ∷ []) rest (single byte)
single_fits byte rest none =
    pick_sign byte 40 [] rest token.Open _ tt refl (λ e. never rest) (
    pick_sign byte 41 [] rest token.Close _ tt refl (λ e. never rest) (
    pick_sign byte 44 [] rest token.Comma _ tt refl (λ e. never rest) (
    pick_sign byte 43 [] rest (token.Infix operator.Plus) _ tt refl (λ e. never rest) (
    pick_sign byte 42 [] rest (token.Infix operator.Times) _ tt refl (λ e. never rest) (
    pick_sign byte 45 [] rest (token.Infix operator.Minus) _ tt refl (λ e. never rest) (
    pick_sign byte 47 [] rest (token.Infix operator.Over) _ tt refl (λ e. never rest) (
    pick_sign byte 37 [] rest (token.Infix operator.Modulo) _ tt refl (λ e. never rest) (
    pick_sign byte 60 [] rest (token.Compare comparison.Below) _ tt refl (λ e. none (ap doubles e)) (
    pick_sign byte 62 [] rest (token.Compare comparison.Above) token.Unknown tt refl (λ e. none (ap doubles e)) (λ h. absurd h))))))))))

double_fits : (byte : ℕ) (rest : List ℕ) → FitsIn (byte ∷ 61 ∷ []) rest (before_equals byte)
double_fits byte rest =
    pick_sign byte 60 (61 ∷ []) rest (token.Compare comparison.AtMost) _ tt refl (λ e. never rest) (
    pick_sign byte 62 (61 ∷ []) rest (token.Compare comparison.AtLeast) _ tt refl (λ e. never rest) (
    pick_sign byte 61 (61 ∷ []) rest (token.Compare comparison.Same) _ tt refl (λ e. never rest) (
    pick_sign byte 33 (61 ∷ []) rest (token.Compare comparison.Other) token.Unknown tt refl (λ e. never rest) (λ h. absurd h))))

not_both : (a b : Bool) → (a && b) ≡ false → a ≡ true → b ≡ false
not_both true b e h = e
not_both false b e h = cc

-- what the sign in front says
abbrev FitsAt : List ℕ → Token × List ℕ → Type 0
FitsAt text found = IsKnown found.0 → IsToken found.0 × (text ≡ token_text found.0 ++ found.1) × (begins (lengthens found.0) found.1 ≡ false)

sign_fits : (text : List ℕ) → FitsAt text (sign_at text)
sign_fits [] = λ h. absurd h
sign_fits (byte ∷ []) = single_fits byte [] (λ e. refl)
sign_fits (byte ∷ next ∷ bytes) = by_test (doubles byte && next == 61) refl
  where
    by_test : (b : Bool) → (doubles byte && next == 61) ≡ b → FitsAt (byte ∷ next ∷ bytes) (cond b (before_equals byte, bytes) (single byte, next ∷ bytes))
    by_test true e h =
        let fits = double_fits byte bytes h in
        (fits.0, ap (λ c. byte ∷ c ∷ bytes) (equal next 61 (both (doubles byte) (next == 61) e).1) ∙ fits.1, fits.2)
    by_test false e h = single_fits byte (next ∷ bytes) (not_both (doubles byte) (next == 61) e) h

-- a sign is found, whatever may stand behind it
undoubled : (byte : ℕ) (behind : List ℕ) → doubles byte ≡ false → sign_at (byte ∷ behind) ≡ (single byte, behind)
undoubled byte [] e = refl
undoubled byte (next ∷ bytes) e = ap (λ b. cond (b && next == 61) (before_equals byte, bytes) (single byte, next ∷ bytes)) e

alone : (byte : ℕ) (behind : List ℕ) → begins (λ b. b == 61) behind ≡ false → doubles byte ≡ true → sign_at (byte ∷ behind) ≡ (single byte, behind)
alone byte [] e d = refl
alone byte (next ∷ bytes) e d =
    ap (λ b. cond (b && next == 61) (before_equals byte, bytes) (single byte, next ∷ bytes)) d
    ∙ ap (λ b. cond b (before_equals byte, bytes) (single byte, next ∷ bytes)) e

sign_only : (t : Token) (behind : List ℕ) → is_sign t ≡ true → begins (lengthens t) behind ≡ false → sign_at (token_text t ++ behind) ≡ (t, behind)
sign_only (token.Infix operator.Plus) behind e none = undoubled 43 behind refl
sign_only (token.Infix operator.Times) behind e none = undoubled 42 behind refl
sign_only (token.Infix operator.Minus) behind e none = undoubled 45 behind refl
sign_only (token.Infix operator.Over) behind e none = undoubled 47 behind refl
sign_only (token.Infix operator.Modulo) behind e none = undoubled 37 behind refl
sign_only (token.Compare comparison.Below) behind e none = alone 60 behind none refl
sign_only (token.Compare comparison.AtMost) behind e none = refl
sign_only (token.Compare comparison.Same) behind e none = refl
sign_only (token.Compare comparison.Other) behind e none = refl
sign_only (token.Compare comparison.AtLeast) behind e none = refl
sign_only (token.Compare comparison.Above) behind e none = alone 62 behind none refl
sign_only token.Open behind e none = undoubled 40 behind refl
sign_only token.Close behind e none = undoubled 41 behind refl
sign_only token.Comma behind e none = undoubled 44 behind refl
sign_only (token.Number n) behind e none = cc
sign_only (token.Given f) behind e none = cc
sign_only token.NoRank behind e none = cc
sign_only token.If behind e none = cc
sign_only token.Then behind e none = cc
sign_only token.Else behind e none = cc
sign_only token.Not behind e none = cc
sign_only (token.Call x) behind e none = cc
sign_only (token.Join j) behind e none = cc
sign_only token.NoNumber behind e none = cc
sign_only token.Unknown behind e none = cc

-- letters stand in front of a word
letters_some : (word behind : List ℕ) → IsWord word → 0 < letters (word ++ behind)
letters_some [] behind h = absurd (let some = h.some in omega (arith, some))
letters_some (b ∷ bs) behind h =
    let is : letters ((b ∷ bs) ++ behind) ≡ suc (letters (bs ++ behind)) = ap (λ t. cond t (suc (letters (bs ++ behind))) 0) (both (is_of_word b) (all_of_word bs) h.all).0 in
    omega (arith, is)

cut_sign : (text : List ℕ) → letters text ≡ 0 → Cuts text (sign_at text).0 (sign_at text).1
cut_sign text zero_letters = record {
  sound = sign_fits text;
  only = λ t behind h none same. by_kind t behind h none same (is_sign t) refl;
}
  where
    by_kind : (t : Token) (behind : List ℕ) → IsToken t → begins (lengthens t) behind ≡ false → text ≡ token_text t ++ behind → (b : Bool) → is_sign t ≡ b → ((sign_at text).0 ≡ t) × ((sign_at text).1 ≡ behind)
    by_kind t behind h none same true e =
        let pairs : sign_at text ≡ (t, behind) = ap sign_at same ∙ sign_only t behind e none in
        (ap (λ (p : Token × List ℕ). p.0) pairs, ap (λ (p : Token × List ℕ). p.1) pairs)
    by_kind t behind h none same false e =
        let some = letters_some (token_text t) behind (wordy t h e) in
        let there : letters text ≡ letters (token_text t ++ behind) = ap letters same in
        absurd (omega (arith, some, there, zero_letters))

-- ---- the first token

pub first_sign : (text : List ℕ) (n : ℕ) → n ≡ letters text → n ≡ 0 → first_token text ≡ sign_at text
unfolding first_token
first_sign text n is none =
    let zero_letters : letters text ≡ 0 = sym is ∙ none in
    ap (λ k. cond (k == 0) (sign_at text) (word_token (take (letters text) text), drop (letters text) text)) zero_letters

pub first_word : (text : List ℕ) (n : ℕ) → n ≡ letters text → (n ≡ 0 → ⊥) → first_token text ≡ (word_token (take n text), drop n text)
unfolding first_token
first_word text n is some =
    let word : ℕ → Token × List ℕ = λ k. (word_token (take k text), drop k text) in
    ap (λ k. cond (k == 0) (sign_at text) (word k)) (sym is) ∙ ap (λ t. cond t (sign_at text) (word n)) (unequal n 0 some)

pub cuts_first : (text : List ℕ) → Cuts text (first_token text).0 (first_token text).1
unfolding first_token
cuts_first text = by_test (letters text == 0) refl
  where
    word : Token × List ℕ
    word = (word_token (take (letters text) text), drop (letters text) text)

    by_test : (b : Bool) → (letters text == 0) ≡ b → Cuts text (cond b (sign_at text) word).0 (cond b (sign_at text) word).1
    by_test true e = cut_sign text (equal (letters text) 0 e)
    by_test false e = cut_word text (word_token (take (letters text) text)) (not_zero (letters text) e) (is_named (take (letters text) text))

sign_shorter : (b : ℕ) (bs : List ℕ) → length (sign_at (b ∷ bs)).1 ≤ length bs
sign_shorter b [] = omega arith
sign_shorter b (next ∷ bytes) = by_test (doubles b && next == 61)
  where
    by_test : (t : Bool) → length (cond {A = Token × List ℕ} t (before_equals b, bytes) (single b, next ∷ bytes)).1 ≤ length (next ∷ bytes)
    by_test true = omega arith
    by_test false = omega arith

-- it takes a byte at least
first_shorter : (b : ℕ) (bs : List ℕ) → length (first_token (b ∷ bs)).1 ≤ length bs
unfolding first_token
first_shorter b bs = by_test (letters (b ∷ bs) == 0) refl
  where
    word : Token × List ℕ
    word = (word_token (take (letters (b ∷ bs)) (b ∷ bs)), drop (letters (b ∷ bs)) (b ∷ bs))

    by_test : (t : Bool) → (letters (b ∷ bs) == 0) ≡ t → length (cond t (sign_at (b ∷ bs)) word).1 ≤ length bs
    by_test true e = sign_shorter b bs
    by_test false e = omega (arith, length-drop (letters (b ∷ bs)) (b ∷ bs), not_zero (letters (b ∷ bs)) e)

-- ---- all tokens

no_space_in_word : (word behind : List ℕ) → IsWord word → begins (λ b. b == 32) (word ++ behind) ≡ false
no_space_in_word [] behind h = absurd (let some = h.some in omega (arith, some))
no_space_in_word (b ∷ bs) behind h = other b (both (is_of_word b) (all_of_word bs) h.all).0
  where
    other : (c : ℕ) → is_of_word c ≡ true → (c == 32) ≡ false
    other c e = grind (arith, nat_tests)

no_space : (t : Token) (behind : List ℕ) → IsToken t → begins (λ b. b == 32) (token_text t ++ behind) ≡ false
no_space t behind h = by_kind (is_sign t) refl
  where
    by_kind : (b : Bool) → is_sign t ≡ b → begins (λ b. b == 32) (token_text t ++ behind) ≡ false
    by_kind true e = let sign = sign_text t e in ap (λ w. begins (λ b. b == 32) (w ++ behind)) sign.text ∙ sign.no_space
    by_kind false e = no_space_in_word (token_text t) behind (wordy t h e)

-- the first token of a text that does not begin with a space
record HasFirst (text : List ℕ) (all : List Token) : Type 0 where
  pub t : Token
  pub behind : List ℕ
  pub more : List Token
  pub known : IsToken t
  pub apart : begins (lengthens t) behind ≡ false
  pub text_is : text ≡ token_text t ++ behind
  pub all_is : all ≡ t ∷ more
  pub rest : Spells behind more

-- what a text is that has tokens
abbrev Opened : List ℕ → List Token → Type 0
Opened [] all = all ≡ []
Opened (b ∷ bs) all = ((b == 32) ≡ true × Spells bs all) ⊎ ((b == 32) ≡ false × HasFirst (b ∷ bs) all)

some_text : (t : Token) → IsToken t → 0 < length (token_text t)
some_text t h = by_kind (is_sign t) refl
  where
    by_kind : (b : Bool) → is_sign t ≡ b → 0 < length (token_text t)
    by_kind true e = let sign = sign_text t e in subst (λ w. 0 < length w) (sym sign.text) (omega arith)
    by_kind false e = (wordy t h e).some

open_first : (text : List ℕ) (all : List Token) → HasFirst text all → 0 < length text → Opened text all
open_first [] all h some = absurd (omega (arith, some))
open_first (b ∷ bs) all h some =
    inr (ap (begins (λ c. c == 32)) h.text_is ∙ no_space h.t h.behind h.known, h)

invert : {text : List ℕ} {all : List Token} → Spells text all → Opened text all
invert done = refl
invert (space s) = inl (refl, s)
invert (one {text} {tokens} t known apart s) =
    open_first (token_text t ++ text) (t ∷ tokens)
    (record { t = t; behind = text; more = tokens; known = known; apart = apart; text_is = refl; all_is = refl; rest = s })
    (omega (arith, some_text t known, length-append (token_text t) text))

-- behind a space stand the tokens of the whole
has_spaced : (b : ℕ) (bs : List ℕ) (tokens : List Token) → b ≡ 32 → HasTokens bs tokens → HasTokens (b ∷ bs) tokens
has_spaced b bs tokens is has = record {
  sound = λ h. subst (λ c. Spells (c ∷ bs) tokens) (sym is) (space (has.sound h));
  only = λ all s. has.only all (behind all (invert s));
}
  where
    behind : (all : List Token) → Opened (b ∷ bs) all → Spells bs all
    behind all opened = ⊎_elim (λ spaced. spaced.1) (λ first. let no : true ≡ false = sym (ap (λ c. c == 32) is) ∙ first.0 in cc) opened

-- behind a first token stand the others
has_first : (b : ℕ) (bs : List ℕ) (t : Token) (rest : List ℕ) (tokens : List Token) → (b == 32) ≡ false → Cuts (b ∷ bs) t rest → HasTokens rest tokens → HasTokens (b ∷ bs) (t ∷ tokens)
has_first b bs t rest tokens no_space_there cut has = record {
  sound = λ h.
      let fits = cut.sound h.0 in
      subst (λ w. Spells w (t ∷ tokens)) (sym fits.1) (one t fits.0 fits.2 (has.sound h.1));
  only = λ all s. by_first all (invert s);
}
  where
    by_first : (all : List Token) → Opened (b ∷ bs) all → all ≡ t ∷ tokens
    by_first all opened = ⊎_elim
        (λ spaced. let no : true ≡ false = sym spaced.0 ∙ no_space_there in cc)
        (λ found.
        let first = found.1 in
        let same = cut.only first.t first.behind first.known first.apart first.text_is in
        let others = has.only first.more (subst (λ w. Spells w first.more) (sym same.1) first.rest) in
        first.all_is ∙ ap (λ u. u ∷ first.more) (sym same.0) ∙ ap (λ us. t ∷ us) others)
        opened

has_none : HasTokens [] []
has_none = record { sound = λ h. done; only = λ all s. invert s }

has_within : (most : ℕ) (text : List ℕ) → length text ≤ most → HasTokens text (tokens_within most text)
unfolding tokens_within
has_within zero [] few = has_none
has_within zero (b ∷ bs) few = absurd (omega (arith, few))
has_within (suc most) [] few = has_none
has_within (suc most) (b ∷ bs) few =
    by_test (has_within most bs (omega (arith, few))) (has_within most (first_token (b ∷ bs)).1 (omega (arith, few, first_shorter b bs))) (b == 32) refl
  where
    by_test : HasTokens bs (tokens_within most bs) → HasTokens (first_token (b ∷ bs)).1 (tokens_within most (first_token (b ∷ bs)).1) → (t : Bool) → (b == 32) ≡ t
        → HasTokens (b ∷ bs) (cond t (tokens_within most bs) ((first_token (b ∷ bs)).0 ∷ tokens_within most (first_token (b ∷ bs)).1))
    by_test spaced others true e = has_spaced b bs (tokens_within most bs) (equal b 32 e) spaced
    by_test spaced others false e =
        has_first b bs (first_token (b ∷ bs)).0 (first_token (b ∷ bs)).1 (tokens_within most (first_token (b ∷ bs)).1) e (cuts_first (b ∷ bs)) others

pub has_tokens : (text : List ℕ) → HasTokens text (tokens_of text)
unfolding tokens_of
has_tokens text = has_within (length text) text (omega arith)

-- ---- one token after another

-- no more are wanted than there are bytes
enough : (n m : ℕ) (text : List ℕ) → length text ≤ n → length text ≤ m → tokens_within n text ≡ tokens_within m text
unfolding tokens_within
enough zero zero text few less = refl
enough zero (suc m) [] few less = refl
enough (suc n) zero [] few less = refl
enough (suc n) (suc m) [] few less = refl
enough zero (suc m) (b ∷ bs) few less = absurd (omega (arith, few))
enough (suc n) zero (b ∷ bs) few less = absurd (omega (arith, less))
enough (suc n) (suc m) (b ∷ bs) few less =
    let first = first_token (b ∷ bs) in
    let spaced = enough n m bs (omega (arith, few)) (omega (arith, less)) in
    let others = enough n m first.1 (omega (arith, few, first_shorter b bs)) (omega (arith, less, first_shorter b bs)) in
    ap (λ ts. cond (b == 32) ts (first.0 ∷ tokens_within n first.1)) spaced
    ∙ ap (λ ts. cond (b == 32) (tokens_within m bs) (first.0 ∷ ts)) others

pub tokens_end : (tokens : List Token) (rest : List ℕ) → length rest ≡ 0 → tokens ++ tokens_of rest ≡ tokens
unfolding tokens_of tokens_within
tokens_end tokens [] none = append-nil tokens
tokens_end tokens (b ∷ bs) none = absurd (omega (arith, none))

pub tokens_spaced : (rest : List ℕ) (b : ℕ) (bs : List ℕ) → rest ≡ b ∷ bs → b ≡ 32 → tokens_of rest ≡ tokens_of bs
unfolding tokens_of tokens_within
tokens_spaced rest b bs there is =
    ap tokens_of there ∙ ap (λ c. cond (c == 32) (tokens_within (length bs) bs) ((first_token (b ∷ bs)).0 ∷ tokens_within (length bs) (first_token (b ∷ bs)).1)) is

tokens_first : (b : ℕ) (bs : List ℕ) → (b ≡ 32 → ⊥) → tokens_of (b ∷ bs) ≡ (first_token (b ∷ bs)).0 ∷ tokens_of (first_token (b ∷ bs)).1
unfolding tokens_of tokens_within
tokens_first b bs no_space_there =
    let first = first_token (b ∷ bs) in
    ap (λ t. cond t (tokens_within (length bs) bs) (first.0 ∷ tokens_within (length bs) first.1)) (unequal b 32 no_space_there)
    ∙ ap (λ ts. first.0 ∷ ts) (enough (length bs) (length first.1) first.1 (first_shorter b bs) (omega arith))

pub tokens_more : (items : List Token) (count : ℕ) (rest : List ℕ) (b : ℕ) (bs : List ℕ) (t : Token) (after : List ℕ) → rest ≡ b ∷ bs → (b ≡ 32 → ⊥) → (t, after) ≡ first_token rest → count < length items
    → take count items ++ tokens_of rest ≡ take (count + 1) (set items count t) ++ tokens_of after
tokens_more items count rest b bs t after there no_space_there cut room =
    let first = first_token (b ∷ bs) in
    let same : first ≡ (t, after) = sym (cut ∙ ap first_token there) in
    let others : tokens_of rest ≡ t ∷ tokens_of after =
    ap tokens_of there ∙ tokens_first b bs no_space_there ∙ ap (λ (p : Token × List ℕ). p.0 ∷ tokens_of p.1) same in
    ap (λ ts. take count items ++ ts) others
    ∙ sym (append_assoc (take count items) (t ∷ []) (tokens_of after))
    ∙ ap (λ ts. ts ++ tokens_of after) (sym (take_more_set items count t room))
