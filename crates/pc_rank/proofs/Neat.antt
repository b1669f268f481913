-- What is written of an expression: words with one space between each two, and no `t` at the end.
use Rattle.std.proofs.Common.{ℕ, ◌≡◌, ◌<◌, ◌++◌, ◌∙◌, eqb, ltb, not, ◌&&◌, Bool, true, false, List, [], ◌∷◌, length, codes, decimal, refl, sym, ap, subst, arith, append_assoc}
use Rattle.std.specs.Str.Parse.{AllDigits}
use Rattle.std.proofs.lemmas.Bool.{lt-ltb, ne_eqb}
use Rattle.std.proofs.lemmas.Fmt.{decimal_nonempty, digits_decimal}
use Rattle.std.proofs.lemmas.Str.Parse.{digit_from_value}
use Rattle.pc_rank.specs.Expressions.{Tree, Condition}
use Rattle.pc_rank.specs.Expressions as tree
use Rattle.pc_rank.specs.Texts.{comparison_sign, extreme_word, fact_word, goes_on, grouped, is_choice, is_joined_on, is_loose, joiner_word, operator_sign, test_text, text_of}
use Rattle.pc_rank.specs.declared.facts.Fact.{Fact}
use Rattle.pc_rank.specs.declared.facts.Fact.TheVariants as fact
use Rattle.pc_rank.specs.declared.operators.Comparison.{Comparison}
use Rattle.pc_rank.specs.declared.operators.Comparison.TheVariants as comparison
use Rattle.pc_rank.specs.declared.operators.Extreme.{Extreme}
use Rattle.pc_rank.specs.declared.operators.Extreme.TheVariants as extreme
use Rattle.pc_rank.specs.declared.operators.Joiner.{Joiner}
use Rattle.pc_rank.specs.declared.operators.Joiner.TheVariants as joiner
use Rattle.pc_rank.specs.declared.operators.Operator.{Operator}
use Rattle.pc_rank.specs.declared.operators.Operator.TheVariants as operator
use Rattle.pc_rank.proofs.Numerals.{own}
use Rattle.pc_rank.proofs.Spelling.{Small, SmallTest}

-- a byte is neither a space nor a control character
abbrev pub IsBlack : ℕ → Type 0
IsBlack b = ltb 32 b ≡ true

-- Words with one space between each two, byte by byte
pub data Neat : List ℕ → Type 0 where
  byte : (b : ℕ) → IsBlack b → Neat (b ∷ [])
  next : (b : ℕ) {text : List ℕ} → IsBlack b → Neat text → Neat (b ∷ text)
  gap : (b : ℕ) {text : List ℕ} → IsBlack b → Neat text → Neat (b ∷ 32 ∷ text)

pub joined : {a b : List ℕ} → Neat a → Neat b → Neat (a ++ b)
joined (byte x h) n = next x h n
joined (next x h m) n = next x h (joined m n)
joined (gap x h m) n = gap x h (joined m n)

pub parted : {a b : List ℕ} → Neat a → Neat b → Neat (a ++ 32 ∷ b)
parted (byte x h) n = gap x h n
parted (next x h m) n = next x h (parted m n)
parted (gap x h m) n = gap x h (parted m n)

-- a space between two
pub spaced : {a b : List ℕ} → Neat a → Neat b → Neat (a ++ codes " " ++ b)
spaced {a} {b} m n = subst Neat (sym (append_assoc a (codes " ") b)) (parted m n)

-- a word between two, with a space on both sides
worded : {a b : List ℕ} (word : List ℕ) → Neat a → Neat word → Neat b → Neat (a ++ (32 ∷ (word ++ codes " ")) ++ b)
worded {a} {b} word m w n =
    subst Neat (sym (append_assoc a (32 ∷ (word ++ codes " ")) b ∙ ap (λ rest. a ++ 32 ∷ rest) (append_assoc word (codes " ") b))) (parted m (parted w n))

-- a comma and a space between two
listed : {a b : List ℕ} → Neat a → Neat b → Neat (a ++ codes ", " ++ b)
listed {a} {b} m n = subst Neat (sym (append_assoc a (codes ", ") b)) (joined m (gap 44 refl n))

abbrev is_word : List ℕ → Bool
is_word [] = true
is_word (b ∷ bs) = ltb 32 b && is_word bs

both : (x y : Bool) → (x && y) ≡ true → (x ≡ true) × (y ≡ true)
both true y h = (refl, h)
both false y h = cc

pub word : (b : ℕ) (bs : List ℕ) → is_word (b ∷ bs) ≡ true → Neat (b ∷ bs)
word b [] h = byte b (both (ltb 32 b) true h).0
word b (c ∷ cs) h = let parts = both (ltb 32 b) (is_word (c ∷ cs)) h in next b parts.0 (word c cs parts.1)

fact_neat : (f : Fact) → Neat (fact_word f)
fact_neat fact.Level = word _ _ refl
fact_neat fact.Ran = word _ _ refl
fact_neat fact.Thread = word _ _ refl
fact_neat fact.Cpu = word _ _ refl
fact_neat fact.Allowed = word _ _ refl

extreme_neat : (x : Extreme) → Neat (extreme_word x)
extreme_neat extreme.Min = word _ _ refl
extreme_neat extreme.Max = word _ _ refl

joiner_neat : (j : Joiner) → Neat (joiner_word j)
joiner_neat joiner.And = word _ _ refl
joiner_neat joiner.Or = word _ _ refl

operator_neat : (o : Operator) → Neat (operator_sign o)
operator_neat operator.Plus = word _ _ refl
operator_neat operator.Times = word _ _ refl
operator_neat operator.Minus = word _ _ refl
operator_neat operator.Over = word _ _ refl
operator_neat operator.Modulo = word _ _ refl

comparison_neat : (c : Comparison) → Neat (comparison_sign c)
comparison_neat comparison.Below = word _ _ refl
comparison_neat comparison.AtMost = word _ _ refl
comparison_neat comparison.Same = word _ _ refl
comparison_neat comparison.Other = word _ _ refl
comparison_neat comparison.AtLeast = word _ _ refl
comparison_neat comparison.Above = word _ _ refl

digits_neat : (d : ℕ) (ds : List ℕ) → AllDigits 10 (d ∷ ds) → Neat (d ∷ ds)
digits_neat d [] are = let digit = digit_from_value d are.0 in byte d (lt-ltb 32 d (omega (arith, digit.0)))
digits_neat d (e ∷ es) are = let digit = digit_from_value d are.0 in next d (lt-ltb 32 d (omega (arith, digit.0))) (digits_neat e es are.1)

some_digits : (digits : List ℕ) → 0 < length digits → AllDigits 10 digits → Neat digits
some_digits [] some are = absurd (omega (arith, some))
some_digits (d ∷ ds) some are = digits_neat d ds are

grouped_neat : (wants : Bool) {text : List ℕ} → Neat text → Neat (grouped wants text)
grouped_neat true n = joined (joined (byte 40 refl) n) (byte 41 refl)
grouped_neat false n = n

mutual
  pub neat : (a : Tree) → Small a → Neat (text_of a)
  neat (tree.Number n) h = some_digits (decimal n) (decimal_nonempty n h) (digits_decimal own n h)
  neat (tree.Given f) h = fact_neat f
  neat tree.NoRank h = word _ _ refl
  neat (tree.Infix o a b) h =
      spaced (spaced (grouped_neat (is_loose a) (neat a h.0)) (operator_neat o)) (grouped_neat (is_loose b && not (goes_on o b)) (neat b h.1))
  neat (tree.Call x a b) h =
      joined (listed (joined (joined (extreme_neat x) (byte 40 refl)) (neat a h.0)) (neat b h.1)) (byte 41 refl)
  neat (tree.Choice q a b) h =
      worded (codes "else") (worded (codes "then") (spaced (word 105 (codes "f") refl) (neat_test q h.0)) (word 116 (codes "hen") refl) (neat a h.1))
      (word 101 (codes "lse") refl) (neat b h.2)

  pub neat_test : (q : Condition) → SmallTest q → Neat (test_text q)
  neat_test (tree.Compare c a b) h =
      spaced (spaced (grouped_neat (is_choice a) (neat a h.0)) (comparison_neat c)) (grouped_neat (is_choice b) (neat b h.1))
  neat_test (tree.Join j p q) h =
      spaced (spaced (grouped_neat true (neat_test p h.0)) (joiner_neat j)) (grouped_neat (not (is_joined_on j q)) (neat_test q h.1))
  neat_test (tree.Negate p) h = spaced (word 110 (codes "ot") refl) (grouped_neat true (neat_test p h))

-- ---- the end

-- the last byte is no `t`
pub record Ended (text : List ℕ) : Type 0 where
  pub front : List ℕ
  pub last : ℕ
  pub is : text ≡ front ++ last ∷ []
  pub other : eqb last 116 ≡ false

pub ends : (front text : List ℕ) → Ended text → Ended (front ++ text)
ends front text h =
    record { front = front ++ h.front; last = h.last; is = ap (λ t. front ++ t) h.is ∙ sym (append_assoc front h.front (h.last ∷ [])); other = h.other }

end : (front : List ℕ) (last : ℕ) → eqb last 116 ≡ false → Ended (front ++ last ∷ [])
end front last other = record { front = front; last = last; is = refl; other = other }

fact_ended : (f : Fact) → Ended (fact_word f)
fact_ended fact.Level = end (codes "leve") 108 refl
fact_ended fact.Ran = end (codes "ra") 110 refl
fact_ended fact.Thread = end (codes "threa") 100 refl
fact_ended fact.Cpu = end (codes "cp") 117 refl
fact_ended fact.Allowed = end (codes "allowe") 100 refl

digits_ended : (d : ℕ) (ds : List ℕ) → AllDigits 10 (d ∷ ds) → Ended (d ∷ ds)
digits_ended d [] are = let digit = digit_from_value d are.0 in end [] d (ne_eqb d 116 (λ t. omega (arith, digit, t)))
digits_ended d (e ∷ es) are = ends (d ∷ []) (e ∷ es) (digits_ended e es are.1)

some_ended : (digits : List ℕ) → 0 < length digits → AllDigits 10 digits → Ended digits
some_ended [] some are = absurd (omega (arith, some))
some_ended (d ∷ ds) some are = digits_ended d ds are

grouped_ended : (wants : Bool) (text : List ℕ) → Ended text → Ended (grouped wants text)
grouped_ended true text h = end (codes "(" ++ text) 41 refl
grouped_ended false text h = h

pub ended : (a : Tree) → Small a → Ended (text_of a)
ended (tree.Number n) h = some_ended (decimal n) (decimal_nonempty n h) (digits_decimal own n h)
ended (tree.Given f) h = fact_ended f
ended tree.NoRank h = end (codes "non") 101 refl
ended (tree.Infix o a b) h =
    ends (grouped (is_loose a) (text_of a) ++ codes " " ++ operator_sign o ++ codes " ") (grouped (is_loose b && not (goes_on o b)) (text_of b))
    (grouped_ended (is_loose b && not (goes_on o b)) (text_of b) (ended b h.1))
ended (tree.Call x a b) h = end (extreme_word x ++ codes "(" ++ text_of a ++ codes ", " ++ text_of b) 41 refl
ended (tree.Choice q a b) h =
    ends (codes "if " ++ test_text q ++ codes " then " ++ text_of a ++ codes " else ") (text_of b) (ended b h.2)
