-- Words with a space between each two.
use Rattle.std.proofs.Common.{◌≡◌, ℕ, zero, suc, ◌<◌, List, [], ◌∷◌, ◌++◌, length, get_or, cond, eqb, false, not, filter, refl, sym, ap, ◌∙◌, arith, append-nil}
use Rattle.std.specs.List.{slice_split}
use Rattle.std.proofs.lemmas.Bool.{ltb-true, ne_eqb}
use Rattle.std.proofs.lemmas.List.Splits.{slice_split_at, slice_split_none}
use Rattle.pc_rank.proofs.Neat as neat
use Rattle.pc_rank.proofs.Neat.{IsBlack, Neat}
use Rattle.pc_script.specs.Grammar.{spaced}
use Rattle.pc_script.specs.Text.{words}

-- P holds of each element
abbrev pub Each : {X : Type 0} → (X → Type 0) → List X → Type 0
Each P [] = Unit {0}
Each P (x ∷ xs) = P x × Each P xs

each_at : {X : Type 0} (P : X → Type 0) (xs : List X) → Each P xs → (k : ℕ) (d : X) → k < length xs → P (get_or xs k d)
each_at P [] each k d h = absurd (omega (arith, h))
each_at P (x ∷ xs) each zero d h = each.0
each_at P (x ∷ xs) each (suc k) d h = each_at P xs each.1 k d (omega (arith, h))

-- a byte is no space
abbrev pub IsNoSpace : ℕ → Type 0
IsNoSpace b = eqb b 32 ≡ false

-- a word is not empty, and has no space
abbrev pub IsWord : List ℕ → Type 0
IsWord word = (0 < length word) × Each IsNoSpace word

-- ---- words with a space between each two

kept : (word : List ℕ) (parts : List (List ℕ)) → 0 < length word
    → filter (λ w. not (eqb (length w) 0)) (word ∷ parts) ≡ word ∷ filter (λ w. not (eqb (length w) 0)) parts
kept word parts some =
    ap (λ none. cond (not none) (word ∷ filter (λ w. not (eqb (length w) 0)) parts) (filter (λ w. not (eqb (length w) 0)) parts))
    (ne_eqb (length word) 0 (λ none. omega (arith, some, none)))

pub words_spaced : (all : List (List ℕ)) → Each IsWord all → words (spaced all) ≡ all
unfolding words
words_spaced [] are = refl
words_spaced (word ∷ []) are =
    ap (filter (λ w. not (eqb (length w) 0))) (slice_split_none (λ b. eqb b 32) word (each_at IsNoSpace word are.0.1)) ∙ kept word [] are.0.0
words_spaced (word ∷ next ∷ more) are =
    ap (filter (λ w. not (eqb (length w) 0))) (slice_split_at (λ b. eqb b 32) word 32 (spaced (next ∷ more)) (each_at IsNoSpace word are.0.1) refl)
    ∙ kept word (slice_split (λ b. eqb b 32) (spaced (next ∷ more))) are.0.0
    ∙ ap (λ rest. word ∷ rest) (words_spaced (next ∷ more) are.1)

-- ---- texts of one space between each two words

-- A text is words with a space between each two, one at least
pub record HasWords (text : List ℕ) : Type 0 where
  pub first : List ℕ
  pub more : List (List ℕ)
  pub each : Each IsWord (first ∷ more)
  pub is : text ≡ spaced (first ∷ more)

pub no_space : (b : ℕ) → IsBlack b → IsNoSpace b
no_space b black = ne_eqb b 32 (λ space. omega (arith, ltb-true 32 b black, space))

abbrev longer : (b : ℕ) (text : List ℕ) → IsBlack b → HasWords text → HasWords (b ∷ text)
longer b text h has = record {
  first = b ∷ has.first;
  more = has.more;
  each = ((omega arith, (no_space b h, has.each.0.1)), has.each.1);
  is = ap (λ t. b ∷ t) has.is ∙ in_front has.first has.more;
}
  where
    in_front : (first : List ℕ) (more : List (List ℕ)) → b ∷ spaced (first ∷ more) ≡ spaced ((b ∷ first) ∷ more)
    in_front first [] = refl
    in_front first (next ∷ more) = refl

abbrev pub has_words : (text : List ℕ) → Neat text → HasWords text
has_words _ (neat.byte b h) = record { first = b ∷ []; more = []; each = ((omega arith, (no_space b h, tt)), tt); is = refl }
has_words _ (neat.next b {text} h n) = longer b text h (has_words text n)
has_words _ (neat.gap b {text} h n) =
    let has = has_words text n in
    record {
      first = b ∷ [];
      more = has.first ∷ has.more;
      each = ((omega arith, (no_space b h, tt)), has.each);
      is = ap (λ t. b ∷ 32 ∷ t) has.is;
    }

pub neat_words : (text : List ℕ) (n : Neat text) → words text ≡ (has_words text n).first ∷ (has_words text n).more
neat_words text n = let has = has_words text n in ap words has.is ∙ words_spaced (has.first ∷ has.more) has.each

-- so its words with a space between each two are the text
pub neat_text : (text : List ℕ) → Neat text → spaced (words text) ≡ text
neat_text text n = ap spaced (neat_words text n) ∙ sym (has_words text n).is

-- and behind another word they follow it and a space
pub neat_behind : (name text : List ℕ) → Neat text → spaced (name ∷ (words text ++ [])) ≡ name ++ 32 ∷ text
neat_behind name text n =
    let has = has_words text n in
    ap (λ rest. spaced (name ∷ rest)) (append-nil (words text) ∙ neat_words text n) ∙ ap (λ t. name ++ 32 ∷ t) (sym has.is)
