-- Words that are put one behind another, with a space between each two.
use Rattle.std.proofs.Common.{◌≡◌, ℕ, ◌≤◌, ◌+◌, List, [], ◌∷◌, ◌++◌, length, refl, sym, ap, ◌∙◌, arith, append_assoc, append-nil}
use Rattle.std.proofs.lemmas.List.{length-append}
use Rattle.pc_script.specs.Grammar.{spaced}

-- a space stands between two parts
parts : (first : List ℕ) (done : List (List ℕ)) (word : List ℕ) (left : List (List ℕ))
    → spaced (first ∷ (done ++ word ∷ left)) ≡ spaced (first ∷ done) ++ 32 ∷ spaced (word ∷ left)
parts first [] word left = refl
parts first (next ∷ done) word left =
    ap (λ rest. first ++ 32 ∷ rest) (parts next done word left) ∙ sym (append_assoc first (32 ∷ spaced (next ∷ done)) (32 ∷ spaced (word ∷ left)))

-- Of all words those in front of what is left are in the text, one at least
pub record SoFar (all left : List (List ℕ)) (text : List ℕ) : Type 0 where
  pub first : List ℕ
  pub done : List (List ℕ)
  pub cut : all ≡ first ∷ (done ++ left)
  pub is : text ≡ spaced (first ∷ done)

-- the first word
pub first_put : (all left : List (List ℕ)) (word text new : List ℕ) → all ≡ word ∷ left → text ≡ [] → new ≡ text ++ word → SoFar all left new
first_put all left word text new cut none put = record { first = word; done = []; cut = cut; is = put ∙ ap (λ t. t ++ word) none }

-- a word behind another
pub next_put : (all before left : List (List ℕ)) (word text gapped new : List ℕ) → before ≡ word ∷ left → SoFar all before text → gapped ≡ text ++ 32 ∷ []
    → new ≡ gapped ++ word → SoFar all left new
next_put all before left word text gapped new next so_far gap put = record {
  first = so_far.first;
  done = so_far.done ++ word ∷ [];
  cut = so_far.cut ∙ ap (λ rest. so_far.first ∷ (so_far.done ++ rest)) next ∙ ap (λ rest. so_far.first ∷ rest) (sym (append_assoc so_far.done (word ∷ []) left));
  is = put ∙ ap (λ t. t ++ word) (gap ∙ ap (λ t. t ++ 32 ∷ []) so_far.is) ∙ append_assoc (spaced (so_far.first ∷ so_far.done)) (32 ∷ []) word
      ∙ sym (parts so_far.first so_far.done word []);
}

-- at the end all are there
pub all_put : (all left : List (List ℕ)) (text : List ℕ) → left ≡ [] → SoFar all left text → text ≡ spaced all
all_put all left text over so_far =
    so_far.is ∙ ap (λ rest. spaced (so_far.first ∷ rest)) (sym (append-nil so_far.done) ∙ ap (λ rest. so_far.done ++ rest) (sym over)) ∙ sym (ap spaced so_far.cut)

-- what is left makes it longer
word_within : (word : List ℕ) (left : List (List ℕ)) → length word ≤ length (spaced (word ∷ left))
word_within word [] = omega arith
word_within word (next ∷ left) = omega (arith, length-append word (32 ∷ spaced (next ∷ left)))

pub longer_first : (all left : List (List ℕ)) (word : List ℕ) → all ≡ word ∷ left → length word ≤ length (spaced all)
longer_first all left word cut = omega (arith, ap (λ a. length (spaced a)) cut, word_within word left)

pub longer_next : (all before left : List (List ℕ)) (word text : List ℕ) → before ≡ word ∷ left → SoFar all before text
    → length text + 1 + length word ≤ length (spaced all)
longer_next all before left word text next so_far =
    let first = so_far.first in
    let done = so_far.done in
    let whole : spaced all ≡ spaced (first ∷ done) ++ 32 ∷ spaced (word ∷ left) =
    ap spaced (so_far.cut ∙ ap (λ rest. first ∷ (done ++ rest)) next) ∙ parts first done word left in
    omega (arith, ap length so_far.is, ap length whole, length-append (spaced (first ∷ done)) (32 ∷ spaced (word ∷ left)), word_within word left)
