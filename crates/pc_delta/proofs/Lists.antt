-- Each element of a list, by its first and the rest.
use Rattle.std.proofs.Common.{ℕ, zero, suc, ◌+◌, ◌<◌, ◌≤◌, ◌≡◌, subst, List, [], ◌∷◌, ◌++◌, length, take, drop, get_or, refl, sym, ap, ◌∙◌, add-one, arith}
use Rattle.std.proofs.Math.Seq.{drop-cons}
use Rattle.std.proofs.lemmas.List.{take_more}
use Rattle.std.specs.List.{All, Contains}

module _ {X : Type 0} (P : X → Type 0) where
  pub all_first : (x : X) (xs : List X) → All P (x ∷ xs) → P x
  all_first x xs h = h 0 x (omega arith)

  pub all_rest : (x : X) (xs : List X) → All P (x ∷ xs) → All P xs
  all_rest x xs h k d lt = h (suc k) d (omega arith)

  pub all_cons : (x : X) (xs : List X) → P x → All P xs → All P (x ∷ xs)
  all_cons x xs here rest zero d lt = here
  all_cons x xs here rest (suc k) d lt = rest k d (omega arith)

  pub all_none : All P []
  all_none k d lt = absurd (omega arith)

  pub all_left : (xs ys : List X) → All P (xs ++ ys) → All P xs
  all_left [] ys h = all_none
  all_left (x ∷ xs) ys h = all_cons x xs (all_first x (xs ++ ys) h) (all_left xs ys (all_rest x (xs ++ ys) h))

  pub all_right : (xs ys : List X) → All P (xs ++ ys) → All P ys
  all_right [] ys h = h
  all_right (x ∷ xs) ys h = all_right xs ys (all_rest x (xs ++ ys) h)

  pub all_at : (xs : List X) (x : X) → All P xs → Contains xs x → P x
  all_at xs x h there = subst_at (there.2) (h there.0 x there.1)
    where
      subst_at : {y : X} → y ≡ x → P y → P x
      subst_at e p = subst P e p

-- what is left of a list after its first i elements
pub left_at : {X : Type 0} (xs : List X) (i : ℕ) (d : X) → i < length xs → drop i xs ≡ get_or xs i d ∷ drop (i + 1) xs
left_at xs i d lt = drop-cons xs i d lt ∙ ap (λ n. get_or xs i d ∷ drop n xs) (sym (add-one i))

pub none_left : {X : Type 0} (xs : List X) (i : ℕ) → length xs ≤ i → drop i xs ≡ []
none_left [] zero h = refl
none_left [] (suc i) h = refl
none_left (x ∷ xs) zero h = absurd (omega arith)
none_left (x ∷ xs) (suc i) h = none_left xs i (omega arith)

pub left_item : {X : Type 0} (xs : List X) (i : ℕ) (x : X) → x ≡ get_or xs i x → i < length xs → drop i xs ≡ x ∷ drop (i + 1) xs
left_item xs i x e lt = left_at xs i x lt ∙ ap (λ y. y ∷ drop (i + 1) xs) (sym e)

pub taken_item : {X : Type 0} (xs : List X) (i : ℕ) (x : X) → x ≡ get_or xs i x → i < length xs → take (i + 1) xs ≡ take i xs ++ x ∷ []
taken_item xs i x e lt = take_more xs i x lt ∙ ap (λ y. take i xs ++ y ∷ []) (sym e)

pub all_taken : {X : Type 0} (xs : List X) (i : ℕ) → length xs ≤ i → take i xs ≡ xs
all_taken [] zero h = refl
all_taken [] (suc i) h = refl
all_taken (x ∷ xs) zero h = absurd (omega arith)
all_taken (x ∷ xs) (suc i) h = ap (λ ys. x ∷ ys) (all_taken xs i (omega arith))
