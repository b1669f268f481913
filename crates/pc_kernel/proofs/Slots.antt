-- A list with another element at one place, or one more at its end.
use Rattle.std.proofs.Common.{◌≡◌, ◌∙◌, ℕ, ◌+◌, ◌<◌, ◌==◌, suc, zero, true, false, cond, List, [], ◌∷◌, ◌++◌, length, Option, Some, None, set, refl, arith, map, sym, slice_get, ⊎_elim}
use Rattle.std.specs.Option.{option_map}
use Rattle.std.proofs.lemmas.Option.{slice_get-map, same_Some}
use Rattle.std.proofs.lemmas.Bool.Decides.{nat_tests}
use Rattle.std.proofs.lemmas.Bool.{cases_eq}

pub slice_get_push : {X : Type 0} (xs : List X) (x : X) (i : ℕ) → slice_get (xs ++ x ∷ []) i ≡ cond (i == length xs) (Some x) (slice_get xs i)
slice_get_push [] x zero = refl
slice_get_push [] x (suc i) = grind (arith, nat_tests)
slice_get_push (y ∷ ys) x zero = grind (arith, nat_tests)
slice_get_push (y ∷ ys) x (suc i) = grind (arith, nat_tests, slice_get_push ys x i)

pub slice_get_set : {X : Type 0} (xs : List X) (i : ℕ) (x y : X) (j : ℕ) → slice_get xs i ≡ Some y → slice_get (set xs i x) j ≡ cond (j == i) (Some x) (slice_get xs j)
slice_get_set [] i x y j e = cc
slice_get_set (z ∷ zs) zero x y zero e = refl
slice_get_set (z ∷ zs) zero x y (suc j) e = grind (arith, nat_tests)
slice_get_set (z ∷ zs) (suc i) x y zero e = grind (arith, nat_tests)
slice_get_set (z ∷ zs) (suc i) x y (suc j) e = grind (arith, nat_tests, slice_get_set zs i x y j e)

-- one more element, as f has it at its place
pub each_push : {X : Type 0} (xs : List X) (f : ℕ → X) (n : ℕ) → length xs ≡ n → ((i : ℕ) → i < n → slice_get xs i ≡ Some (f i))
    → (i : ℕ) → i < n + 1 → slice_get (xs ++ f n ∷ []) i ≡ Some (f i)
each_push xs f n e h i l =
    slice_get_push xs (f n) i ∙ ⊎_elim
    (λ same. let t : (i == length xs) ≡ true = grind (arith, nat_tests) in let k : n ≡ i = omega arith in rw (t, k) refl)
    (λ ne. let t : (i == length xs) ≡ false = grind (arith, nat_tests) in rw t (h i (omega arith)))
    (cases_eq i n)

-- an element of a mapped list comes from one of the list
option_map_some : {A B : Type 0} (f : A → B) (o : Option A) (y : B) → option_map f o ≡ Some y → (x : A) × (o ≡ Some x) × (f x ≡ y)
option_map_some f None y e = cc
option_map_some f (Some x) y e = (x, refl, same_Some (f x) y e)

pub slice_get_map_some : {A B : Type 0} (f : A → B) (xs : List A) (i : ℕ) (y : B) → slice_get (map f xs) i ≡ Some y → (x : A) × (slice_get xs i ≡ Some x) × (f x ≡ y)
slice_get_map_some f xs i y e = option_map_some f (slice_get xs i) y (sym (slice_get-map f xs i) ∙ e)

pub slice_get_set_same : {X : Type 0} (xs : List X) (i : ℕ) (x y : X) → slice_get xs i ≡ Some y → slice_get (set xs i x) i ≡ Some x
slice_get_set_same xs i x y e = let t : (i == i) ≡ true = grind (arith, nat_tests) in slice_get_set xs i x y i e ∙ rw t refl

pub slice_get_set_other : {X : Type 0} (xs : List X) (i : ℕ) (x y : X) (j : ℕ) → slice_get xs i ≡ Some y → (j == i) ≡ false → slice_get (set xs i x) j ≡ slice_get xs j
slice_get_set_other xs i x y j e t = slice_get_set xs i x y j e ∙ rw t refl
