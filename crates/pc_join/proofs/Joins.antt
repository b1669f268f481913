-- Or, in another order and grouping, and the sets of lists of pairs.
use Rattle.std.proofs.Common.{ℕ, ◌≡◌, ◌==◌, ◌||◌, ◌&&◌, Bool, true, false, List, [], ◌∷◌, ◌++◌, refl}
use Rattle.std.proofs.lemmas.List.Folds.{list_any-append}
use Rattle.pc_join.specs.Sets.{as_members}

pub or_comm : (a b : Bool) → (a || b) ≡ (b || a)
or_comm true true = refl
or_comm true false = refl
or_comm false true = refl
or_comm false false = refl

pub or_assoc : (a b c : Bool) → ((a || b) || c) ≡ (a || (b || c))
or_assoc true b c = refl
or_assoc false b c = refl

-- the set of two lists of pairs together, and that of none
pub as_members-append : (xs ys : List (ℕ × ℕ)) (m : List ℕ) → as_members (xs ++ ys) m ≡ (as_members xs m || as_members ys m)
as_members-append xs ys [] = refl
as_members-append xs ys (t ∷ []) = refl
as_members-append xs ys (t ∷ n ∷ []) = list_any-append (λ (p : ℕ × ℕ). (p.0 == t) && (p.1 == n)) xs ys
as_members-append xs ys (t ∷ n ∷ k ∷ m) = refl

pub as_members-none : (m : List ℕ) → as_members [] m ≡ false
as_members-none [] = refl
as_members-none (t ∷ []) = refl
as_members-none (t ∷ n ∷ []) = refl
as_members-none (t ∷ n ∷ k ∷ m) = refl
