-- Two ascending lists taken as one.
use Rattle.std.specs.Prelude.{ℕ, ◌≤◌, ◌≡◌, ◌⊎◌, List, [], ◌∷◌}

module _ {X : Type 0} where
  -- the entry's number is not above the first of the list
  abbrev pub IsNotAfter : ℕ × X → List (ℕ × X) → Type 0
  IsNotAfter entry [] = Unit {0}
  IsNotAfter entry (e ∷ es) = entry.0 ≤ e.0

  -- the entry is the first of one list, and not after the first of the other; the rest is left
  abbrev pub IsTurn : List (ℕ × X) → List (ℕ × X) → ℕ × X → List (ℕ × X) → List (ℕ × X) → Type 0
  IsTurn first other entry first_left other_left =
      ((first ≡ entry ∷ first_left) × (other_left ≡ other) × IsNotAfter entry other)
      ⊎ ((other ≡ entry ∷ other_left) × (first_left ≡ first) × IsNotAfter entry first)
