-- Which part was seen first at each place, and the least conflict so far.
use Rattle.std.specs.Prelude.{ℕ, ◌<◌, ◌≤◌, ◌≡◌, ◌⊎◌, Bool, List, Option, Some, None, MatchOption}
use Rattle.std.specs.declared.cmp.Ordering.{Ordering}
use Rattle.std.specs.Ordering.{nat_cmp, bool_cmp, ordering_then}
use Rattle.pc_delta.specs.declared.part.Part.{Part}
use Rattle.pc_delta.specs.Faults.{IsLeastConflict, HasNoConflict}

-- a thread, a number, and whether a part about them is a folded one
abbrev pub Place : Type 0
Place = ℕ × ℕ × Bool

-- places by thread, then by number
abbrev pub place_cmp : Place → Place → Ordering
place_cmp x y = ordering_then (ordering_then (nat_cmp x.0 y.0) (nat_cmp x.1 y.1)) (bool_cmp x.2 y.2)

-- what stands at the place is the first value there: this one, where none stood there
pub record IsFirstSeen {X : Type 0} (old : Place → Option X) (here : Place) (value first : X)
    (new : Place → Option X) : Type 0 where
  pub there : new here ≡ Some first
  pub elsewhere : (q : Place) → ¬ (q ≡ here) → new q ≡ old q
  pub before : (old here ≡ Some first) ⊎ ((old here ≡ None) × (first ≡ value))

-- the least thread and number about which the parts contradict each other, where they do
abbrev pub IsLeast : Option (ℕ × ℕ) → List Part → Type 0
IsLeast least parts = MatchOption least (HasNoConflict parts) (λ c. IsLeastConflict parts c.0 c.1)

-- of two places the first is before the second, or they are the same
abbrev pub IsNotAfter : ℕ × ℕ → ℕ × ℕ → Type 0
IsNotAfter one other = (one.0 < other.0) ⊎ ((one.0 ≡ other.0) × (one.1 ≤ other.1))

-- the lesser of a place, where there is one, and another
abbrev pub IsLesserOf : Option (ℕ × ℕ) → ℕ → ℕ → ℕ × ℕ → Type 0
IsLesserOf None thread number lesser = lesser ≡ (thread, number)
IsLesserOf (Some least) thread number lesser =
    ((lesser ≡ least) × IsNotAfter least (thread, number))
    ⊎ ((lesser ≡ (thread, number)) × IsNotAfter (thread, number) least)
