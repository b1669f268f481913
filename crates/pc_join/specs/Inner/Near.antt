-- Values found by an index: for each name a place, counted from 1, at which its entry stands.
use Rattle.std.specs.Prelude.{ℕ, suc, zero, ◌<◌, ◌≤◌, ◌≡◌, List, [], ◌∷◌, ◌++◌, length, take, drop, slice_index_or}
use Rattle.std.specs.Prelude.{Option, Some, None}
use Rattle.pc_join.specs.ByName.{AscendFrom}
use Rattle.pc_join.specs.Inner.Leaves.{AreBefore}
use Rattle.pc_join.specs.declared.near.TheConstants.{NEAR}

-- the entry at a place, as a list; none is at place 0
abbrev pub entry_at : {V : Type 0} → List (ℕ × V) → ℕ → List (ℕ × V)
entry_at entries zero = []
entry_at entries (suc place) = take 1 (drop place entries)

-- the entries at these places, one behind another
abbrev pub entries_at : {V : Type 0} → List ℕ → List (ℕ × V) → List (ℕ × V)
entries_at [] entries = []
entries_at (place ∷ places) entries = entry_at entries place ++ entries_at places entries

-- each place is that of an entry, or none
abbrev pub AreWithin : {V : Type 0} → List ℕ → List (ℕ × V) → Type 0
AreWithin [] entries = Unit {0}
AreWithin (place ∷ places) entries = (place ≤ length entries) × AreWithin places entries

-- the value of the first entry
abbrev pub first_value : {V : Type 0} → List (ℕ × V) → Option V
first_value [] = None
first_value (entry ∷ entries) = Some entry.1

-- the place of a name; 0 where it has none
abbrev pub place_in : List ℕ → ℕ → ℕ
place_in places name = slice_index_or places name 0

-- what stands under a name, by its place
abbrev pub found_by : {V : Type 0} → List ℕ → List (ℕ × V) → ℕ → Option V
found_by places entries name = first_value (entry_at entries (place_in places name))

-- an entry of this name stands at the place, where it is one
abbrev pub IsPlaceOf : {V : Type 0} → ℕ → ℕ → List (ℕ × V) → Type 0
IsPlaceOf {V} name zero entries = Unit {0}
IsPlaceOf {V} name (suc place) entries =
    (place < length entries) × ((d : ℕ × V) → (slice_index_or entries place d).0 ≡ name)

-- each name has a place with an entry of its own, or none, and names are near
pub record IsIndex {V : Type 0} (places : List ℕ) (entries : List (ℕ × V)) : Type 0 where
  pub each : (name : ℕ) → IsPlaceOf name (place_in places name) entries
  pub near : length places ≤ NEAR

-- entries of near names, by ascending names
pub record AreNear {V : Type 0} (entries : List (ℕ × V)) : Type 0 where
  pub ascend : AscendFrom 0 entries
  pub near : AreBefore NEAR entries

-- this is the least name from one on that has a place; none has, where there is none
abbrev pub FindsPlace : List ℕ → ℕ → Option ℕ → Type 0
FindsPlace places from None = (name : ℕ) → from ≤ name → place_in places name ≡ 0
FindsPlace places from (Some found) =
    (from ≤ found) × (found < length places) × (place_in places found ≡ 0 → ⊥)
    × ((name : ℕ) → from ≤ name → name < found → place_in places name ≡ 0)
