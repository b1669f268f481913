-- Entries in leaves: each has those of 64 names, by ascending names.
use Rattle.std.specs.Prelude.{ℕ, ◌/◌, ◌<◌, ◌≤◌, ◌≡◌, ◌==◌, Bool, false, cond, List, [], ◌∷◌, ◌++◌, length, take, drop}
use Rattle.std.specs.Prelude.{Option, Some, None}
use Rattle.std.specs.Global.{Vec}
use Rattle.std.specs.BTreeMap.{BTreeMap, IsOrdered, get}
use Rattle.std.specs.Ordering.{nat_cmp, is_eq}
use Rattle.pc_join.specs.ByName.{AscendFrom, value_at}

-- each name is one of the leaf's
abbrev pub AreOf : {V : Type 0} → ℕ → List (ℕ × V) → Type 0
AreOf number [] = Unit {0}
AreOf number (entry ∷ entries) = (entry.0 / 64 ≡ number) × AreOf number entries

-- a leaf has entries of its own names, by ascending names, and one at least
pub record IsLeaf {V : Type 0} (number : ℕ) (entries : List (ℕ × V)) : Type 0 where
  pub ascend : AscendFrom 0 entries
  pub own : AreOf number entries
  pub some : 0 < length entries

-- all entries of leaves, those of one leaf behind those of another
abbrev pub entries_of : {V : Type 0} → List (ℕ × Vec (ℕ × V)) → List (ℕ × V)
entries_of [] = []
entries_of (leaf ∷ leaves) = leaf.1.items ++ entries_of leaves

-- the leaves stand by ascending numbers, each with its own entries
pub record AreLeaves {V : Type 0} (leaves : BTreeMap ℕ (Vec (ℕ × V))) : Type 0 where
  pub ordered : IsOrdered nat_cmp leaves
  pub each : (number : ℕ) (leaf : Vec (ℕ × V)) → get nat_cmp leaves number ≡ Some leaf → IsLeaf number leaf.items

-- what a leaf has under a name, where there is one
abbrev pub found_in : {V : Type 0} → Option (Vec (ℕ × V)) → ℕ → Option V
found_in None name = None
found_in (Some leaf) name = value_at leaf.items name

-- what leaves have under a name
abbrev pub held_in : {V : Type 0} → BTreeMap ℕ (Vec (ℕ × V)) → ℕ → Option V
held_in leaves name = found_in (get nat_cmp leaves (name / 64)) name

-- each name is below the bound
abbrev pub AreBefore : {V : Type 0} → ℕ → List (ℕ × V) → Type 0
AreBefore bound [] = Unit {0}
AreBefore bound (entry ∷ entries) = (entry.0 < bound) × AreBefore bound entries

-- so many entries have lesser names, and no other has
pub record IsPlaceIn {V : Type 0} (entries : List (ℕ × V)) (name place : ℕ) : Type 0 where
  pub fits : place ≤ length entries
  pub before : AreBefore name (take place entries)
  pub after : AscendFrom name (drop place entries)

-- whether the first entry has the name
abbrev pub begins_with : {V : Type 0} → List (ℕ × V) → ℕ → Bool
begins_with [] name = false
begins_with (entry ∷ entries) name = entry.0 == name

-- the value is under the name, and what is under other names is as it was
abbrev pub IsSetAt : {V : Type 0} → (ℕ → Option V) → ℕ → V → (ℕ → Option V) → Type 0
IsSetAt old name value new = (other : ℕ) → new other ≡ cond (is_eq (nat_cmp name other)) (Some value) (old other)
