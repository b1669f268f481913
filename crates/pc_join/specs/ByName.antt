-- Values by name.
use Rattle.std.specs.Prelude.{ℕ, ◌+◌, ◌≡◌, ◌==◌, ◌&&◌, ◌<◌, ◌≤◌, ◌^◌, Bool, false, List, [], ◌∷◌, Option, Some, IsSome}
use Rattle.std.proofs.Common.{Bor}
use Rattle.std.specs.Option.{option_map_or}
use Rattle.std.specs.Ordering.{nat_cmp}
use Rattle.std.specs.Cmp.Lexicographic.{pointwise}
use Rattle.std.specs.FinMap as map
use Rattle.pc_join.specs.Sets.{Members, Source, IsVoid, source_at}

module _ {V : Type 0} (known : V → Members) where
  -- the members of a value, where there is one
  abbrev pub known_in : Option V → Members
  known_in value m = option_map_or (λ v. known v m) value false

  -- the members of each value, under its name
  abbrev pub members_by_name : map.FinMap nat_cmp V → Members
  members_by_name values [] = false
  members_by_name values (name ∷ m) = known_in (map.get values name) m

  -- no value is empty
  abbrev pub HoldsNoEmpty : map.FinMap nat_cmp V → Type 0
  HoldsNoEmpty values = (name : ℕ) (value : V) → map.get values name ≡ Some value → ¬ IsVoid (known value)

-- each name fits 32 bits
abbrev pub HasShortNames : {V : Type 0} → map.FinMap nat_cmp V → Type 0
HasShortNames values = (name : ℕ) → IsSome (map.get values name) → name < 2 ^ 32

-- no value is empty, and each is of what the source gives under its name
pub record IsOfByName {V : Type 0} (known : V → Members) (is_of : V → Source → Type 0)
    (values : map.FinMap nat_cmp V) (s : Source) : Type 0 where
  pub kept : HoldsNoEmpty known values
  pub each : (name : ℕ) (value : V) → map.get values name ≡ Some value → is_of value (source_at s name)

-- the least name at which there is a value, from one on
pub record IsLeastFrom {V : Type 0} (values : ℕ → Option V) (from name : ℕ) : Type 0 where
  pub held : IsSome (values name)
  pub reached : from ≤ name
  pub least : (other : ℕ) → IsSome (values other) → from ≤ other → name ≤ other

-- the least name that is held, from one on; it fits 32 bits
pub record IsNextName {V : Type 0} (values : map.FinMap nat_cmp V) (from name : ℕ) : Type 0 where
  pub least : IsLeastFrom (map.get values) from name
  pub short : name < 2 ^ 32

-- the names of entries ascend, from one on
abbrev pub AscendFrom : {V : Type 0} → ℕ → List (ℕ × V) → Type 0
AscendFrom n [] = Unit {0}
AscendFrom n (entry ∷ entries) = (n ≤ entry.0) × AscendFrom (entry.0 + 1) entries

-- what entries have under a name
abbrev pub value_at : {V : Type 0} → List (ℕ × V) → ℕ → Option V
value_at entries name = map.find nat_cmp name entries

-- the same names, with the same values
abbrev pub is_same_by_name : {V : Type 0} → (V → V → Bool) → map.FinMap nat_cmp V → map.FinMap nat_cmp V → Bool
is_same_by_name same a b = pointwise (λ p q. (p.0 == q.0) && same p.1 q.1) (map.entries a) (map.entries b)

-- a name with the value that a reference points to
abbrev pub named : {V : Type 0} → ℕ × Bor V → ℕ × V
named entry = (entry.0, entry.1.now)
