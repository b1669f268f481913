-- What is held under one name, as values are joined.
use Rattle.std.specs.Prelude.{ℕ, ◌≡◌, Option, Some, IfSome, Result, IsOk, OnOk}
use Rattle.pc_join.specs.Sets.{Members, Source, IsBetween, IsUnion, IsVoid, IsWithin}
use Rattle.pc_join.specs.ByName.{known_in}

-- of what is held under one name: it was old, some of other was joined to it, and it is new
pub record IsJoinedAt {V : Type 0} (known : V → Members) (is_of : V → Source → Type 0)
    (old other new : Option V) : Type 0 where
  pub between : IsBetween (known_in known old) (known_in known other) (known_in known new)
  pub of_source : (s : Source) → IfSome old (λ v. is_of v s) → IfSome other (λ v. is_of v s)
      → IfSome new (λ v. is_of v s)
  pub not_void : IfSome old (λ v. ¬ IsVoid (known v)) → IfSome other (λ v. ¬ IsVoid (known v))
      → IfSome new (λ v. ¬ IsVoid (known v))

-- some of the value was joined to what is held under the name, and what is held under other names is as it was
pub record IsPut {V : Type 0} (known : V → Members) (is_of : V → Source → Type 0)
    (old : ℕ → Option V) (name : ℕ) (value : V) (new : ℕ → Option V) : Type 0 where
  pub others : (other : ℕ) → ¬ (other ≡ name) → new other ≡ old other
  pub here : IsJoinedAt known is_of (old name) (Some value) (new name)

-- all of the other was joined to what was held under one name
abbrev pub IsWholeAt : {V : Type 0} → (V → Members) → Option V → Option V → Option V → Type 0
IsWholeAt known old other new = IsUnion (known_in known old) (known_in known other) (known_in known new)

-- a value that is not empty was joined to what is held under the name, all of it where the call succeeds; where all of
-- it was known there, the same is held and the call succeeds
pub record IsPieceJoined {V A E : Type 0} (known : V → Members) (is_of : V → Source → Type 0)
    (old : ℕ → Option V) (name : ℕ) (value : V) (new : ℕ → Option V) (result : Result A E) : Type 0 where
  pub put : IsPut known is_of old name value new
  pub whole : OnOk result (IsWholeAt known (old name) (Some value) (new name))
  pub kept : IsWithin (known value) (known_in known (old name)) → new name ≡ old name
  pub succeeds : IsWithin (known value) (known_in known (old name)) → IsOk result
  pub not_empty : ¬ IsVoid (known value)

-- no value is empty, as what is held under each name
abbrev pub HasNoVoid : {V : Type 0} → (V → Members) → (ℕ → Option V) → Type 0
HasNoVoid {V} known values = (name : ℕ) (value : V) → values name ≡ Some value → ¬ IsVoid (known value)

-- what is held under each name knows all that the other holds there
abbrev pub IsCovered : {V : Type 0} → (V → Members) → (ℕ → Option V) → (ℕ → Option V) → Type 0
IsCovered known other values = (name : ℕ) → IsWithin (known_in known (other name)) (known_in known (values name))
