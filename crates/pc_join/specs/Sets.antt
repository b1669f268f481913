-- Sets of members and sources: the words in which every join is stated.
use Rattle.std.specs.Prelude.{ℕ, ◌≡◌, ◌==◌, ◌||◌, ◌&&◌, Bool, true, false, List, [], ◌∷◌, Option, None}
use Rattle.std.specs.List.{list_any}
use Rattle.pc_messages.specs.declared.kind.Kind.{Kind}

-- A set, as a test. A member is a path of numbers, as a thread's name and the number of one of its messages.
abbrev pub Members : Type 0
Members = List ℕ → Bool

-- The kind of message that stands at each member; none where nothing does.
abbrev pub Source : Type 0
Source = List ℕ → Option Kind

-- each member of s is one of t
abbrev pub IsWithin : Members → Members → Type 0
IsWithin s t = (m : List ℕ) → s m ≡ true → t m ≡ true

-- s and t have the same members
abbrev pub IsSameSet : Members → Members → Type 0
IsSameSet s t = (m : List ℕ) → s m ≡ t m

-- s has no member
abbrev pub IsVoid : Members → Type 0
IsVoid s = (m : List ℕ) → s m ≡ false

-- u is the union of s and t
abbrev pub IsUnion : Members → Members → Members → Type 0
IsUnion s t u = (m : List ℕ) → u m ≡ (s m || t m)

-- u has each member of s, and no member beside those of s and t
pub record IsBetween (s t u : Members) : Type 0 where
  pub at_least : IsWithin s u
  pub at_most : IsWithin u (λ m. s m || t m)

-- t gives what s gives, at each member of the set at which s gives anything
abbrev pub AgreesOn : Members → Source → Source → Type 0
AgreesOn set s t = (m : List ℕ) → set m ≡ true → ¬ (s m ≡ None) → t m ≡ s m

-- x is a join of a and b: all are of the source, and x has the union of their sets
pub record IsJoin {A : Type 0} (known : A → Members) (is_of : A → Source → Type 0) (s : Source)
    (a b x : A) : Type 0 where
  pub first : is_of a s
  pub second : is_of b s
  pub join : is_of x s
  pub union : IsUnion (known a) (known b) (known x)

-- the members that are one number, which passes the test
abbrev pub numbers_where : (ℕ → Bool) → Members
numbers_where test [] = false
numbers_where test (n ∷ []) = test n
numbers_where test (n ∷ k ∷ m) = false

-- the set, under a name
abbrev pub members_at : ℕ → Members → Members
members_at name set [] = false
members_at name set (t ∷ m) = (t == name) && set m

-- what the source gives under a name
abbrev pub source_at : Source → ℕ → Source
source_at s name m = s (name ∷ m)

-- the list has the pair of a thread's name and a number
abbrev pub has : List (ℕ × ℕ) → ℕ → ℕ → Bool
has pairs t n = list_any (λ p. (p.0 == t) && (p.1 == n)) pairs

-- the pairs of a list, as a set
abbrev pub as_members : List (ℕ × ℕ) → Members
as_members pairs [] = false
as_members pairs (t ∷ []) = false
as_members pairs (t ∷ n ∷ []) = has pairs t n
as_members pairs (t ∷ n ∷ k ∷ m) = false
