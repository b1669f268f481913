-- How ranges grow, and how far a walk over them has come.
use Rattle.std.specs.Prelude.{ℕ, ◌≤◌, ◌≡◌, ◌||◌, Bool, true, List, [], ◌∷◌}
use Rattle.pc_join.specs.Ranges.{in_range, in_ranges, AreApart}

-- h is the union of f and g, as tests of numbers
abbrev pub IsEither : (ℕ → Bool) → (ℕ → Bool) → (ℕ → Bool) → Type 0
IsEither f g h = (n : ℕ) → h n ≡ (f n || g n)

-- h has all that f has, and nothing beside what f and g have, as tests of numbers
pub record IsAmid (f g h : ℕ → Bool) : Type 0 where
  pub at_least : (n : ℕ) → f n ≡ true → h n ≡ true
  pub at_most : (n : ℕ) → h n ≡ true → (f n || g n) ≡ true

-- no range starts after n
abbrev pub StartBy : List (ℕ × ℕ) → ℕ → Type 0
StartBy [] n = Unit {0}
StartBy (range ∷ ranges) n = (range.0 ≤ n) × StartBy ranges n

-- no range starts after the first of those that are to come
abbrev pub StartBefore : List (ℕ × ℕ) → List (ℕ × ℕ) → Type 0
StartBefore ranges [] = Unit {0}
StartBefore ranges (range ∷ more) = StartBy ranges range.0

-- the ranges after one more was joined to their end
pub record IsStretched (old : List (ℕ × ℕ)) (range : ℕ × ℕ) (new : List (ℕ × ℕ)) : Type 0 where
  pub apart : AreApart 0 new
  pub starts : StartBy new range.0
  pub union : IsEither (in_ranges old) (in_range range) (in_ranges new)

-- how far two lists of ranges have been joined to the end of others, when these ranges are there and these lists
-- are left
pub record IsMerging (old first other now left right : List (ℕ × ℕ)) : Type 0 where
  pub same : (n : ℕ)
      → (in_ranges now n || (in_ranges left n || in_ranges right n))
      ≡ (in_ranges old n || (in_ranges first n || in_ranges other n))
  pub kept : (n : ℕ) → in_ranges old n ≡ true → in_ranges now n ≡ true
  pub apart : AreApart 0 now
  pub left_apart : AreApart 0 left
  pub right_apart : AreApart 0 right
  pub left_later : StartBefore now left
  pub right_later : StartBefore now right

-- each number of the first ranges is one of the others
abbrev pub AreInside : List (ℕ × ℕ) → List (ℕ × ℕ) → Type 0
AreInside ranges others = (n : ℕ) → in_ranges ranges n ≡ true → in_ranges others n ≡ true
