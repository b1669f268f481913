-- Sets of numbers as ranges.
use Rattle.std.specs.Prelude.{ℕ, ◌+◌, ◌<◌, ◌≤◌, ◌≡◌, ◌&&◌, nat_le, Bool, true, false, List, [], ◌∷◌}
use Rattle.std.specs.List.{list_any}
use Rattle.pc_join.specs.Sets.{Members, numbers_where}

-- the range, from its first number to its last, has the number
abbrev pub in_range : ℕ × ℕ → ℕ → Bool
in_range range n = nat_le range.0 n && nat_le n range.1

-- one of the ranges has the number
abbrev pub in_ranges : List (ℕ × ℕ) → ℕ → Bool
in_ranges ranges n = list_any (λ range. in_range range n) ranges

-- the numbers of the ranges, as a set
abbrev pub numbers_in : List (ℕ × ℕ) → Members
numbers_in ranges = numbers_where (in_ranges ranges)

-- the ranges are above n, ascend, are not empty, and neither overlap nor touch
abbrev pub AreApart : ℕ → List (ℕ × ℕ) → Type 0
AreApart n [] = Unit {0}
AreApart n (range ∷ ranges) = (n < range.0) × (range.0 ≤ range.1) × AreApart (range.1 + 1) ranges

-- the least number from 1 to the last that the test lacks
pub record IsFirstMissing (test : ℕ → Bool) (last n : ℕ) : Type 0 where
  pub positive : 1 ≤ n
  pub reached : n ≤ last
  pub missing : test n ≡ false
  pub least : (m : ℕ) → 1 ≤ m → m < n → test m ≡ true

-- the numbers from one to another, as a set
abbrev pub numbers_from_to : ℕ → ℕ → Members
numbers_from_to from to = numbers_where (in_range (from, to))

-- the number is one from 1 to the last
abbrev pub one_to : ℕ → ℕ → Bool
one_to last n = nat_le 1 n && nat_le n last

-- the numbers from 1 to the last, as a set
abbrev pub numbers_to : ℕ → Members
numbers_to last = numbers_where (one_to last)
