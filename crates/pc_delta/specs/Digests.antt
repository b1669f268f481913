-- Digests: which messages are known, by ranges of numbers under each thread's name.
use Rattle.std.specs.Prelude.{ℕ, ◌==◌, ◌&&◌, Bool, List}
use Rattle.std.specs.Cmp.Lexicographic.{pointwise}
use Rattle.std.specs.FinMap as map
use Rattle.std.specs.Ordering.{nat_cmp}
use Rattle.pc_join.specs.Sets.{Members, Source}
use Rattle.pc_join.specs.Ranges.{numbers_in, AreApart}
use Rattle.pc_join.specs.ByName.{members_by_name, IsOfByName, is_same_by_name}

-- the ranges under each name
abbrev pub RangesByName : Type 0
RangesByName = map.FinMap nat_cmp (List (ℕ × ℕ))

-- the messages that a digest has, as pairs of a thread's name and a number
abbrev pub set_of_digest : RangesByName → Members
set_of_digest digest = members_by_name numbers_in digest

-- no name stands without a number, and the ranges under each neither overlap nor touch; the source does not matter
abbrev pub IsOfAnySource : RangesByName → Source → Type 0
IsOfAnySource digest s = IsOfByName numbers_in (λ ranges t. AreApart 0 ranges) digest s

-- what holds of every digest
abbrev pub IsDigest : RangesByName → Type 0
IsDigest digest = (s : Source) → IsOfAnySource digest s

-- the same ranges
abbrev pub is_same_ranges : List (ℕ × ℕ) → List (ℕ × ℕ) → Bool
is_same_ranges = pointwise (λ q r. (q.0 == r.0) && (q.1 == r.1))

-- the same ranges under the same names
abbrev pub is_same_digest : RangesByName → RangesByName → Bool
is_same_digest a b = is_same_by_name is_same_ranges a b
