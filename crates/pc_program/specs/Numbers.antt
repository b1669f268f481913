-- Words that spell numbers from one to another.
use Rattle.std.specs.Prelude.{◌≡◌, ◌≤◌, ◌<◌, ◌^◌, ◌⊎◌, ◌++◌, ℕ, List, codes, decimal}
use Rattle.pc_draw.specs.declared.part.Interval.{Interval}

-- two words are the first and the last of these numbers in decimal, with neither a sign nor a needless zero, and the
-- last is not below the first
pub record IsBetween (first last : List ℕ) (numbers : Interval) : Type 0 where
  pub first_is : first ≡ decimal numbers.first
  pub last_is : last ≡ decimal numbers.last
  pub ordered : numbers.first ≤ numbers.last
  pub small : numbers.last < 2 ^ 32

-- a word spells these numbers: it is the first, `-` and the last, or the first and last in one
abbrev pub IsWritten : List ℕ → Interval → Type 0
IsWritten word numbers =
    ((first : List ℕ) × (last : List ℕ) × (word ≡ first ++ (codes "-" ++ last)) × IsBetween first last numbers)
    ⊎ IsBetween word word numbers

-- a word spells no numbers
abbrev pub SpellsNone : List ℕ → Type 0
SpellsNone word = (numbers : Interval) → IsWritten word numbers → ⊥
