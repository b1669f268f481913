-- The numbers of an interval.
use Rattle.std.proofs.Common.{◌≤◌, ◌⊎◌, inl, inr, ℕ, ◌-◌, ◌<◌, arith}
use Rattle.std.proofs.lemmas.Bool.{cases_lt}
use Rattle.pc_draw.specs.Parts.{HasAnyOf}
use Rattle.pc_draw.specs.declared.part.Interval.{Interval}

-- the greater of the two firsts is a number of both
any_by : (asked : Interval) (first count : ℕ) → asked.first ≤ asked.last → first ≤ asked.last → asked.first - first < count
    → (asked.first < first) ⊎ (first ≤ asked.first) → HasAnyOf asked first count
any_by asked first count ordered reaches below (inl less) = (first, (omega (arith, less), reaches), omega arith, omega (arith, below))
any_by asked first count ordered reaches below (inr more) = (asked.first, (omega arith, ordered), more, omega (arith, below, more))

pub any_of : (asked : Interval) (first count : ℕ) → asked.first ≤ asked.last → first ≤ asked.last → asked.first - first < count → HasAnyOf asked first count
any_of asked first count ordered reaches below = any_by asked first count ordered reaches below (cases_lt asked.first first)

-- a number of both says how the firsts lie
pub below_of : (asked : Interval) (first count : ℕ) → HasAnyOf asked first count → asked.first - first < count
below_of asked first count (number, (least, most), from, below) = omega (arith, least, from, below)
