-- Who stands before whom, and what a rank is once a thread has run on.
use Rattle.std.specs.Prelude.{◌≡◌, ℕ, ◌+◌, ◌<◌, ◌≤◌, ltb, Bool, true, false, Option, Some, None, IsSomeAnd}
use Rattle.pc_messages.specs.declared.reported.Reported.{Reported}
use Rattle.pc_policy.specs.Rankings.{Ranking}

-- a thread of the less rank stands before another; one without a rank is left out, and stands behind each that has one
abbrev pub stands_before : Option ℕ → Option ℕ → Bool
stands_before None other = false
stands_before (Some rank) None = true
stands_before (Some rank) (Some other) = ltb rank other

-- what is reported of a thread that has run for so many ticks more
abbrev pub ran_on : ℕ → Reported → Reported
ran_on ticks r = record r { ran = r.ran + ticks }

-- By a ranking that rises slowly a thread that has a rank keeps one, which each tick that it runs raises by one at
-- most; and where the first tick leaves the rank as it is, all do
pub record RisesSlowly (ranks : Ranking) : Type 0 where
  pub most : (c t ticks rank : ℕ) (r : Reported) → ranks c t r ≡ Some rank
      → IsSomeAnd (ranks c t (ran_on ticks r)) (λ later. later ≤ rank + ticks)
  pub steady : (c t ticks : ℕ) (r : Reported) → ranks c t (ran_on 1 r) ≡ ranks c t r
      → ranks c t (ran_on ticks r) ≡ ranks c t r

-- a thread stands before one of this rank, however many ticks it runs below so many
abbrev pub StandsFor : Ranking → ℕ → ℕ → Reported → Option ℕ → ℕ → Type 0
StandsFor ranks c t r other ticks =
    (ran : ℕ) → ran < ticks → stands_before (ranks c t (ran_on ran r)) other ≡ true
