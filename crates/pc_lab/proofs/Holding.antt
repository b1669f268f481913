-- For how long a thread stands before another.
use Rattle.std.proofs.Common.{◌≡◌, ℕ, ◌+◌, ◌<◌, ◌≤◌, true, ltb, Option, Some, None, IsSomeAnd, arith}
use Rattle.std.proofs.lemmas.Bool.Decides.{nat_tests}
use Rattle.pc_messages.specs.declared.reported.Reported.{Reported}
use Rattle.pc_policy.specs.Rankings.{Ranking}
use Rattle.pc_lab.specs.Standing.{RisesSlowly, StandsFor, ran_on, stands_before}

lower : (later low other : ℕ) → later ≤ low → low < other → ltb later other ≡ true
lower later low other most below = grind (arith, nat_tests)

-- what has a rank that is not above one below the other's stands before it
stands_low : (o : Option ℕ) (low other : ℕ) → IsSomeAnd o (λ later. later ≤ low) → low < other → stands_before o (Some other) ≡ true
stands_low None low other most below = absurd most
stands_low (Some later) low other most below = lower later low other most below

-- a thread stands before for as many ticks as its rank is below the other's
pub stands_for : (ranks : Ranking) (c t : ℕ) (r : Reported) (rank other ticks : ℕ) → RisesSlowly ranks → ranks c t r ≡ Some rank
    → ((ran : ℕ) → ran < ticks → rank + ran < other) → StandsFor ranks c t r (Some other) ticks
stands_for ranks c t r rank other ticks slow now below ran low =
    stands_low (ranks c t (ran_on ran r)) (rank + ran) other (slow.most c t ran rank r now) (below ran low)
