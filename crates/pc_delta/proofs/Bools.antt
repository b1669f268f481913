-- Or, and what follows from it.
use Rattle.std.proofs.Common.{◌≡◌, ◌||◌, ◌&&◌, Bool, true, false, refl}
use Rattle.std.proofs.lemmas.Bool.{false≢true}

pub or_other : (a b : Bool) → a ≡ false → (a || b) ≡ true → b ≡ true
or_other true b e h = absurd (cc)
or_other false b e h = h

pub and_none : (b : Bool) → (b && false) ≡ false
and_none true = refl
and_none false = refl

-- what was there, some of what was given, and all of it in the end
pub or_again : (old mid more : Bool) → (old ≡ true → mid ≡ true) → (mid ≡ true → (old || more) ≡ true) → (mid || more) ≡ (old || more)
or_again true true more f g = refl
or_again true false more f g = absurd (false≢true (f refl))
or_again false true more f g = both_true (g refl)
  where
    both_true : {b : Bool} → b ≡ true → true ≡ b
    both_true h = cc
or_again false false more f g = refl
