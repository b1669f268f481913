use Rattle.std.proofs.Common.{ℕ, ◌≡◌, ◌<◌, ◌≤◌, ◌/◌, ◌-◌, ◌&&◌, not, false, length}
use Rattle.pc_join.specs.Inner.Blocks.{is_in_words}
use Rattle.pc_join.proofs.name_set.NameSet.near_outside.Given as goal

-- no name in the words that were passed is in the set alone
abbrev pub invariant-loop-place : goal.invariant-loop-place
invariant-loop-place l = (l.first ≡ l.from / 64) × (l.first ≤ l.place)
    × ((t : ℕ) → l.from ≤ t → t / 64 < l.place → (is_in_words l.words t && not (is_in_words l.rest t)) ≡ false)

abbrev pub decreases-loop-place : goal.decreases-loop-place
decreases-loop-place l = length l.words - l.place
