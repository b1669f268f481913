use Rattle.std.proofs.Common.{ℕ, ◌≡◌, ◌<◌, true}
use Rattle.std.specs.Option.{option_eq}
use Rattle.pc_join.specs.Inner.Near.{found_by}
use Rattle.pc_join.proofs.near.is_same_by.Given as goal

-- the names that were passed have the same
abbrev pub invariant-loop-name : goal.invariant-loop-name
invariant-loop-name g l = (other : ℕ) → other < l.name → option_eq g.V.PartialEq.eq (found_by l.places l.entries other) (found_by l.other_places l.other_entries other) ≡ true
