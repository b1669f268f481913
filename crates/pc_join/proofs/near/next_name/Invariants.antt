use Rattle.std.proofs.Common.{ℕ, ◌≡◌, ◌<◌, ◌≤◌}
use Rattle.pc_join.specs.Inner.Near.{place_in}
use Rattle.pc_join.proofs.near.next_name.Given as goal

abbrev pub invariant-loop-name : goal.invariant-loop-name
invariant-loop-name l = (other : ℕ) → l.fn.from ≤ other → other < l.name → place_in l.fn.places other ≡ 0
