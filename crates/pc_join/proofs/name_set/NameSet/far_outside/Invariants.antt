use Rattle.std.proofs.Common.{ℕ, ◌≡◌, ◌<◌, ◌≤◌, ◌^◌, ◌/◌, ◌+◌, ◌-◌, ◌&&◌, not, false}
use Rattle.pc_join.specs.Inner.Blocks.{is_in_blocks}
use Rattle.pc_join.proofs.name_set.NameSet.far_outside.Given as goal

-- no name in the blocks that were passed is in the set alone
abbrev pub invariant-loop-block : goal.invariant-loop-block
invariant-loop-block l = (l.first ≡ l.from / 64) × (l.first ≤ l.start) × (l.start ≤ 2 ^ 26)
    × ((t : ℕ) → l.from ≤ t → t / 64 < l.start → (is_in_blocks l.self.blocks t && not (is_in_blocks l.others.blocks t)) ≡ false)

abbrev pub decreases-loop-block : goal.decreases-loop-block
decreases-loop-block l = 2 ^ 26 + 1 - l.start
