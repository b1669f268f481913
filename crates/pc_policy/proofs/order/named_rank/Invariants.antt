use Rattle.std.proofs.Common.{◌≡◌, drop}
use Rattle.pc_policy.specs.Rankings.{rank_named}
use Rattle.pc_policy.proofs.order.named_rank.Given as goal

abbrev pub invariant-loop-row : goal.invariant-loop-row
invariant-loop-row l = rank_named l.rows l.thread ≡ rank_named (drop l.row-index l.rows) l.thread
