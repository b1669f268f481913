use Rattle.std.proofs.Common.{length, ◌+◌, ◌*◌}
use Rattle.pc_rank.proofs.evaluate.+evaluate.Given as goal

abbrev pub decreases-holds : goal.decreases-holds
decreases-holds l = 2 * length l.codes.now

abbrev pub decreases-rank_of : goal.decreases-rank_of
decreases-rank_of l = 2 * length l.codes.now

abbrev pub decreases-ranks_of : goal.decreases-ranks_of
decreases-ranks_of l = 2 * length l.codes.now + 1
