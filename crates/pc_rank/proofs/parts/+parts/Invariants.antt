use Rattle.std.proofs.Common.{length}
use Rattle.pc_rank.proofs.parts.+parts.Given as goal

-- proposed from what the function passes where it calls itself
abbrev pub decreases-before : goal.decreases-before
decreases-before l = length l.codes.now
