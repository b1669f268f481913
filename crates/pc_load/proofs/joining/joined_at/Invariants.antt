use Rattle.pc_load.proofs.Joined.{Joined}
use Rattle.pc_load.proofs.joining.joined_at.Given as goal

abbrev pub invariant-loop-place : goal.invariant-loop-place
invariant-loop-place l = Joined l.steps l.from l.place l.more
