use Rattle.std.proofs.Common.{◌≡◌, length}
use Rattle.pc_seeds.proofs.runs.views_of.Given as goal

abbrev pub invariant-loop-cpu : goal.invariant-loop-cpu
invariant-loop-cpu l = length l.views.items ≡ l.cpu
