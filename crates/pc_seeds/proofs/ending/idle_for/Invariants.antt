use Rattle.pc_seeds.specs.Ending.{NoneIdlesFor}
use Rattle.pc_seeds.proofs.ending.idle_for.Given as goal

abbrev pub invariant-loop-cpu : goal.invariant-loop-cpu
invariant-loop-cpu l = NoneIdlesFor l.kernel l.thread l.cpu
