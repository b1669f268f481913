use Rattle.pc_seeds.specs.Ending.{NoneIsHeldUp}
use Rattle.pc_seeds.proofs.ending.held_up.Given as goal

abbrev pub invariant-loop-name : goal.invariant-loop-name
invariant-loop-name l = NoneIsHeldUp l.kernel l.name l.cpus
