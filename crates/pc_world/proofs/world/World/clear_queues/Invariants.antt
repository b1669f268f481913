use Rattle.pc_world.specs.Inner.Mends.{CountsAll, DoesAll}
use Rattle.pc_world.specs.Mending.{clearing}
use Rattle.pc_world.specs.Shows.{KeepsSent}
use Rattle.pc_world.proofs.world.World.clear_queues.Given as goal

abbrev pub invariant-loop-index : goal.invariant-loop-index
invariant-loop-index l = record {
  done : DoesAll (clearing l.index) l.initial.self l.self;
  kept : KeepsSent l.initial.self l.self;
  counted : CountsAll (clearing l.index) l.initial.self l.self;
}
