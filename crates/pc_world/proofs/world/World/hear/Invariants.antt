use Rattle.pc_world.specs.Inner.Mends.{CountsAll, DoesAll}
use Rattle.pc_world.specs.Mending.{hearing}
use Rattle.pc_world.specs.Shows.{KeepsSent}
use Rattle.pc_world.proofs.world.World.hear.Given as goal

abbrev pub invariant-loop-delta : goal.invariant-loop-delta
invariant-loop-delta l = record {
  done : DoesAll (hearing l.cpu l.delta) l.initial.self l.self;
  kept : KeepsSent l.initial.self l.self;
  counted : CountsAll (hearing l.cpu l.delta) l.initial.self l.self;
}
