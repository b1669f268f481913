use Rattle.std.proofs.Common.{take}
use Rattle.pc_world.specs.Shows.{KeepsSent, RunsThrough}
use Rattle.pc_world.specs.Counting.{CountsEvents}
use Rattle.pc_world.proofs.world.World.run.Given as goal

abbrev pub invariant-loop-event : goal.invariant-loop-event
invariant-loop-event l = record {
  ran : RunsThrough (take l.event-index l.events) l.replies.items l.initial.self l.self;
  kept : KeepsSent l.initial.self l.self;
  counted : CountsEvents (take l.event-index l.events) l.replies.items l.initial.self l.self;
}
