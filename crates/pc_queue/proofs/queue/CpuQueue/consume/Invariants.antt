use Rattle.std.proofs.Common.{◌≡◌, drop}
use Rattle.pc_queue.specs.Inner.Counts.{Counts}
use Rattle.pc_queue.proofs.queue.CpuQueue.consume.Given as goal

abbrev pub invariant-loop-place : goal.invariant-loop-place
invariant-loop-place l = record {
  queue : l.self-inside.queue ≡ l.initial.self-inside.queue;
  counted : Counts l.self-inside.held (drop l.place l.self-inside.queue.items);
}
