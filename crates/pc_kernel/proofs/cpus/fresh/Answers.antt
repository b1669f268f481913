use Rattle.std.proofs.Common.{arith}
use Rattle.std.proofs.lemmas.List.{length_push}
use Rattle.pc_kernel.proofs.Slots.{each_push}
use Rattle.pc_kernel.specs.Inner.Entries.{fresh_cpu}
use Rattle.pc_kernel.proofs.cpus.fresh.Goals as goal

pub loop-cpu-preserved : goal.loop-cpu-preserved
loop-cpu-preserved c = record {
  limits = cc;
  count = rw (c.in_ok-push.ensures.items, length_push) (omega arith);
  each = rw (c.in_ok-push.ensures.items, c.new.ensures) (each_push c.loop-cpu.cpus.items (fresh_cpu c.args.limits) c.loop-cpu.cpu c.loop-cpu.invariant.count c.loop-cpu.invariant.each);
}
