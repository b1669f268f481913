use Rattle.std.proofs.Common.{◌≡◌, ℕ, ◌<◌, Some, length, slice_get}
use Rattle.pc_kernel.specs.Inner.Entries.{fresh_cpu}
use Rattle.pc_kernel.proofs.cpus.fresh.Given as goal

abbrev pub invariant-loop-cpu : goal.invariant-loop-cpu
invariant-loop-cpu l = record {
  limits : l.limits ≡ l.initial.limits;
  count : length l.cpus.items ≡ l.cpu;
  each : (c : ℕ) → c < l.cpu → slice_get l.cpus.items c ≡ Some (fresh_cpu l.limits c);
}
