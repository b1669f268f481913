use Rattle.std.proofs.Common.{◌≡◌, ◌++◌}
use Rattle.pc_table.specs.Rows.{cpu_rows}
use Rattle.pc_table.proofs.rows.push_cpus.Given as goal

abbrev pub invariant-loop-cpu : goal.invariant-loop-cpu
invariant-loop-cpu l = l.rows.items ≡ l.fn.rows.items ++ cpu_rows l.cpu
