use Rattle.std.proofs.Common.{◌≡◌, ◌++◌, take}
use Rattle.pc_table.specs.Rows.{refused_rows}
use Rattle.pc_table.proofs.rows.push_each_refusal.Given as goal

abbrev pub invariant-loop-what : goal.invariant-loop-what
invariant-loop-what l = l.rows.items ≡ l.fn.rows.items ++ refused_rows (take l.what-index l.refusals) l.columns
