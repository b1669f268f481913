use Rattle.std.proofs.Common.{◌≡◌, ◌++◌, take}
use Rattle.pc_table.specs.Rows.{level_rows}
use Rattle.pc_table.proofs.rows.push_each_level.Given as goal

abbrev pub invariant-loop-level : goal.invariant-loop-level
invariant-loop-level l = l.rows.items ≡ l.fn.rows.items ++ level_rows l.is_woken (take l.level-index l.levels) l.columns
