use Rattle.std.proofs.Common.{◌≡◌, ◌++◌, take, map}
use Rattle.pc_table.specs.declared.rows.Rows.TheVariants.{One}
use Rattle.pc_table.proofs.rows.push_first.Given as goal

abbrev pub invariant-loop-number : goal.invariant-loop-number
invariant-loop-number l = l.rows.items ≡ l.fn.rows.items ++ map One (take l.number-index l.number-items)
