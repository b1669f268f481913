use Rattle.std.proofs.Common.{◌≡◌, ◌++◌, ◌-◌, map}
use Rattle.pc_table.specs.Sheets.{name_text}
use Rattle.pc_table.specs.Values.{percentile_name, told_to}
use Rattle.pc_table.proofs.cells.push_percentiles.Given as goal

abbrev pub invariant-loop-percent : goal.invariant-loop-percent
invariant-loop-percent l = l.names ≡ l.fn.names ++ map (λ percent. name_text l.layout (percentile_name l.which percent)) (told_to l.percents (l.percent - 1))
