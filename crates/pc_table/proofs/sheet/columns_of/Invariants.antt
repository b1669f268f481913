use Rattle.std.proofs.Common.{◌≡◌, take, map}
use Rattle.pc_table.specs.Sheets.{cells_of}
use Rattle.pc_table.proofs.sheet.columns_of.Given as goal

abbrev pub invariant-loop-column : goal.invariant-loop-column
invariant-loop-column l = l.strips.items ≡ map (cells_of l.layout l.rows) (take l.column-index l.columns)
