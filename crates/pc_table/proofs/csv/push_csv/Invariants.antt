use Rattle.std.proofs.Common.{◌≡◌, ◌∷◌, ◌++◌, take}
use Rattle.std.specs.List.{flat_map}
use Rattle.pc_table.specs.Sheets.{csv_line}
use Rattle.pc_table.proofs.csv.push_csv.Given as goal

abbrev pub invariant-loop-column : goal.invariant-loop-column
invariant-loop-column l = l.text.items ≡ l.fn.text.items ++ flat_map csv_line (l.names ∷ take l.column-index l.columns)
