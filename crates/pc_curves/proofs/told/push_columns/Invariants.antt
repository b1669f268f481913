use Rattle.std.proofs.Common.{◌≡◌, ◌++◌, take, codes}
use Rattle.std.specs.List.{flat_map}
use Rattle.pc_curves.specs.Waits.{column_title}
use Rattle.pc_curves.proofs.told.push_columns.Given as goal

abbrev pub invariant-loop-column : goal.invariant-loop-column
invariant-loop-column l = l.text.items ≡ l.fn.text.items ++ flat_map (λ column. codes "; " ++ column_title column) (take l.column-index l.columns)
