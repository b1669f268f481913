use Rattle.std.proofs.Common.{◌≡◌, ◌∷◌, take, map}
use Rattle.std.specs.List.{flat_map}
use Rattle.pc_table.specs.Sheets.{value_text}
use Rattle.pc_table.specs.Values.{values_in}
use Rattle.pc_table.proofs.cells.cells_of.Given as goal

abbrev pub invariant-loop-each : goal.invariant-loop-each
invariant-loop-each l = l.cells ≡ l.column.name.now ∷ map (value_text l.layout) (flat_map (λ each. values_in each l.column.summary) (take l.each-index l.rows))
