use Rattle.std.proofs.Common.{◌≡◌, ◌∷◌, take, map, codes}
use Rattle.std.specs.List.{flat_map}
use Rattle.pc_table.specs.Sheets.{name_text}
use Rattle.pc_table.specs.Values.{names_in}
use Rattle.pc_table.proofs.cells.names_of.Given as goal

abbrev pub invariant-loop-each : goal.invariant-loop-each
invariant-loop-each l = l.names ≡ codes "variant" ∷ map (name_text l.layout) (flat_map names_in (take l.each-index l.rows))
