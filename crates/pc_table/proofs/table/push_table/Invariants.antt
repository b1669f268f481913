use Rattle.std.proofs.Common.{◌≡◌, ◌++◌}
use Rattle.std.specs.List.{flat_map, range_with_len}
use Rattle.pc_table.specs.Sheets.{line_text}
use Rattle.pc_table.proofs.table.push_table.Given as goal

abbrev pub invariant-loop-place : goal.invariant-loop-place
invariant-loop-place l = l.text.items ≡ l.fn.text.items ++ flat_map (line_text l.names l.columns) (range_with_len 0 l.place)
