use Rattle.std.proofs.Common.{◌≡◌, take, map, Ok}
use Rattle.pc_settings.specs.Inner.Readings.{each, read_restart}
use Rattle.pc_settings.specs.Inner.Values.{table_in}
use Rattle.pc_settings.proofs.runs.restarts_of.Given as goal

abbrev pub invariant-loop-item : goal.invariant-loop-item
invariant-loop-item l = each read_restart 0 (map table_in (take l.item-index l.items)) ≡ Ok l.restarts.items
