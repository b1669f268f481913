use Rattle.std.proofs.Common.{◌≡◌, take, map, Ok}
use Rattle.pc_settings.specs.Inner.Readings.{each, read_draft}
use Rattle.pc_settings.specs.Inner.Values.{table_in}
use Rattle.pc_settings.specs.Inner.SharedKeys.{told}
use Rattle.pc_settings.proofs.runs.drafts_of.Given as goal

abbrev pub invariant-loop-item : goal.invariant-loop-item
invariant-loop-item l = each read_draft 0 (map table_in (take l.item-index l.items)) ≡ Ok (map told l.drafts.items)
