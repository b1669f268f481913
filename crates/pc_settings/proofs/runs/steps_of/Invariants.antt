use Rattle.std.proofs.Common.{◌≡◌, take, map, Ok}
use Rattle.pc_settings.specs.Inner.Readings.{each, read_text}
use Rattle.pc_settings.specs.Inner.Values.{text_in}
use Rattle.pc_settings.proofs.runs.steps_of.Given as goal

abbrev pub invariant-loop-step : goal.invariant-loop-step
invariant-loop-step l = each (read_text l.thread) 0 (map text_in (take l.step l.texts)) ≡ Ok l.steps.items
