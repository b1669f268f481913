use Rattle.std.proofs.Common.{◌≡◌, None, take, map, filter_map}
use Rattle.pc_settings.specs.Keys.{first_some, of_each}
use Rattle.pc_settings.specs.LoadTexts.{text_fault}
use Rattle.pc_settings.specs.Steps.{read_step}
use Rattle.pc_settings.specs.Inner.Values.{text_in}
use Rattle.pc_settings.proofs.loads.threads.steps_of.Given as goal

abbrev pub invariant-loop-step : goal.invariant-loop-step
invariant-loop-step l = (first_some (of_each (text_fault l.thread) 0 (map text_in (take l.step l.texts))) ≡ None)
    × (l.steps.items ≡ filter_map read_step (map text_in (take l.step l.texts)))
