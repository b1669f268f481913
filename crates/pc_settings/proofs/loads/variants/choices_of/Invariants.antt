use Rattle.std.proofs.Common.{◌≡◌, None, take, map}
use Rattle.pc_settings.specs.Keys.{first_some, of_each}
use Rattle.pc_settings.specs.LoadTexts.{choice_faults, choice_told}
use Rattle.pc_load.specs.Variants.{choice_in}
use Rattle.pc_settings.specs.Inner.Values.{table_in}
use Rattle.pc_settings.proofs.loads.variants.choices_of.Given as goal

abbrev pub invariant-loop-item : goal.invariant-loop-item
invariant-loop-item l = (first_some (of_each (λ place. choice_faults) 0 (map table_in (take l.item-index l.items))) ≡ None)
    × (map choice_in l.choices.items ≡ map choice_told (map table_in (take l.item-index l.items)))
