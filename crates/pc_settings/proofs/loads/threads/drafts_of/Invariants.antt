use Rattle.std.proofs.Common.{◌≡◌, None, take, map}
use Rattle.pc_settings.specs.Keys.{first_some, of_each}
use Rattle.pc_settings.specs.LoadTexts.{thread_faults, told_in}
use Rattle.pc_settings.specs.Inner.Drafts.{told}
use Rattle.pc_settings.specs.Inner.Values.{table_in}
use Rattle.pc_settings.proofs.loads.threads.drafts_of.Given as goal

abbrev pub invariant-loop-item : goal.invariant-loop-item
invariant-loop-item l = (first_some (of_each (λ place. thread_faults) 0 (map table_in (take l.item-index l.items))) ≡ None)
    × (map told l.drafts.items ≡ map told_in (map table_in (take l.item-index l.items)))
