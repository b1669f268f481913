use Rattle.std.proofs.Common.{◌≡◌, None, take, map}
use Rattle.pc_load.specs.Loads.{drafted}
use Rattle.pc_settings.specs.Keys.{first_some, of_each}
use Rattle.pc_settings.specs.LoadTexts.{need_told, step_faults}
use Rattle.pc_settings.specs.Inner.Drafts.{told}
use Rattle.pc_settings.proofs.loads.threads.plans_of.Given as goal

abbrev pub invariant-loop-thread : goal.invariant-loop-thread
invariant-loop-thread l = (first_some (of_each step_faults 0 (map told (take l.thread l.drafts))) ≡ None)
    × (map drafted l.plans.items ≡ map need_told (map told (take l.thread l.drafts)))
