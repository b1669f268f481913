use Rattle.std.proofs.Common.{◌≡◌, take, map, Ok}
use Rattle.pc_threads.specs.Settings.{plan_of}
use Rattle.pc_settings.specs.Inner.Readings.{each, read_plan}
use Rattle.pc_settings.specs.Inner.SharedKeys.{told}
use Rattle.pc_settings.proofs.runs.plans_of.Given as goal

abbrev pub invariant-loop-thread : goal.invariant-loop-thread
invariant-loop-thread l = each read_plan 0 (map told (take l.thread l.drafts)) ≡ Ok (map plan_of l.plans.items)
