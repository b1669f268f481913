use Rattle.std.proofs.Common.{◌≡◌, map, drop}
use Rattle.pc_protocol.specs.Machine.{Machine}
use Rattle.pc_threads.specs.Settings.{plan_of}
use Rattle.pc_seeds.specs.Driving.{Creates}
use Rattle.pc_seeds.proofs.runs.Seeded.create_all.Given as goal

abbrev pub invariant-loop-plan : goal.invariant-loop-plan
invariant-loop-plan l =
    (l.self.config ≡ l.fn.self.config) × (l.self.driver ≡ l.fn.self.driver)
    × ((end : Machine) → Creates (map plan_of (drop l.plan-index l.plan-items)) l.machine end → Creates (map plan_of l.plan-items) l.fn.machine end)
