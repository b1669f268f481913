use Rattle.std.proofs.Common.{◌≡◌, []}
use Rattle.pc_seeds.specs.Driving.{StaysInRun}
use Rattle.pc_seeds.proofs.runs.Seeded.play.Given as goal

abbrev pub invariant-loop-number : goal.invariant-loop-number
invariant-loop-number g l =
    (l.self.config ≡ l.fn.self.config)
    × (l.fn.self.config.now.restarts ≡ [] → StaysInRun l.fn.self.config.now.threads l.fn.machine l.fn.self.driver l.machine l.self.driver)
