use Rattle.std.proofs.Common.{subst}
use Rattle.pc_seeds.specs.Driving.{DrivesOn}
use Rattle.pc_seeds.proofs.runs.Seeded.drive.Goals as goal

pub returns-clause-drives : goal.returns-clause-drives
returns-clause-drives c =
    subst (λ plans. DrivesOn plans c.args.machine c.args.self.now.driver c.in_ok-machine.machine c.go.new.self) c.threads.ensures c.in_ok-machine.ensures.drives
