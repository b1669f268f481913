use Rattle.std.proofs.Common.{subst}
use Rattle.pc_seeds.specs.Driving.{IsIdle}
use Rattle.pc_seeds.proofs.runs.Seeded.new.Goals as goal

pub returns-clause-idle : goal.returns-clause-idle
returns-clause-idle c = subst (λ plans. IsIdle plans c.in-Ok-new.driver) c.threads.ensures c.in-Ok-new.ensures
