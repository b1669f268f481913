use Rattle.std.proofs.Common.{subst}
use Rattle.pc_delta.specs.Parts.{IsPartOfRun}
use Rattle.pc_delta.proofs.taking.take_part.Goals as goal

pub returns-in-Folded-clause-of_run : goal.returns-in-Folded-clause-of_run
returns-in-Folded-clause-of_run c = λ run a p. c.fold.ensures.of_run run a (subst (IsPartOfRun run) c.in-Folded.is p)
