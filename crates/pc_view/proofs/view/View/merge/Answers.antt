use Rattle.pc_view.specs.Views.{source_of}
use Rattle.pc_view.proofs.view.View.merge.Goals as goal

pub returns-clause-of_run : goal.returns-clause-of_run
returns-clause-of_run c = λ run a b. c.join_from.ensures.of_source (source_of run) a b
