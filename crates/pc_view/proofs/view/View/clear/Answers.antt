use Rattle.pc_view.specs.Views.{source_of}
use Rattle.pc_view.proofs.Runs.{nothing_known, nothing_of}
use Rattle.pc_view.proofs.view.View.clear.Goals as goal

pub returns-clause-nothing : goal.returns-clause-nothing
returns-clause-nothing c = nothing_known c.clear.new.self c.clear.ensures

pub returns-clause-of_run : goal.returns-clause-of_run
returns-clause-of_run c = λ run. nothing_of c.clear.new.self c.clear.ensures (source_of run)
