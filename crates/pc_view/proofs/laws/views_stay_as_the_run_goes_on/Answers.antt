use Rattle.pc_view.specs.Views.{source_of}
use Rattle.pc_view.specs.Inner.ViewLaws.{stays_view}
use Rattle.pc_view.proofs.Runs.{goes_on}
use Rattle.pc_view.proofs.laws.views_stay_as_the_run_goes_on.Goals as goal

pub returns : goal.returns
returns c = λ longer shorter view extends of_run. stays_view (source_of shorter) (source_of longer) view (λ m k n. goes_on longer shorter extends m n) of_run
