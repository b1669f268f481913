use Rattle.pc_view.specs.Views.{source_of}
use Rattle.pc_view.specs.Inner.ViewLaws.{unique_view}
use Rattle.pc_view.proofs.laws.views_of_the_same_messages_are_equal.Goals as goal

pub returns : goal.returns
returns c = λ run a b. unique_view (source_of run) a b
