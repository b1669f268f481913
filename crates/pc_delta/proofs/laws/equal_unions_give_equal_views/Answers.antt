use Rattle.std.proofs.Common.{sym, ◌∙◌}
use Rattle.pc_view.specs.Views.{source_of}
use Rattle.pc_view.specs.Inner.ViewLaws.{unique_view}
use Rattle.pc_delta.proofs.laws.equal_unions_give_equal_views.Goals as goal

pub returns : goal.returns
returns c = λ run deltas others before after start end of_before of_start of_deltas of_others same taken told.
    unique_view (source_of run) after end (taken.of_run run of_before of_deltas) (told.of_run run of_start of_others) (λ m. taken.union m ∙ same m ∙ sym (told.union m))
