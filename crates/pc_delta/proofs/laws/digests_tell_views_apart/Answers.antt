use Rattle.std.proofs.Common.{sym, ap, ◌∙◌}
use Rattle.pc_view.specs.Views.{source_of}
use Rattle.pc_view.specs.Inner.ViewLaws.{unique_view}
use Rattle.pc_delta.specs.Digests.{set_of_digest}
use Rattle.pc_delta.proofs.laws.digests_tell_views_apart.Goals as goal

pub returns : goal.returns
returns c = λ run a b digest other of_a of_b same_a same_b e. unique_view (source_of run) a b of_a of_b (λ m. sym (same_a m) ∙ ap (λ d. set_of_digest d m) e ∙ same_b m)
