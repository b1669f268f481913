use Rattle.pc_view.proofs.Prefixes.{upto_told_by, reports_told_by}
use Rattle.pc_view.proofs.laws.views_tell_what_their_sets_tell.Goals as goal

pub returns : goal.returns
returns c = record { upto = upto_told_by; reported = reports_told_by }
