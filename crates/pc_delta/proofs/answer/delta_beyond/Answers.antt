use Rattle.std.proofs.Common.{subst, sym}
use Rattle.pc_view.specs.Views.{pairs_of}
use Rattle.pc_delta.specs.Exchange.{IsAnswerTo}
use Rattle.pc_delta.proofs.answer.delta_beyond.Goals as goal

pub returns : goal.returns
returns c = subst (IsAnswerTo c.args.view.now (pairs_of c.args.other.now)) (sym c.of_faultless.ensures) c.in_ok-parts.ensures.answer
