use Rattle.std.proofs.Common.{subst, sym}
use Rattle.pc_delta.specs.Digests.{set_of_digest}
use Rattle.pc_delta.specs.Exchange.{IsAnswerTo}
use Rattle.pc_delta.proofs.answer.delta_since.Goals as goal

pub returns : goal.returns
returns c = subst (IsAnswerTo c.args.view.now (set_of_digest c.args.digest.now)) (sym c.of_faultless.ensures) c.in_ok-parts.ensures.answer
