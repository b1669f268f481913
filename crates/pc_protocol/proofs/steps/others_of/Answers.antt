use Rattle.std.proofs.Common.{◌∙◌, ◌++◌, [], ◌∷◌, ap, sym}
use Rattle.pc_protocol.proofs.Seated.{others_next, others_self}
use Rattle.pc_protocol.proofs.steps.others_of.Goals.{then-other-index+in_ok-push, else-other-index}
use Rattle.pc_protocol.proofs.steps.others_of.Goals as goal

pub loop-other-preserved : goal.loop-other-preserved
loop-other-preserved c = elim c.if-other-index.branch [
  | then-other-index+in_ok-push w ↦
      ap (λ v. v.items) w.all-is ∙ w.in_ok-push.ensures.items ∙ ap (λ l. l ++ c.loop-other.other ∷ []) c.loop-other.invariant
      ∙ sym (others_next c.args.cpu c.loop-other.other (λ e. w.if-other-index.true (e ∙ sym c.index.ensures)))
  | else-other-index w ↦ ap (λ v. v.items) w.all-is ∙ c.loop-other.invariant ∙ sym (others_self c.args.cpu c.loop-other.other (w.if-other-index.false ∙ c.index.ensures))
]
