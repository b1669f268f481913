use Rattle.std.proofs.Common.{◌∙◌}
use Rattle.pc_protocol.proofs.question.question_of.Goals as goal

pub invariant_of-result : goal.invariant_of-result
invariant_of-result c = record { listed = ∣ (c.requires.0, λ m. c.in_ok-digest.ensures.same m ∙ c.requires.1 m) ∣₁ }
