use Rattle.std.proofs.Common.{Err, length, refl, subst, ap, ◌∙◌}
use Rattle.pc_delta.specs.Digests.{set_of_digest}
use Rattle.pc_agent.specs.Exchanging.{IsAnswered}
use Rattle.pc_agent.specs.Wires.{Keeps}
use Rattle.pc_world.proofs.Answering.{digest_answered, reached_when_ran_out, reached_when_sent}
use Rattle.pc_world.proofs.Places.{agent_at}
use Rattle.pc_world.proofs.parts.Parts.answer_digest.Goals as goal

pub returns-in-Ok-clause-answers : goal.returns-in-Ok-clause-answers
returns-in-Ok-clause-answers c =
    digest_answered c.sets_are_pairs.ensures c.args.self.now _ c.args.cpu c.in-Some.place c.in-Some.ensures c.index.result.now
    (agent_at c.args.self.now c.args.cpu c.in-Some.place c.index.result.now c.index.result.now c.in-Some.ensures c.index.ensures) refl refl c.set_refuses.new.self c.set_refuses.ensures.sent
    (set_of_digest c.args.digest.now) _ (ap length c.sent.ensures.same) c.in-Ok.ensures.answers

pub returns-in-Ok-clause-reached : goal.returns-in-Ok-clause-reached
returns-in-Ok-clause-reached c =
    reached_when_sent c.sets_are_pairs.ensures c.args.self.now _ c.args.cpu c.in-Some.place c.in-Some.ensures c.index.result.now
    (agent_at c.args.self.now c.args.cpu c.in-Some.place c.index.result.now c.index.result.now c.in-Some.ensures c.index.ensures) refl refl c.set_refuses.new.self c.set_refuses.ensures.sent
    c.kernel_laws.ensures (set_of_digest c.args.digest.now) c.in-Ok.ensures.answers

pub returns-in-Err-OutOfMemory-clause-reached : goal.returns-in-Err-OutOfMemory-clause-reached
returns-in-Err-OutOfMemory-clause-reached c =
    reached_when_ran_out c.sets_are_pairs.ensures c.args.self.now _ c.args.cpu c.in-Some.place c.in-Some.ensures c.index.result.now
    (agent_at c.args.self.now c.args.cpu c.in-Some.place c.index.result.now c.index.result.now c.in-Some.ensures c.index.ensures) refl refl c.set_refuses.new.self c.set_refuses.ensures.sent
    c.kernel_laws.ensures (set_of_digest c.args.digest.now)
    (subst (λ r. IsAnswered Keeps c.index.result.now.view (set_of_digest c.args.digest.now) r c.set_refuses.new.self c.answer.new.wire) (c.in-Err-OutOfMemory.is ∙ ap Err c.in-Err-OutOfMemory.field-0-is) c.answer.ensures.answers)
