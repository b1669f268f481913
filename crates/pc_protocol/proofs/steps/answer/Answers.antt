use Rattle.std.proofs.Common.{refl}
use Rattle.pc_delta.specs.Digests.{set_of_digest}
use Rattle.pc_protocol.proofs.Doing.{answered_so, answers_so}
use Rattle.pc_protocol.proofs.steps.answer.Goals as goal

pub returns-in_ok-tell-clause-answers : goal.returns-in_ok-tell-clause-answers
returns-in_ok-tell-clause-answers c =
    answers_so c.args.cpu c.args.asker (set_of_digest c.args.digest.now) c.args.world.now c.answer_digest.new.self c.args.seats.now.items c.tell.new.seats.items c.in_ok-delta.field-0 c.in-Answered.delta c.in-Answered.is
    c.in_ok-delta.ensures.answers c.in_ok-tell.ensures.tells

pub returns-in_default : goal.returns-in_default
returns-in_default c = record {
  count = refl;
  answers = λ asked same w h there.
      let x = answered_so c.args.cpu (set_of_digest c.args.digest.now) c.args.world.now c.answer_digest.new.self c.in_ok-delta.field-0 asked same w h there c.in_ok-delta.ensures.answers in
      absurd (c.in_default.not-Answered _ x.1.tells);
}
