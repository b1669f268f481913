use Rattle.std.proofs.Common.{length, Ok, refl, subst, ap}
use Rattle.pc_agent.specs.Exchanging.{IsAnswered}
use Rattle.pc_agent.specs.Wires.{Keeps}
use Rattle.pc_view.specs.Views.{pairs_of}
use Rattle.pc_world.proofs.Answering.{answer_done}
use Rattle.pc_world.proofs.Places.{agent_at}
use Rattle.pc_world.proofs.parts.Parts.answer.Goals as goal

pub returns-in-Ok-clause-handles : goal.returns-in-Ok-clause-handles
returns-in-Ok-clause-handles c =
    answer_done c.sets_are_pairs.ensures c.args.self.now _ c.args.cpu c.in-Some.place c.in-Some.ensures c.index.result.now
    (agent_at c.args.self.now c.args.cpu c.in-Some.place c.index.result.now c.index.result.now c.in-Some.ensures c.index.ensures) refl refl c.set_refuses.new.self c.set_refuses.ensures.sent
    c.args.asker c.in-Some-place.other c.in-Some-place.ensures c.index-2.result.now
    (agent_at c.args.self.now c.args.asker c.in-Some-place.other c.index-2.result.now c.index-2.result.now c.in-Some-place.ensures c.index-2.ensures)
    _ (ap length c.sent.ensures.same)
    (subst (λ v. IsAnswered Keeps c.index.result.now.view (pairs_of v) (Ok tt) c.set_refuses.new.self c.answer_beyond.new.wire) c.view.ensures.same c.in-Ok.ensures.answers)
