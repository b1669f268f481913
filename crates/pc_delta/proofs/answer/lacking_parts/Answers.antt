use Rattle.std.proofs.Common.{ap, ◌∙◌, ◌++◌}
use Rattle.std.specs.Option.{option_copied}
use Rattle.pc_join.specs.ByName.{known_in}
use Rattle.pc_delta.proofs.Useful.{answering_start, answering_on, answered, faultless}
use Rattle.pc_delta.proofs.answer.lacking_parts.Goals as goal

pub near-init : goal.near-init
near-init g c = answering_start c.args.view.now (g.A.Asker.members c.args.asker.now) (c.into_iter-thread-iterator.result ++ c.walks-near.result.far) c.new-parts.result.items
    (ap (λ left. left ++ c.walks-near.result.far) c.into_iter-thread-iterator.ensures.into_iter_gives ∙ c.walks-near.ensures.entries) c.new-parts.ensures.items

pub near-preserved : goal.near-preserved
near-preserved g c = answering_on c.args.view.now (g.A.Asker.members c.args.asker.now) (c.near.thread-iterator ++ c.walks-near.result.far) (c.next.new.self ++ c.walks-near.result.far)
    c.near.parts.items c.add_thread.new.parts.items c.in-Some.thread c.in-Some.held.now (known_in g.A.Of.Known.known (option_copied c.of_thread.result))
    (ap (λ left. left ++ c.walks-near.result.far) c.in-Some.ensures.steps) c.near.invariant c.of_thread.ensures c.in_ok-add_thread.ensures

pub far-preserved : goal.far-preserved
far-preserved g c = answering_on c.args.view.now (g.A.Asker.members c.args.asker.now) c.far.thread-iterator c.next-in-far.new.self c.far.parts.items c.add_thread-in-far.new.parts.items
    c.in-Some-2.thread c.in-Some-2.held.now (known_in g.A.Of.Known.known (option_copied c.of_thread-in-far.result)) c.in-Some-2.ensures.steps c.far.invariant c.of_thread-in-far.ensures c.in_ok-add_thread-2.ensures

pub returns-clause-sound : goal.returns-clause-sound
returns-clause-sound g c = faultless c.args.view.now (g.A.Asker.members c.args.asker.now) c.far.parts.items c.far.invariant.useful

pub returns-clause-answer : goal.returns-clause-answer
returns-clause-answer g c = answered c.args.view.now (g.A.Asker.members c.args.asker.now) c.far.thread-iterator c.far.parts.items c.in-None-2.ensures.steps.0 c.far.invariant
