use Rattle.std.proofs.Common.{◌∙◌, refl}
use Rattle.std.proofs.lemmas.Bool.{false≢true}
use Rattle.pc_kernel.specs.Reads.{seen, kinds_read}
use Rattle.pc_join.proofs.Entries.{walked_start, walked_found, walked_below, walked_on, walked_all}
use Rattle.pc_view.proofs.Audits.{IsOfHistories, all_audited, departs_not, of_histories}
use Rattle.pc_view.proofs.auditing.audit.Goals as goal

pub loop-thread-init : goal.loop-thread-init
loop-thread-init c = walked_start (IsOfHistories (kinds_read (seen c.args.kernel.now))) c.args.view.now.threads c.into_iter-thread-iterator.result (c.into_iter-thread-iterator.ensures.into_iter_gives ∙ c.iter-thread-items.ensures.entries)

pub returns-in-Some-departure_of-clause-exact : goal.returns-in-Some-departure_of-clause-exact
returns-in-Some-departure_of-clause-exact c =
    let run = kinds_read (seen c.args.kernel.now) in
    let there = walked_found (IsOfHistories run) c.args.view.now.threads c.loop-thread.thread-iterator c.next.new.self c.in-Some.thread c.in-Some.held.now c.in-Some.ensures.steps c.loop-thread.invariant in
    (λ e. absurd (false≢true e), λ of_run. absurd (departs_not run c.args.view.now c.in-Some.thread c.in-Some.held.now c.in-Some-departure_of.number of_run there c.in-Some-departure_of.ensures.some))

pub returns-in-Some-departure_of-clause-least : goal.returns-in-Some-departure_of-clause-least
returns-in-Some-departure_of-clause-least c = λ thread told less there.
    (walked_below (IsOfHistories (kinds_read (seen c.args.kernel.now))) c.args.view.now.threads c.loop-thread.thread-iterator c.next.new.self c.in-Some.thread c.in-Some.held.now c.in-Some.ensures.steps c.loop-thread.invariant thread told less there).history

pub loop-thread-preserved : goal.loop-thread-preserved
loop-thread-preserved c =
    let run = kinds_read (seen c.args.kernel.now) in
    walked_on (IsOfHistories run) c.args.view.now.threads c.loop-thread.thread-iterator c.next.new.self c.in-Some.thread c.in-Some.held.now c.in-Some.ensures.steps c.loop-thread.invariant
    (of_histories run c.in-Some.thread c.in-Some.held.now (c.in_default.ensures.none refl) c.in_default.ensures.told)

pub returns-clause-exact : goal.returns-clause-exact
returns-clause-exact c =
    let run = kinds_read (seen c.args.kernel.now) in
    (λ _. all_audited run c.args.view.now (walked_all (IsOfHistories run) c.args.view.now.threads c.loop-thread.thread-iterator c.in-None.ensures.steps.0 c.loop-thread.invariant), λ _. refl)
