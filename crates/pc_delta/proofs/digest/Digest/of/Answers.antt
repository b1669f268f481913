use Rattle.std.proofs.Common.{ap, ◌∙◌, ◌++◌, ◌∷◌, []}
use Rattle.pc_delta.proofs.Digesting.{listing_start, listing_on, listing_not_void, listing_valid, listing_same}
use Rattle.pc_delta.proofs.digest.Digest.of.Goals as goal

pub loop-thread-init : goal.loop-thread-init
loop-thread-init c = listing_start c.args.view.now c.into_iter-thread-iterator.result c.new-entries.result.items (c.into_iter-thread-iterator.ensures.into_iter_gives ∙ c.iter-thread-items.ensures.entries) c.new-entries.ensures.items

pub loop-thread-preserved : goal.loop-thread-preserved
loop-thread-preserved c = listing_on c.args.view.now c.loop-thread.thread-iterator c.next.new.self c.in-Some.thread c.in-Some.held.now c.loop-thread.entries.items c.push.new.self.items c.in_ok-numbers.numbers c.in-Some.ensures.steps c.loop-thread.invariant
    c.in_ok-numbers.ensures.same c.in_ok-numbers.ensures.apart c.known_numbers.ensures.told (c.in_ok-push.ensures.items ∙ ap (λ k. c.loop-thread.entries.items ++ (k, c.in_ok-numbers.numbers) ∷ []) c.index.ensures)

pub of_ascending-requires-clause-not_empty : goal.of_ascending-requires-clause-not_empty
of_ascending-requires-clause-not_empty c = listing_not_void c.args.view.now c.loop-thread.thread-iterator c.loop-thread.entries.items c.loop-thread.invariant

pub invariant_of-result : goal.invariant_of-result
invariant_of-result c = listing_valid c.args.view.now c.loop-thread.thread-iterator c.loop-thread.entries.items c.loop-thread.invariant c.in_ok-numbers-2.numbers c.in_ok-numbers-2.ensures

pub returns-clause-same : goal.returns-clause-same
returns-clause-same c = listing_same c.args.view.now c.loop-thread.thread-iterator c.loop-thread.entries.items c.loop-thread.invariant c.in_ok-numbers-2.numbers c.in_ok-numbers-2.ensures c.in-None.ensures.steps.0

pub returns-clause-of_any_source : goal.returns-clause-of_any_source
returns-clause-of_any_source c = listing_valid c.args.view.now c.loop-thread.thread-iterator c.loop-thread.entries.items c.loop-thread.invariant c.in_ok-numbers-2.numbers c.in_ok-numbers-2.ensures
