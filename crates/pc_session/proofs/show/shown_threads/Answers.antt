use Rattle.std.proofs.Common.{◌∙◌, ◌++◌, ◌∷◌, [], ap}
use Rattle.std.specs.FinMap as map
use Rattle.pc_session.proofs.Showing.{shown_start, shown_on, shown_end}
use Rattle.pc_session.proofs.show.shown_threads.Goals as goal

pub loop-thread-init : goal.loop-thread-init
loop-thread-init c = shown_start (map.entries c.args.view.now.threads) c.into_iter-thread-iterator.result c.new-rows.result (c.into_iter-thread-iterator.ensures.into_iter_gives ∙ c.iter-thread-items.ensures.entries) c.new-rows.ensures

pub loop-thread-preserved : goal.loop-thread-preserved
loop-thread-preserved c =
    shown_on (map.entries c.args.view.now.threads) c.loop-thread.thread-iterator c.next.new.self c.loop-thread.rows c.push.new.self c.in-Some.thread c.in-Some.known.now
    c.in-Some.ensures.steps (c.in_ok-push.ensures.ok ∙ ap (λ row. c.loop-thread.rows ++ row ∷ []) c.in_ok-row_of.ensures) c.loop-thread.invariant

pub returns : goal.returns
returns c = shown_end (map.entries c.args.view.now.threads) c.loop-thread.thread-iterator c.loop-thread.rows c.in-None.ensures.steps.0 c.loop-thread.invariant
