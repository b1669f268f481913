use Rattle.std.proofs.Common.{sym, ◌∙◌, ◌||◌, ap}
use Rattle.pc_view.specs.Views.{pairs_of}
use Rattle.pc_threads.proofs.Merged.{of_run_at, pairs_more}
use Rattle.pc_threads.proofs.book.settling.merge_all.Goals as goal

pub loop-view-init : goal.loop-view-init
loop-view-init c = (λ m. sym (c.new-merged.ensures.nothing m), λ run all. c.new-merged.ensures.of_run run)

pub loop-view-preserved : goal.loop-view-preserved
loop-view-preserved c = (
  λ m.
      pairs_more c.args.views.now c.loop-view.view-index c.view-item.result c.loop-view-test.true c.view-item.is m
      ∙ ap (λ b. b || pairs_of c.view-item.result m) (c.loop-view.invariant.0 m)
      ∙ sym (c.in_ok-merge.ensures.union m),
  λ run all.
      c.in_ok-merge.ensures.of_run run (c.loop-view.invariant.1 run all)
      (of_run_at c.args.views.now c.loop-view.view-index c.view-item.result c.loop-view-test.true c.view-item.is run all),
)
