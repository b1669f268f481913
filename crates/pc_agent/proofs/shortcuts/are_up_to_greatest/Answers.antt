use Rattle.std.proofs.Common.{◌∷◌, ◌++◌, [], take, sym, ap, subst, ◌∙◌}
use Rattle.std.proofs.lemmas.List.{take_all, take_more}
use Rattle.pc_run_queue.proofs.Order.{up_to_push}
use Rattle.pc_run_queue.specs.Runs.{AreUpTo}
use Rattle.pc_run_queue.specs.declared.run_queue.TheConstants.{GREATEST_RANK}
use Rattle.pc_agent.proofs.shortcuts.are_up_to_greatest.Goals as goal

pub loop-row-preserved : goal.loop-row-preserved
loop-row-preserved c =
    let rows = c.args.noted.now in
    let place = c.loop-row.row-index in
    let row = c.row-item.result in
    subst (AreUpTo GREATEST_RANK) (ap (λ r. take place rows ++ r ∷ []) c.row-item.is ∙ sym (take_more rows place row c.loop-row-test.true))
    (up_to_push GREATEST_RANK (take place rows) row c.loop-row.invariant c.if-row-gt-GREATEST_RANK.false)

pub returns : goal.returns
returns c = λ _. subst (AreUpTo GREATEST_RANK) (take_all c.loop-row.row-index c.args.noted.now c.loop-row-test.false) c.loop-row.invariant
