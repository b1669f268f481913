use Rattle.std.proofs.Common.{◌==◌, ◌&&◌, not, drop, subst}
use Rattle.pc_delta.specs.Parts.{tells_of}
use Rattle.pc_run_queue.specs.Runs.{runs_in}
use Rattle.pc_agent.specs.Inner.Wanted.{HasAllBut}
use Rattle.pc_agent.proofs.Kept.{one_less}
use Rattle.pc_agent.proofs.shortcuts.keep_told.Goals as goal

pub loop-part-preserved : goal.loop-part-preserved
loop-part-preserved c was =
    let runs = runs_in c.args.view.now c.args.cpu in
    let left = tells_of (drop c.loop-part.part-index c.args.parts.now) in
    one_less c.args.parts.now c.loop-part.part-index c.part-item.result runs c.keep_thread.new.names c.part-item.is c.loop-part-test.true
    (subst (λ name. HasAllBut (λ t. left t && not (name == t)) runs c.keep_thread.new.names) c.thread.ensures (c.in_ok-keep_thread.ensures left (c.loop-part.invariant was)))
