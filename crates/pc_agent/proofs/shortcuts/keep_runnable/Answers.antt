use Rattle.std.proofs.Common.{◌∙◌}
use Rattle.pc_delta.specs.Parts.{tells_of}
use Rattle.pc_run_queue.specs.Runs.{runs_in}
use Rattle.pc_agent.proofs.Kept.{all_kept, none_kept}
use Rattle.pc_agent.proofs.shortcuts.keep_runnable.Goals.{in-None, in-Some}
use Rattle.pc_agent.proofs.shortcuts.keep_runnable.Goals as goal

pub returns-else-not-kept : goal.returns-else-not-kept
returns-else-not-kept c held =
    let runs = runs_in c.args.view.now c.args.cpu in
    elim c.match-runnable.branch [
      | in-Some w ↦
          all_kept (tells_of c.args.parts.now) runs w.keep_told.result w.in-Some.names w.keep_told.new.names c.args.runnable.now c.match-runnable.runnable c.match-runnable.kept w.is_ok-kept.result
          c.if-not-kept.false w.kept-is w.is_ok-kept.ensures.value w.keep_told.ensures w.in-Some.is w.runnable-is held
      | in-None w ↦ none_kept runs c.match-runnable.runnable (w.runnable-is ∙ w.in-None.is)
    ]
