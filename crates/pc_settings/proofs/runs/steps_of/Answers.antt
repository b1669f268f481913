use Rattle.std.proofs.Common.{◌≡◌, Some, None, Ok, ok_or, inl, sym, ap, ◌∙◌}
use Rattle.pc_settings.specs.Steps.{read_run_step}
use Rattle.pc_settings.specs.declared.runs.SettingsFault.TheVariants.{BadStep}
use Rattle.pc_settings.specs.Inner.Readings.{read_text}
use Rattle.pc_settings.specs.Inner.Values.{text_in}
use Rattle.pc_settings.proofs.Readings.{turn, stop}
use Rattle.pc_settings.proofs.runs.steps_of.Goals as goal

pub returns-in-None : goal.returns-in-None
returns-in-None c =
    let fault = BadStep c.args.thread c.loop-step.step in
    let no : read_run_step (text_in c.index-texts-step.result) ≡ None = sym c.run_step_in.ensures ∙ c.in-None.is in
    inl (stop text_in (read_text c.args.thread) c.args.texts.now c.loop-step.step c.index-texts-step.result c.loop-step.steps.items fault c.loop-step-test.true c.index-texts-step.is c.loop-step.invariant
    (ap (λ o. ok_or o fault) no))

pub loop-step-preserved : goal.loop-step-preserved
loop-step-preserved c =
    let fault = BadStep c.args.thread c.loop-step.step in
    let yes : read_run_step (text_in c.index-texts-step.result) ≡ Some c.in-Some.read = sym c.run_step_in.ensures ∙ c.in-Some.is in
    turn text_in (read_text c.args.thread) c.args.texts.now c.loop-step.step c.index-texts-step.result c.loop-step.steps.items c.in-Some.read
    c.loop-step-test.true c.index-texts-step.is c.loop-step.invariant (ap (λ o. ok_or o fault) yes)
    ∙ ap (λ xs. Ok xs) (sym c.in_ok-push-in-Some.ensures.items)
