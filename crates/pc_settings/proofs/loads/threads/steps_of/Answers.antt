use Rattle.std.proofs.Common.{◌≡◌, Some, None, [], ◌∷◌, inl, sym, ap, ◌∙◌}
use Rattle.pc_settings.specs.Keys.{first_some, unless}
use Rattle.pc_settings.specs.Steps.{read_step}
use Rattle.pc_settings.specs.declared.loads.LoadTextFault.TheVariants.{BadStep}
use Rattle.pc_settings.specs.LoadTexts.{text_fault}
use Rattle.pc_settings.specs.Inner.Values.{text_in}
use Rattle.pc_settings.proofs.Stages.{turn, stop, filter_on}
use Rattle.pc_settings.proofs.loads.threads.steps_of.Goals as goal

pub returns-in-None : goal.returns-in-None
returns-in-None c =
    let fault = BadStep c.args.thread c.loop-step.step in
    let no : read_step (text_in c.index-texts-step.result) ≡ None = sym c.step_in.ensures ∙ c.in-None.is in
    inl (stop text_in (text_fault c.args.thread) c.args.texts.now c.loop-step.step c.index-texts-step.result fault c.loop-step-test.true c.index-texts-step.is
    c.loop-step.invariant.0 (ap (λ o. first_some (unless o fault ∷ [])) no))

pub loop-step-preserved : goal.loop-step-preserved
loop-step-preserved c =
    let fault = BadStep c.args.thread c.loop-step.step in
    let yes : read_step (text_in c.index-texts-step.result) ≡ Some c.in-Some.read = sym c.step_in.ensures ∙ c.in-Some.is in (
      turn text_in (text_fault c.args.thread) c.args.texts.now c.loop-step.step c.index-texts-step.result c.loop-step-test.true c.index-texts-step.is
          c.loop-step.invariant.0 (ap (λ o. first_some (unless o fault ∷ [])) yes),
      c.in_ok-push-in-Some.ensures.items
          ∙ filter_on text_in read_step c.args.texts.now c.loop-step.step c.index-texts-step.result c.loop-step.steps.items c.in-Some.read
          c.loop-step-test.true c.index-texts-step.is c.loop-step.invariant.1 yes,
    )
