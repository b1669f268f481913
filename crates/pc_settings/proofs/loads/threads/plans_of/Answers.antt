use Rattle.std.proofs.Common.{◌≡◌, [], ◌∷◌, Err, inl, inr, ap, ◌∙◌, map, rules}
use Rattle.std.proofs.lemmas.List.{map-append}
use Rattle.pc_load.specs.Loads.{drafted}
use Rattle.pc_settings.specs.Keys.{of_each}
use Rattle.pc_settings.specs.LoadTexts.{IsFault, need_told, step_faults}
use Rattle.pc_settings.specs.Inner.Drafts.{told}
use Rattle.pc_settings.proofs.Stages.{turn, stop, map_on}
use Rattle.pc_settings.proofs.loads.threads.plans_of.Goals as goal

pub returns-in_err-plan_of : goal.returns-in_err-plan_of
returns-in_err-plan_of c =
    let fault = c.in_err-plan_of.field-0.0 in
    let is : c.from_residual.result ≡ Err fault = search rules in
    let answer : IsFault (of_each step_faults 0 (map told c.args.drafts.now)) fault =
    elim c.in_err-plan_of.ensures [
      | inl h ↦ inl (stop told step_faults c.args.drafts.now c.loop-thread.thread c.index-drafts-thread.result fault c.loop-thread-test.true c.index-drafts-thread.is c.loop-thread.invariant.0 h)
      | inr h ↦ inr h
    ] in
    rw is answer

pub loop-thread-preserved : goal.loop-thread-preserved
loop-thread-preserved c =
    let plan = c.in_ok-plan_of.field-0 in (
      turn told step_faults c.args.drafts.now c.loop-thread.thread c.index-drafts-thread.result
          c.loop-thread-test.true c.index-drafts-thread.is c.loop-thread.invariant.0 c.in_ok-plan_of.ensures.0,
      ap (map drafted) c.in_ok-push.ensures.items ∙ map-append drafted c.loop-thread.plans.items (plan ∷ [])
          ∙ map_on told need_told c.args.drafts.now c.loop-thread.thread c.index-drafts-thread.result (map drafted c.loop-thread.plans.items) (drafted plan)
          c.loop-thread-test.true c.index-drafts-thread.is c.loop-thread.invariant.1 c.in_ok-plan_of.ensures.1,
    )
