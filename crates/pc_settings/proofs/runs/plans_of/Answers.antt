use Rattle.std.proofs.Common.{◌≡◌, ◌⊎◌, [], ◌∷◌, List, Ok, Err, inl, inr, sym, ap, ◌∙◌, map, rules}
use Rattle.std.proofs.lemmas.List.{map-append}
use Rattle.pc_threads.specs.Settings.{Plan, plan_of}
use Rattle.pc_threads.specs.declared.settings.plans.Step.{Step}
use Rattle.pc_settings.specs.declared.runs.SettingsFault.TheVariants.{OutOfMemory}
use Rattle.pc_settings.specs.declared.shared_keys.ThreadKeys.{ThreadKeys}
use Rattle.pc_settings.specs.Inner.SharedKeys.{told}
use Rattle.pc_settings.specs.Inner.Readings.{Read, and_then, each, read_plan}
use Rattle.pc_settings.proofs.Readings.{turn, stop}
use Rattle.pc_settings.proofs.runs.plans_of.Goals as goal

abbrev finished : ThreadKeys → List Step → Read Plan
finished draft steps = Ok (record { queue = draft.queue; mask = draft.mask; steps = steps })

pub returns-in_err-steps : goal.returns-in_err-steps
returns-in_err-steps c =
    let draft = c.index-drafts-thread.result in
    let fault = c.in_err-steps.field-0.0 in
    let is : c.from_residual.result ≡ Err fault = search rules in
    let answer : (each read_plan 0 (map told c.args.drafts.now) ≡ Err fault) ⊎ (fault ≡ OutOfMemory) =
    elim c.in_err-steps.ensures [
      | inl h ↦ inl (stop told read_plan c.args.drafts.now c.loop-thread.thread draft (map plan_of c.loop-thread.plans.items) fault
          c.loop-thread-test.true c.index-drafts-thread.is c.loop-thread.invariant (ap (λ r. and_then r (finished draft)) h))
      | inr h ↦ inr h
    ] in
    rw is answer

pub loop-thread-preserved : goal.loop-thread-preserved
loop-thread-preserved c =
    let draft = c.index-drafts-thread.result in
    let plan = c.with_steps.result in
    turn told read_plan c.args.drafts.now c.loop-thread.thread draft (map plan_of c.loop-thread.plans.items) (plan_of plan)
    c.loop-thread-test.true c.index-drafts-thread.is c.loop-thread.invariant
    (ap (λ r. and_then r (finished draft)) c.in_ok-steps.ensures ∙ ap (λ p. Ok p) (sym c.with_steps.ensures))
    ∙ ap (λ xs. Ok xs) (sym (ap (map plan_of) c.in_ok-push.ensures.items ∙ map-append plan_of c.loop-thread.plans.items (plan ∷ [])))
