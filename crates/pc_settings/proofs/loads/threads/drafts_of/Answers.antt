use Rattle.std.proofs.Common.{◌≡◌, [], ◌∷◌, Err, inl, inr, ap, ◌∙◌, map, rules}
use Rattle.std.proofs.lemmas.List.{map-append}
use Rattle.pc_settings.specs.Keys.{of_each}
use Rattle.pc_settings.specs.LoadTexts.{IsFault, thread_faults, told_in}
use Rattle.pc_settings.specs.Inner.Drafts.{told}
use Rattle.pc_settings.specs.Inner.Values.{table_in}
use Rattle.pc_settings.proofs.Stages.{turn, stop, map_on}
use Rattle.pc_settings.proofs.loads.threads.drafts_of.Goals as goal

pub returns-in_err-draft_of : goal.returns-in_err-draft_of
returns-in_err-draft_of c =
    let fault = c.in_err-draft_of.field-0.0 in
    let is : c.from_residual.result ≡ Err fault = search rules in
    let answer : IsFault (of_each (λ place. thread_faults) 0 (map table_in c.args.items.now)) fault =
    elim c.in_err-draft_of.ensures [
      | inl h ↦ inl (stop table_in (λ place. thread_faults) c.args.items.now c.loop-item.item-index c.item-item.result fault c.loop-item-test.true c.item-item.is c.loop-item.invariant.0 h)
      | inr h ↦ inr h
    ] in
    rw is answer

pub loop-item-preserved : goal.loop-item-preserved
loop-item-preserved c =
    let draft = c.in_ok-draft_of.field-0 in (
      turn table_in (λ place. thread_faults) c.args.items.now c.loop-item.item-index c.item-item.result
          c.loop-item-test.true c.item-item.is c.loop-item.invariant.0 c.in_ok-draft_of.ensures.0,
      ap (map told) c.in_ok-push.ensures.items ∙ map-append told c.loop-item.drafts.items (draft ∷ [])
          ∙ map_on table_in told_in c.args.items.now c.loop-item.item-index c.item-item.result (map told c.loop-item.drafts.items) (told draft)
          c.loop-item-test.true c.item-item.is c.loop-item.invariant.1 c.in_ok-draft_of.ensures.1,
    )
