use Rattle.std.proofs.Common.{◌≡◌, [], ◌∷◌, Err, inl, inr, ap, ◌∙◌, map, rules}
use Rattle.std.proofs.lemmas.List.{map-append}
use Rattle.pc_settings.specs.Keys.{of_each}
use Rattle.pc_settings.specs.LoadTexts.{IsFault, choice_faults, choice_told}
use Rattle.pc_load.specs.Variants.{choice_in}
use Rattle.pc_settings.specs.Inner.Values.{table_in}
use Rattle.pc_settings.proofs.Stages.{turn, stop, map_on}
use Rattle.pc_settings.proofs.loads.variants.choices_of.Goals as goal

pub returns-in_err-choice_of : goal.returns-in_err-choice_of
returns-in_err-choice_of c =
    let fault = c.in_err-choice_of.field-0.0 in
    let is : c.from_residual.result ≡ Err fault = search rules in
    let answer : IsFault (of_each (λ place. choice_faults) 0 (map table_in c.args.items.now)) fault =
    elim c.in_err-choice_of.ensures [
      | inl h ↦ inl (stop table_in (λ place. choice_faults) c.args.items.now c.loop-item.item-index c.item-item.result fault c.loop-item-test.true c.item-item.is c.loop-item.invariant.0 h)
      | inr h ↦ inr h
    ] in
    rw is answer

pub loop-item-preserved : goal.loop-item-preserved
loop-item-preserved c =
    let draft = c.in_ok-choice_of.field-0 in (
      turn table_in (λ place. choice_faults) c.args.items.now c.loop-item.item-index c.item-item.result
          c.loop-item-test.true c.item-item.is c.loop-item.invariant.0 c.in_ok-choice_of.ensures.0,
      ap (map choice_in) c.in_ok-push.ensures.items ∙ map-append choice_in c.loop-item.choices.items (draft ∷ [])
          ∙ map_on table_in choice_told c.args.items.now c.loop-item.item-index c.item-item.result (map choice_in c.loop-item.choices.items) (choice_in draft)
          c.loop-item-test.true c.item-item.is c.loop-item.invariant.1 c.in_ok-choice_of.ensures.1,
    )
