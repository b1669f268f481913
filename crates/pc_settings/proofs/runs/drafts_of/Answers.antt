use Rattle.std.proofs.Common.{◌≡◌, ◌⊎◌, [], ◌∷◌, Ok, Err, inl, inr, sym, ap, ◌∙◌, map, rules}
use Rattle.std.proofs.lemmas.List.{map-append}
use Rattle.pc_settings.specs.declared.runs.SettingsFault.TheVariants.{OutOfMemory}
use Rattle.pc_settings.specs.Inner.SharedKeys.{told}
use Rattle.pc_settings.specs.Inner.Readings.{each, read_draft}
use Rattle.pc_settings.specs.Inner.Values.{table_in}
use Rattle.pc_settings.proofs.Readings.{turn, stop}
use Rattle.pc_settings.proofs.runs.drafts_of.Goals as goal

pub returns-in_err-draft_of : goal.returns-in_err-draft_of
returns-in_err-draft_of c =
    let fault = c.in_err-draft_of.field-0.0 in
    let is : c.from_residual.result ≡ Err fault = search rules in
    let answer : (each read_draft 0 (map table_in c.args.items.now) ≡ Err fault) ⊎ (fault ≡ OutOfMemory) =
    elim c.in_err-draft_of.ensures [
      | inl h ↦ inl (stop table_in read_draft c.args.items.now c.loop-item.item-index c.item-item.result (map told c.loop-item.drafts.items) fault c.loop-item-test.true c.item-item.is c.loop-item.invariant h)
      | inr h ↦ inr h
    ] in
    rw is answer

pub loop-item-preserved : goal.loop-item-preserved
loop-item-preserved c =
    turn table_in read_draft c.args.items.now c.loop-item.item-index c.item-item.result (map told c.loop-item.drafts.items) (told c.in_ok-draft_of.field-0)
    c.loop-item-test.true c.item-item.is c.loop-item.invariant c.in_ok-draft_of.ensures
    ∙ ap (λ xs. Ok xs) (sym (ap (map told) c.in_ok-push.ensures.items ∙ map-append told c.loop-item.drafts.items (c.in_ok-draft_of.field-0 ∷ [])))
