use Rattle.std.proofs.Common.{◌∙◌, Bool, ap, sym, bytes_eq}
use Rattle.std.proofs.lemmas.List.Quantifiers.{position-Some}
use Rattle.pc_load.specs.declared.variant.Variant.{Variant}
use Rattle.pc_trial.proofs.Played.{none_there}
use Rattle.pc_trial.proofs.script.find.Goals as goal

pub returns-in-Some : goal.returns-in-Some
returns-in-Some c =
    let p : Variant → Bool = λ variant. bytes_eq variant.name.items c.args.name.now in
    let facts = position-Some p c.args.variants.now c.in-Some.place c.index-variants-place.result (sym c.in-Some.ensures) in
    ((c.in-Some.place, facts.0, sym c.index-variants-place.is), ap p c.index-variants-place.is ∙ facts.1)

pub returns-in-None : goal.returns-in-None
returns-in-None c = none_there (λ variant. bytes_eq variant.name.items c.args.name.now) c.args.variants.now (sym c.in-None.ensures)
