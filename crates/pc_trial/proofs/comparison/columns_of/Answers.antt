use Rattle.std.proofs.Common.{◌∙◌, ◌++◌, ◌∷◌, [], take, ap, sym, subst}
use Rattle.std.specs.List.{AllZip}
use Rattle.std.proofs.lemmas.List.{take_more}
use Rattle.pc_trial.proofs.Played.{zip_push}
use Rattle.pc_trial.specs.Comparing.{IsRunOf}
use Rattle.pc_trial.proofs.comparison.columns_of.Goals as goal

pub loop-variant-preserved : goal.loop-variant-preserved
loop-variant-preserved g c =
    let those = take c.loop-variant.variant-index c.args.variants.now in
    let one : IsRunOf c.args.load.now c.variant-item.result c.in_ok-column.column = c.in_ok-column.ensures.run in
    let more = take_more c.args.variants.now c.loop-variant.variant-index c.variant-item.result c.loop-variant-test.true
    ∙ ap (λ variant. those ++ variant ∷ []) (sym c.variant-item.is) in
    let items = (c.in_ok-push.ensures).items in
    let both = zip_push (IsRunOf c.args.load.now) those c.loop-variant.columns.items c.variant-item.result c.in_ok-column.column c.loop-variant.invariant one in
    subst (λ variants. AllZip (IsRunOf c.args.load.now) variants c.push.new.self.items) (sym more)
    (subst (AllZip (IsRunOf c.args.load.now) (those ++ c.variant-item.result ∷ [])) (sym items) both)
