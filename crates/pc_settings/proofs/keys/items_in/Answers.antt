use Rattle.std.proofs.Common.{◌≡◌, Some, map, rules, sym, ap, ◌∙◌, unwrap_or}
use Rattle.toml.specs.Data.{as_array, no_items}
use Rattle.toml.specs.View.{items_of, view}
use Rattle.pc_settings.specs.Keys.{elements}
use Rattle.pc_settings.proofs.ListsOfKind.{elements_of}
use Rattle.pc_settings.proofs.keys.items_in.Goals as goal

pub returns-in-Some : goal.returns-in-Some
returns-in-Some c =
    let listed : as_array (view c.args.value.now) ≡ Some (items_of (map view c.in-Some.items.now.items)) = search rules in
    ap (map view) c.as_slice.ensures.value ∙ sym (elements_of (map view c.in-Some.items.now.items))
    ∙ sym (ap (λ o. elements (unwrap_or o no_items)) listed)
