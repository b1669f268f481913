use Rattle.std.proofs.Common.{◌≡◌, Some, None, true, false, [], map, rules, sym, ◌∙◌}
use Rattle.toml.specs.Data.{as_str, as_array}
use Rattle.toml.specs.View.{items_of, view}
use Rattle.pc_settings.specs.Inner.Values.{are_texts}
use Rattle.pc_settings.proofs.ListsOfKind.{all_of_kind, not_of_kind, list_is}
use Rattle.pc_settings.proofs.keys.texts_in.Goals as goal

pub returns-then-are_texts : goal.returns-then-are_texts
returns-then-are_texts c =
    let items = c.as_slice-items.result.now in
    let listed : as_array (view c.args.value.now) ≡ Some (items_of (map view c.in-Some.items.now.items)) = search rules in
    let array : as_array (view c.args.value.now) ≡ Some (items_of (map view items)) = rw c.as_slice-items.ensures.value listed in
    let all : are_texts items ≡ true = sym c.are_texts.ensures ∙ c.if-are_texts.true in
    (all, list_is as_str (view c.args.value.now) items _ array (all_of_kind as_str [] items all))

pub returns-else-are_texts : goal.returns-else-are_texts
returns-else-are_texts c =
    let items = c.as_slice-items.result.now in
    let listed : as_array (view c.args.value.now) ≡ Some (items_of (map view c.in-Some.items.now.items)) = search rules in
    let array : as_array (view c.args.value.now) ≡ Some (items_of (map view items)) = rw c.as_slice-items.ensures.value listed in
    let not_all : are_texts items ≡ false = sym c.are_texts.ensures ∙ c.if-are_texts.false in
    list_is as_str (view c.args.value.now) items None array (not_of_kind as_str items not_all)
