use Rattle.std.proofs.Common.{◌≡◌, Some, None, true, false, map, pos, rules, sym, ◌∙◌}
use Rattle.toml.specs.Data.{as_integer, as_array}
use Rattle.toml.specs.View.{items_of, view}
use Rattle.pc_settings.specs.Inner.Values.{are_integers}
use Rattle.pc_settings.proofs.ListsOfKind.{all_of_kind, not_of_kind, list_is}
use Rattle.pc_settings.proofs.keys.integers_in.Goals as goal

pub returns-then-are_integers : goal.returns-then-are_integers
returns-then-are_integers c =
    let items = c.as_slice-items.result.now in
    let listed : as_array (view c.args.value.now) ≡ Some (items_of (map view c.in-Some.items.now.items)) = search rules in
    let array : as_array (view c.args.value.now) ≡ Some (items_of (map view items)) = rw c.as_slice-items.ensures.value listed in
    let all : are_integers items ≡ true = sym c.are_integers.ensures ∙ c.if-are_integers.true in
    (all, list_is as_integer (view c.args.value.now) items _ array (all_of_kind as_integer (pos 0) items all))

pub returns-else-are_integers : goal.returns-else-are_integers
returns-else-are_integers c =
    let items = c.as_slice-items.result.now in
    let listed : as_array (view c.args.value.now) ≡ Some (items_of (map view c.in-Some.items.now.items)) = search rules in
    let array : as_array (view c.args.value.now) ≡ Some (items_of (map view items)) = rw c.as_slice-items.ensures.value listed in
    let not_all : are_integers items ≡ false = sym c.are_integers.ensures ∙ c.if-are_integers.false in
    list_is as_integer (view c.args.value.now) items None array (not_of_kind as_integer items not_all)
