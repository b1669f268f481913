use Rattle.std.proofs.Common.{◌≡◌, Some, None, true, false, map, rules, sym, ◌∙◌}
use Rattle.toml.specs.Data.{as_table, as_array, no_members}
use Rattle.toml.specs.View.{items_of, view}
use Rattle.pc_settings.specs.Inner.Values.{are_tables}
use Rattle.pc_settings.proofs.ListsOfKind.{all_of_kind, not_of_kind, list_is}
use Rattle.pc_settings.proofs.keys.tables_in.Goals as goal

pub returns-then-are_tables : goal.returns-then-are_tables
returns-then-are_tables c =
    let items = c.as_slice-items.result.now in
    let listed : as_array (view c.args.value.now) ≡ Some (items_of (map view c.in-Some.items.now.items)) = search rules in
    let array : as_array (view c.args.value.now) ≡ Some (items_of (map view items)) = rw c.as_slice-items.ensures.value listed in
    let all : are_tables items ≡ true = sym c.are_tables.ensures ∙ c.if-are_tables.true in
    (all, list_is as_table (view c.args.value.now) items _ array (all_of_kind as_table no_members items all))

pub returns-else-are_tables : goal.returns-else-are_tables
returns-else-are_tables c =
    let items = c.as_slice-items.result.now in
    let listed : as_array (view c.args.value.now) ≡ Some (items_of (map view c.in-Some.items.now.items)) = search rules in
    let array : as_array (view c.args.value.now) ≡ Some (items_of (map view items)) = rw c.as_slice-items.ensures.value listed in
    let not_all : are_tables items ≡ false = sym c.are_tables.ensures ∙ c.if-are_tables.false in
    list_is as_table (view c.args.value.now) items None array (not_of_kind as_table items not_all)
