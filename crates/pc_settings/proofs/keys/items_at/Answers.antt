use Rattle.std.proofs.Common.{◌≡◌, Some, map, option_map, option_and_then, unwrap_or, sym, ap, ◌∙◌}
use Rattle.toml.specs.Data.{as_array, as_table, get_member, no_items, no_members}
use Rattle.toml.specs.View.{table_view, view}
use Rattle.pc_settings.specs.Fields.{key_of}
use Rattle.pc_settings.specs.Keys.{elements}
use Rattle.pc_settings.proofs.UnknownKeys.{tables_seen}
use Rattle.pc_settings.proofs.keys.items_at.Goals as goal

pub returns-in-Some : goal.returns-in-Some
returns-in-Some c =
    let found : get_member (key_of c.args.field) (table_view c.args.table.now) ≡ Some (view c.in-Some.value.now) =
    sym c.value_at.ensures ∙ ap (option_map (λ value. view value.now)) c.in-Some.is in
    tables_seen c.items_in.result.now ∙ ap (map (λ value. unwrap_or (as_table value) no_members)) c.items_in.ensures
    ∙ sym (ap (λ o. map (λ value. unwrap_or (as_table value) no_members) (elements (unwrap_or (option_and_then as_array o) no_items))) found)
