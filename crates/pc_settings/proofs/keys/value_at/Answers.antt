use Rattle.std.proofs.Common.{◌≡◌, option_map, subst}
use Rattle.toml.specs.Data.{get_member}
use Rattle.toml.specs.View.{table_view, view}
use Rattle.toml.proofs.Views.{table_get}
use Rattle.pc_settings.proofs.keys.value_at.Goals as goal

pub returns : goal.returns
returns c =
    subst (λ key. option_map (λ value. view value.now) c.get.result ≡ get_member key (table_view c.args.table.now)) c.key.ensures
    (table_get c.get.result c.key.result.now c.args.table.now.entries c.get.ensures.value)
