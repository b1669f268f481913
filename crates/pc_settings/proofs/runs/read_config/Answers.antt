use Rattle.std.proofs.Common.{subst, sym}
use Rattle.toml.specs.View.{table_view}
use Rattle.pc_settings.specs.SettingsText.{Reads}
use Rattle.pc_settings.proofs.Tellings.{read_as_spelled}
use Rattle.pc_settings.proofs.runs.read_config.Goals as goal

pub returns-in-Ok : goal.returns-in-Ok
returns-in-Ok c =
    subst (λ spelled. Reads spelled c.config_of.result) (sym c.in-Ok.ensures.ok)
    (read_as_spelled (table_view c.in-Ok.table) c.config_of.result c.config_of.ensures)
