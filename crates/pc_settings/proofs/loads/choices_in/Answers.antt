use Rattle.toml.specs.View.{table_view}
use Rattle.pc_settings.proofs.Tables.{choices_listed}
use Rattle.pc_settings.proofs.loads.choices_in.Goals as goal

pub returns-in-Some : goal.returns-in-Some
returns-in-Some c = choices_listed (table_view c.args.table.now) _ _ c.choices_of.result c.in-Some.ensures.1 c.choices_of.ensures
