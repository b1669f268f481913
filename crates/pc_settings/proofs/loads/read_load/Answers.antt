use Rattle.toml.specs.Parse.{parse_document}
use Rattle.toml.specs.View.{table_view}
use Rattle.pc_settings.specs.LoadTexts.{AreAsked, choices_in, demand_in, load_faults}
use Rattle.pc_settings.proofs.Tables.{read_known}
use Rattle.pc_settings.proofs.loads.read_load.Goals as goal

pub returns-in-Ok-clause-known : goal.returns-in-Ok-clause-known
returns-in-Ok-clause-known c =
    let table = table_view c.in-Ok.table in
    read_known (parse_document c.args.text.now) table (load_faults table) (AreAsked (demand_in table) (choices_in table)) c.known_load_of.result c.in-Ok.ensures.ok
    c.known_load_of.ensures
