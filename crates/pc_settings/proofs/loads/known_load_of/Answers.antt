use Rattle.std.proofs.Common.{sym, ◌∙◌}
use Rattle.toml.specs.View.{table_view}
use Rattle.pc_settings.specs.LoadTexts.{AreAsked, choices_in, demand_in, load_faults}
use Rattle.pc_settings.proofs.Tables.{known_read, unknown_told}
use Rattle.pc_settings.proofs.loads.known_load_of.Goals as goal

pub returns-in-Some : goal.returns-in-Some
returns-in-Some c =
    let table = table_view c.args.table.now in
    unknown_told table (load_faults table) c.in-Some.unknown (sym c.first_unknown.ensures ∙ c.in-Some.is)

pub returns-in-None : goal.returns-in-None
returns-in-None c =
    let table = table_view c.args.table.now in
    known_read table (load_faults table) (AreAsked (demand_in table) (choices_in table)) c.load_of.result (sym c.first_unknown.ensures ∙ c.in-None.is) c.load_of.ensures
