use Rattle.std.proofs.Common.{◌≡◌, sym, ◌∙◌}
use Rattle.toml.specs.View.{table_view}
use Rattle.pc_load.specs.Variants.{or_plain}
use Rattle.pc_settings.specs.LoadTexts.{choices_faults, choices_in}
use Rattle.pc_settings.proofs.Tables.{known_read, unknown_told}
use Rattle.pc_settings.proofs.loads.known_variants_of.Goals as goal

pub returns-in-Some : goal.returns-in-Some
returns-in-Some c =
    let table = table_view c.args.table.now in
    unknown_told table (choices_faults table) c.in-Some.unknown (sym c.first_unknown.ensures ∙ c.in-Some.is)

pub returns-in-None : goal.returns-in-None
returns-in-None c =
    let table = table_view c.args.table.now in
    known_read table (choices_faults table) (λ variants. variants ≡ or_plain (choices_in table)) c.variants_of.result (sym c.first_unknown.ensures ∙ c.in-None.is) c.variants_of.ensures
