use Rattle.std.proofs.Common.{◌≡◌}
use Rattle.toml.specs.Parse.{parse_document}
use Rattle.toml.specs.View.{table_view}
use Rattle.pc_load.specs.Variants.{or_plain}
use Rattle.pc_settings.specs.LoadTexts.{choices_faults, choices_in}
use Rattle.pc_settings.proofs.Tables.{read_known}
use Rattle.pc_settings.proofs.loads.read_variants.Goals as goal

pub returns-in-Ok-clause-known : goal.returns-in-Ok-clause-known
returns-in-Ok-clause-known c =
    let table = table_view c.in-Ok.table in
    read_known (parse_document c.args.text.now) table (choices_faults table) (λ variants. variants ≡ or_plain (choices_in table)) c.known_variants_of.result
    c.in-Ok.ensures.ok c.known_variants_of.ensures
