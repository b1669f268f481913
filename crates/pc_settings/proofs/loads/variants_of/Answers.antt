use Rattle.std.proofs.Common.{◌≡◌, Err, ap, ◌∙◌, map, rules}
use Rattle.toml.specs.View.{table_view}
use Rattle.pc_load.specs.Variants.{choice_in}
use Rattle.pc_settings.proofs.Tables.{choices_told, choices_read}
use Rattle.pc_settings.proofs.loads.variants_of.Goals as goal

pub returns-in_err-choices : goal.returns-in_err-choices
returns-in_err-choices c =
    let fault = c.in_err-choices.field-0.0 in
    let is : c.from_residual.result ≡ Err fault = search rules in
    rw is (choices_told (table_view c.args.table.now) fault c.in_err-choices.ensures)

pub returns : goal.returns
returns c =
    choices_read (table_view c.args.table.now) (map choice_in c.as_slice.result.now) c.variants_asked.result c.in_ok-choices.ensures.0
    (ap (map choice_in) c.as_slice.ensures.value ∙ c.in_ok-choices.ensures.1) c.variants_asked.ensures
