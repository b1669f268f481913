use Rattle.std.proofs.Common.{◌++◌, ◌∷◌, [], ap, map, sym, ◌∙◌, append_assoc}
use Rattle.pc_table.proofs.Lists.{mapped_end}
use Rattle.pc_table.specs.Sheets.{name_text}
use Rattle.pc_table.specs.Values.{percentile_name, sum_name, told}
use Rattle.pc_table.proofs.cells.push_waits.Goals as goal

pub returns : goal.returns
returns c =
    let layout = c.args.layout in
    let parts = mapped_end (name_text layout) (percentile_name c.args.which) (told c.args.percents) (sum_name c.args.which) in
    c.in_ok-push_name.ensures ∙ ap (λ names. names ++ name_text layout (sum_name c.args.which) ∷ []) c.in_ok-push_percentiles.ensures
    ∙ append_assoc c.args.names.now (map (λ percent. name_text layout (percentile_name c.args.which percent)) (told c.args.percents)) (name_text layout (sum_name c.args.which) ∷ [])
    ∙ ap (λ more. c.args.names.now ++ more) (sym parts)
