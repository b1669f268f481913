use Rattle.std.proofs.Common.{◌++◌, ◌∷◌, [], ap, map, sym, ◌∙◌, append_assoc}
use Rattle.std.specs.Option.{option_map}
use Rattle.std.proofs.Common.{decimal}
use Rattle.pc_table.proofs.Lists.{mapped_end, sum_same}
use Rattle.pc_table.specs.Percentiles.{percentile}
use Rattle.pc_table.specs.Sheets.{percentile_text, value_text}
use Rattle.pc_table.specs.Values.{sum_of, told}
use Rattle.pc_table.proofs.values.push_ascending.Goals as goal

pub returns : goal.returns
returns c = λ ticks perm.
    let layout = c.args.layout in
    let percents = told c.args.percents in
    let front = c.in_ok-push_percentiles.ensures ticks perm in
    let total = ap (λ sum. map (percentile_text layout ticks) percents ++ value_text layout sum ∷ []) (sum_same c.args.which.level ticks c.args.ascending.now perm) in
    let parts = mapped_end (value_text layout) (λ percent. option_map decimal (percentile percent ticks)) percents (sum_of c.args.which.level ticks) in
    c.in_ok-push_sum.ensures ∙ ap (λ cells. cells ++ value_text layout (sum_of c.args.which.level c.args.ascending.now) ∷ []) front
    ∙ append_assoc c.args.cells.now (map (percentile_text layout ticks) percents) (value_text layout (sum_of c.args.which.level c.args.ascending.now) ∷ [])
    ∙ ap (λ more. c.args.cells.now ++ more) (total ∙ sym parts)
