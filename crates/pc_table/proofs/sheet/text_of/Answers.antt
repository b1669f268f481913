use Rattle.std.proofs.Common.{◌≡◌, ◌∙◌, List, map, ap}
use Rattle.pc_table.specs.Rows.{rows_of}
use Rattle.pc_table.specs.Sheets.{cells_of, names_of, percents_in, sheet_text}
use Rattle.pc_table.specs.declared.rows.Rows.{Rows}
use Rattle.pc_table.proofs.sheet.text_of.Goals as goal

pub returns : goal.returns
returns c =
    let layout = c.args.form.layout in
    let columns = c.args.columns.now in
    let rows : List Rows = rows_of (percents_in layout) c.args.form.per_cpu c.args.load.now columns in
    let found : c.in_ok-rows.rows.items ≡ rows =
    c.in_ok-rows.ensures ∙ ap (λ percents. rows_of percents c.args.form.per_cpu c.args.load.now columns) c.percents_in.ensures in
    let names = c.in_ok-names.ensures ∙ ap (names_of layout) (c.as_slice.ensures.value ∙ found) in
    let strips = c.in_ok-strips.ensures ∙ ap (λ those. map (cells_of layout those) columns) (c.as_slice-2.ensures.value ∙ found) in
    c.in_ok-text.ensures
    ∙ ap (λ texts. sheet_text layout texts c.as_slice-3.result.now) names
    ∙ ap (sheet_text layout (names_of layout rows)) (c.as_slice-3.ensures.value ∙ strips)
