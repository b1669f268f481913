use Rattle.std.proofs.Common.{sym, ◌∙◌}
use Rattle.toml.specs.View.{table_view}
use Rattle.pc_settings.proofs.Stages.{through, told_first}
use Rattle.pc_settings.proofs.UnknownKeys.{of_top, of_threads, of_restarts, behind_top, behind_threads, behind_restarts}
use Rattle.pc_settings.proofs.unknown.first_unknown.Goals as goal

pub returns-in-Some : goal.returns-in-Some
returns-in-Some c =
    let table = table_view c.args.table.now in
    sym (told_first (of_top table) (behind_top table) c.in-Some.unknown (sym c.first_in.ensures ∙ c.in-Some.is))

pub returns-in-Some-first_listed : goal.returns-in-Some-first_listed
returns-in-Some-first_listed c =
    let table = table_view c.args.table.now in
    sym (through (of_top table) (behind_top table) (sym c.first_in.ensures ∙ c.in_default.is)
    ∙ told_first (of_threads table) (behind_threads table) c.in-Some-first_listed.unknown (sym c.first_listed.ensures ∙ c.in-Some-first_listed.is))

pub returns-in-Some-first_listed-2 : goal.returns-in-Some-first_listed-2
returns-in-Some-first_listed-2 c =
    let table = table_view c.args.table.now in
    sym (through (of_top table) (behind_top table) (sym c.first_in.ensures ∙ c.in_default.is)
    ∙ through (of_threads table) (behind_threads table) (sym c.first_listed.ensures ∙ c.in_default-first_listed.is)
    ∙ told_first (of_restarts table) (behind_restarts table) c.in-Some-first_listed-2.unknown (sym c.first_listed-2.ensures ∙ c.in-Some-first_listed-2.is))

pub returns : goal.returns
returns c =
    let table = table_view c.args.table.now in
    c.first_listed-3.ensures
    ∙ sym (through (of_top table) (behind_top table) (sym c.first_in.ensures ∙ c.in_default.is)
    ∙ through (of_threads table) (behind_threads table) (sym c.first_listed.ensures ∙ c.in_default-first_listed.is)
    ∙ through (of_restarts table) (behind_restarts table) (sym c.first_listed-2.ensures ∙ c.in_default-first_listed-2.is))
