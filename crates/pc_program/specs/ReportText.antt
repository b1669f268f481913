-- A run's report, as text or as a picture.
use Rattle.std.specs.Prelude.{ℕ, List, [], ◌∷◌, ◌++◌, Option, codes, decimal, flat_map}
use Rattle.std.specs.Io.KnownBytes.{Appends}
use Rattle.pc_report.specs.Reports.{IsPictureOfReport}
use Rattle.pc_threads.specs.declared.report.LoadReport.{LoadReport}
use Rattle.pc_threads.specs.declared.report.row.Row.{Row}
use Rattle.pc_program.specs.declared.report.ReportForm.{ReportForm}
use Rattle.pc_program.specs.declared.report.ReportForm.TheVariants.{Totals, EachCpu, EachRefusal, Picture}

-- a text, and a line feed
abbrev pub text_line : List ℕ → List ℕ
text_line text = text ++ 10 ∷ []

-- what the whole run came to
abbrev pub totals_text : LoadReport → List ℕ
totals_text report =
    text_line (codes "threads " ++ decimal report.threads)
    ++ (text_line (codes "messages " ++ decimal report.messages)
    ++ (text_line (codes "commits " ++ decimal report.commits)
    ++ text_line (codes "ran " ++ decimal report.ran)))

-- what an agent counted
abbrev pub row_text : Row → List ℕ
row_text row =
    codes "cpu " ++ (decimal row.cpu ++ (codes " taken " ++ (decimal row.taken
    ++ (codes " commits " ++ (decimal row.commits ++ (codes " steals " ++ (decimal row.steals
    ++ (codes " stale " ++ (decimal row.stale ++ (codes " pending " ++ (decimal row.pending
    ++ (codes " other " ++ decimal row.other))))))))))))

-- that, and what it was refused by name
unfoldable pub refusals_row_text : Row → List ℕ
refusals_row_text row =
    row_text row ++ (codes " Busy " ++ (decimal row.busy ++ (codes " NothingReady " ++ (decimal row.nothing_ready
    ++ (codes " NothingToSteal " ++ (decimal row.nothing_to_steal ++ (codes " Dead " ++ decimal row.dead)))))))

-- the same, a line for each CPU, in order
abbrev pub refusals_rows_text : List Row → List ℕ
refusals_rows_text rows = flat_map (λ row. text_line (refusals_row_text row)) rows

-- a line for each CPU, in order
abbrev pub rows_text : List Row → List ℕ
rows_text rows = flat_map (λ row. text_line (row_text row)) rows

-- the report was written in this form
abbrev pub IsReport : ReportForm → LoadReport → (old new : Option (List ℕ)) → Type 0
IsReport Totals report old new = Appends old new (totals_text report)
IsReport EachCpu report old new = Appends old new (totals_text report ++ rows_text report.rows.items)
IsReport EachRefusal report old new = Appends old new (totals_text report ++ refusals_rows_text report.rows.items)
IsReport Picture report old new = (written : List ℕ) × IsPictureOfReport report written × Appends old new written
