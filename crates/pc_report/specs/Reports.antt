-- The picture of a run's report.
use Rattle.std.specs.Prelude.{◌≡◌, ℕ, List, ◌++◌, codes, decimal}
use Rattle.pc_threads.specs.declared.report.LoadReport.{LoadReport}
use Rattle.pc_pen.specs.Pictures.{AreMarks, picture_text}

-- `threads N, messages N, commits N, ran N`
abbrev pub report_title : LoadReport → List ℕ
report_title report =
    codes "threads " ++ (decimal report.threads ++ (codes ", messages " ++ (decimal report.messages
    ++ (codes ", commits " ++ (decimal report.commits ++ (codes ", ran " ++ decimal report.ran))))))

-- The picture of a report: it tells the report's totals, and has marks beside
pub record IsPictureOfReport (report : LoadReport) (written : List ℕ) : Type 0 where
  pub width : ℕ
  pub height : ℕ
  pub marks : List ℕ
  pub are_marks : AreMarks marks
  pub text : written ≡ picture_text width height (report_title report) marks
