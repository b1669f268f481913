-- The picture of a report.
use Rattle.std.proofs.Common.{ℕ, List, Option, Result, Ok, Err, OnOk, refl}
use Rattle.std.specs.Io.KnownBytes.{Appends}
use Rattle.pc_report.specs.Reports.{IsPictureOfReport, report_title}
use Rattle.pc_pen.specs.Drawn.{Pictures}
use Rattle.pc_threads.specs.declared.report.LoadReport.{LoadReport}

pub report_ok : {A E : Type 0} (answer : Result A E) (report : LoadReport) (before after : Option (List ℕ))
    → OnOk answer (Pictures (report_title report) before after)
    → OnOk answer ((written : List ℕ) × IsPictureOfReport report written × Appends before after written)
report_ok (Ok x) report before after drawn = (
  _,
  record { width = drawn.width; height = drawn.height; marks = drawn.marks; are_marks = drawn.are_marks; text = refl },
  drawn.written,
)
report_ok (Err e) report before after drawn = tt
