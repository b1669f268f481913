-- What was written of a run stays as it is when it is flushed.
use Rattle.std.proofs.Common.{ℕ, ◌≡◌, ◌⊎◌, ◌++◌, List, Option, inl, inr, subst, sym}
use Rattle.std.specs.Io.KnownBytes.{Keeps}
use Rattle.std.proofs.KnownBytes.{Appends-kept}
use Rattle.toml.specs.Data.{Members}
use Rattle.pc_threads.specs.Reports.{AddsUp, TellsItsBook}
use Rattle.pc_threads.specs.declared.report.LoadReport.{LoadReport}
use Rattle.pc_program.specs.Programs.{IsReported}
use Rattle.pc_program.specs.ReportText.{IsReport, refusals_rows_text, rows_text, totals_text}
use Rattle.pc_program.specs.Runs.{DoesWhatIsSpelled}
use Rattle.pc_program.specs.declared.ending.Ending.{Ending}
use Rattle.pc_program.specs.declared.ending.Ending.TheVariants.{CannotRead, Finished}
use Rattle.pc_program.specs.declared.ending.Failure.TheVariants as failure
use Rattle.pc_program.specs.declared.report.ReportForm.{ReportForm}
use Rattle.pc_program.specs.declared.report.ReportForm.TheVariants.{Totals, EachCpu, EachRefusal, Picture}

pub kept : (form : ReportForm) (report : LoadReport) (old mid new : Option (List ℕ)) → IsReport form report old mid → Keeps mid new → IsReport form report old new
kept Totals report old mid new writes keeps = Appends-kept old mid new (totals_text report) writes keeps
kept EachCpu report old mid new writes keeps = Appends-kept old mid new (totals_text report ++ rows_text report.rows.items) writes keeps
kept EachRefusal report old mid new writes keeps = Appends-kept old mid new (totals_text report ++ refusals_rows_text report.rows.items) writes keeps
kept Picture report old mid new writes keeps = (writes.0, writes.1, Appends-kept old mid new writes.0 writes.2 keeps)

pub reported : {B : Type 0} (settings : Option Members) (form : ReportForm) (old mid new : Option (List ℕ)) (report : LoadReport) (ending : Ending)
    → TellsItsBook report → AddsUp report → DoesWhatIsSpelled settings report → IsReport form report old mid → Keeps mid new
    → (ending ≡ CannotRead failure.Write) ⊎ ((ending ≡ Finished) × B) → IsReported settings form old new ending
reported settings form old mid new report ending tells adds_up does writes keeps (inl failed) =
    subst (λ e. IsReported settings form old new e) (sym failed) tt
reported settings form old mid new report ending tells adds_up does writes keeps (inr flushed) =
    subst (λ e. IsReported settings form old new e) (sym flushed.0)
    (report, tells, adds_up, does, kept form report old mid new writes keeps)
