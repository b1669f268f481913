-- What is written of a run and of its script, and that it stays as it is when both are flushed.
use Rattle.std.proofs.Common.{ℕ, ◌≡◌, ◌⊎◌, List, Option, inl, inr, subst, sym}
use Rattle.std.specs.Io.KnownBytes.{Keeps}
use Rattle.std.proofs.KnownBytes.{Appends-kept, Keeps-trans}
use Rattle.toml.specs.Data.{Members}
use Rattle.pc_script.specs.declared.command.Command.{Command}
use Rattle.pc_seeds.specs.declared.ending.Stall.{Stall}
use Rattle.pc_threads.specs.Pages.{Pages}
use Rattle.pc_threads.specs.Reports.{AddsUp, TellsItsBook}
use Rattle.pc_threads.specs.declared.report.LoadReport.{LoadReport}
use Rattle.pc_report.specs.Transcripts.{WritesCalls, lines_text, script_of}
use Rattle.pc_program.proofs.Reporting.{kept}
use Rattle.pc_program.specs.Programs.{IsScriptOfStall, IsScripted, IsUnsettled, IsUnsettledScript, IsWrittenBoth}
use Rattle.pc_program.specs.Runs.{DoesWhatIsSpelled, LeadsAsSpelled}
use Rattle.pc_program.specs.declared.ending.Ending.{Ending}
use Rattle.pc_program.specs.declared.ending.Ending.TheVariants.{Finished, FaultLine, DrawnToFault, CannotRead}
use Rattle.pc_program.specs.declared.ending.Ending.TheVariants.{BadCommandLine, OutOfMemory, Settings, Run, CannotStart}
use Rattle.pc_program.specs.declared.ending.Ending.TheVariants.{NothingToDraw}
use Rattle.pc_program.specs.declared.ending.Failure.TheVariants as failure
use Rattle.pc_program.specs.declared.ending.Unsettled.{Unsettled}
use Rattle.pc_program.specs.declared.ending.Unsettled.TheVariants as unsettled
use Rattle.pc_program.specs.declared.report.ReportForm.{ReportForm}

-- they are of a run that did what it was asked for
pub both_of_run : (settings : Option Members) (form : ReportForm) (report : LoadReport) (so sn wo wn : Option (List ℕ)) (ending : Ending)
    → TellsItsBook report → AddsUp report → DoesWhatIsSpelled settings report → IsWrittenBoth form report so sn wo wn ending
    → IsScripted settings form so sn wo wn ending
both_of_run settings form report so sn wo wn Finished tells adds_up does both = (report, tells, adds_up, does, both)
both_of_run settings form report so sn wo wn OutOfMemory tells adds_up does both = inr (report, tells, adds_up, does, both)
both_of_run settings form report so sn wo wn (CannotRead failure.Write) tells adds_up does both = tt
both_of_run settings form report so sn wo wn (CannotRead failure.Read) tells adds_up does both = absurd both
both_of_run settings form report so sn wo wn (CannotRead failure.TooLong) tells adds_up does both = absurd both
both_of_run settings form report so sn wo wn (CannotRead failure.NotUtf8) tells adds_up does both = absurd both
both_of_run settings form report so sn wo wn FaultLine tells adds_up does both = absurd both
both_of_run settings form report so sn wo wn (DrawnToFault line) tells adds_up does both = absurd both
both_of_run settings form report so sn wo wn (NothingToDraw missing) tells adds_up does both = absurd both
both_of_run settings form report so sn wo wn BadCommandLine tells adds_up does both = absurd both
both_of_run settings form report so sn wo wn (Settings bad) tells adds_up does both = absurd both
both_of_run settings form report so sn wo wn (Run why) tells adds_up does both = absurd both
both_of_run settings form report so sn wo wn CannotStart tells adds_up does both = absurd both

-- a run that stalled has its script alone, and a run that did not has none
pub stall_of_run : (settings : Option Members) (form : ReportForm) (stall : Stall) (book : Pages) (so sn wo wn : Option (List ℕ)) (ending : Ending)
    → LeadsAsSpelled settings book stall → IsScriptOfStall settings stall so sn ending → Keeps wo wn → IsScripted settings form so sn wo wn ending
stall_of_run settings form stall book so sn wo wn (Run why) leads script keeps = (
  subst (λ told. IsUnsettledScript settings told so sn) (sym script.0) script.1,
  (subst (IsUnsettled settings) (sym script.0) (book, leads), keeps),
)
stall_of_run settings form stall book so sn wo wn OutOfMemory leads script keeps = inl (script, keeps)
stall_of_run settings form stall book so sn wo wn (CannotRead failure.Write) leads script keeps = tt
stall_of_run settings form stall book so sn wo wn (CannotRead failure.Read) leads script keeps = absurd script
stall_of_run settings form stall book so sn wo wn (CannotRead failure.TooLong) leads script keeps = absurd script
stall_of_run settings form stall book so sn wo wn (CannotRead failure.NotUtf8) leads script keeps = absurd script
stall_of_run settings form stall book so sn wo wn Finished leads script keeps = absurd script
stall_of_run settings form stall book so sn wo wn FaultLine leads script keeps = absurd script
stall_of_run settings form stall book so sn wo wn (DrawnToFault line) leads script keeps = absurd script
stall_of_run settings form stall book so sn wo wn (NothingToDraw missing) leads script keeps = absurd script
stall_of_run settings form stall book so sn wo wn BadCommandLine leads script keeps = absurd script
stall_of_run settings form stall book so sn wo wn (Settings bad) leads script keeps = absurd script
stall_of_run settings form stall book so sn wo wn CannotStart leads script keeps = absurd script

calls_kept : (given : List Command) (old mid new : Option (List ℕ)) → WritesCalls given old mid → Keeps mid new → WritesCalls given old new
calls_kept given old mid new writes keeps = (writes.0, writes.1, Appends-kept old mid new (lines_text writes.0) writes.2 keeps)

unsettled_kept : (settings : Option Members) (why : Unsettled) (old mid new : Option (List ℕ)) → IsUnsettledScript settings why old mid → Keeps mid new → IsUnsettledScript settings why old new
unsettled_kept settings (unsettled.Stalled stall) old mid new script keeps =
    (script.0, script.1, calls_kept (script_of script.0) old mid new script.2 keeps)
unsettled_kept settings unsettled.Audit old mid new script keeps = Keeps-trans old mid new script keeps
unsettled_kept settings unsettled.Incomplete old mid new script keeps = Keeps-trans old mid new script keeps
unsettled_kept settings unsettled.Driver old mid new script keeps = Keeps-trans old mid new script keeps
unsettled_kept settings unsettled.GaveUp old mid new script keeps = Keeps-trans old mid new script keeps
unsettled_kept settings unsettled.Unaccounted old mid new script keeps = Keeps-trans old mid new script keeps

-- so a flush of both leaves it
ends_kept : (settings : Option Members) (form : ReportForm) (so sm sn wo wm wn : Option (List ℕ)) (ending : Ending)
    → IsScripted settings form so sm wo wm ending → Keeps sm sn → Keeps wm wn → IsScripted settings form so sn wo wn ending
ends_kept settings form so sm sn wo wm wn Finished h s w =
    let report = h.0 in
    (report, h.1, h.2, h.3, (calls_kept (script_of report.book) so sm sn h.4.0 s, kept form report wo wm wn h.4.1 w))
ends_kept settings form so sm sn wo wm wn OutOfMemory (inl h) s w = inl (Keeps-trans so sm sn h.0 s, Keeps-trans wo wm wn h.1 w)
ends_kept settings form so sm sn wo wm wn OutOfMemory (inr h) s w =
    inr (h.0, h.1, h.2, h.3, (Keeps-trans so sm sn h.4.0 s, kept form h.0 wo wm wn h.4.1 w))
ends_kept settings form so sm sn wo wm wn (Settings bad) h s w =
    (Keeps-trans so sm sn h.0 s, (h.1.0, h.1.1, h.1.2, Keeps-trans wo wm wn h.1.3 w))
ends_kept settings form so sm sn wo wm wn (Run why) h s w = (unsettled_kept settings why so sm sn h.0 s, (h.1.0, Keeps-trans wo wm wn h.1.1 w))
ends_kept settings form so sm sn wo wm wn CannotStart h s w = (Keeps-trans so sm sn h.0 s, (h.1.0, Keeps-trans wo wm wn h.1.1 w))
ends_kept settings form so sm sn wo wm wn (CannotRead failure.Write) h s w = tt
ends_kept settings form so sm sn wo wm wn (CannotRead failure.Read) h s w = absurd h
ends_kept settings form so sm sn wo wm wn (CannotRead failure.TooLong) h s w = absurd h
ends_kept settings form so sm sn wo wm wn (CannotRead failure.NotUtf8) h s w = absurd h
ends_kept settings form so sm sn wo wm wn FaultLine h s w = absurd h
ends_kept settings form so sm sn wo wm wn (DrawnToFault line) h s w = absurd h
ends_kept settings form so sm sn wo wm wn (NothingToDraw missing) h s w = absurd h
ends_kept settings form so sm sn wo wm wn BadCommandLine h s w = absurd h

pub scripted_kept : {A B : Type 0} (settings : Option Members) (form : ReportForm) (so sm sn wo wm wn : Option (List ℕ)) (ending flushed : Ending)
    → IsScripted settings form so sm wo wm ending → Keeps sm sn → Keeps wm wn → (flushed ≡ CannotRead failure.Write) ⊎ ((flushed ≡ ending) × A × B)
    → IsScripted settings form so sn wo wn flushed
scripted_kept settings form so sm sn wo wm wn ending flushed h s w (inl failed) =
    subst (λ e. IsScripted settings form so sn wo wn e) (sym failed) tt
scripted_kept settings form so sm sn wo wm wn ending flushed h s w (inr same) =
    subst (λ e. IsScripted settings form so sn wo wn e) (sym same.0) (ends_kept settings form so sm sn wo wm wn ending h s w)
