-- What the program wrote, by how it ended.
use Rattle.std.specs.Prelude.{ℕ, Bool, true, false, ◌≡◌, ◌⊎◌, ◌<◌, List, Option, Err, length}
use Rattle.std.specs.Io.KnownBytes.{Appends, Consumes, IsAtEnd, Keeps}
use Rattle.toml.specs.Data.{Members}
use Rattle.pc_draw.specs.Parts.{Draws}
use Rattle.pc_draw.specs.declared.part.DrawnPart.{DrawnPart}
use Rattle.pc_draw.specs.declared.script.Drawn.TheVariants as drawn
use Rattle.pc_explain.specs.Comments.{without_comments}
use Rattle.pc_script.specs.Scripts.{IsOutput, IsOutputUntil}
use Rattle.pc_script.specs.Sessions.{ConsumesMost, IsAnsweredBy, IsAnsweredUntil}
use Rattle.pc_script.specs.declared.input.TheConstants.{MOST_BYTES}
use Rattle.pc_script.specs.declared.outcome.Outcome.TheVariants as outcome
use Rattle.pc_seeds.specs.declared.ending.Stall.{Stall}
use Rattle.pc_threads.specs.Pages.{Pages}
use Rattle.pc_threads.specs.Reports.{AddsUp, TellsItsBook}
use Rattle.pc_threads.specs.declared.report.LoadReport.{LoadReport}
use Rattle.pc_program.specs.Endings.{ending_of_settings}
use Rattle.pc_program.specs.ReportText.{IsReport}
use Rattle.pc_program.specs.Runs.{DoesWhatIsSpelled, LeadsAsSpelled, StallsAsSpelled}
use Rattle.pc_session.specs.Session.{IsSession, RanOut}
use Rattle.pc_report.specs.Transcripts.{WritesCalls, script_of}
use Rattle.pc_settings.specs.SettingsText.{Reads, SpellsSettings}
use Rattle.pc_program.specs.declared.ending.Ending.{Ending}
use Rattle.pc_program.specs.declared.ending.Ending.TheVariants.{Finished, FaultLine, DrawnToFault, CannotRead}
use Rattle.pc_program.specs.declared.ending.Ending.TheVariants.{BadCommandLine, OutOfMemory, Settings, Run, CannotStart}
use Rattle.pc_program.specs.declared.ending.Ending.TheVariants.{NothingToDraw}
use Rattle.pc_program.specs.declared.ending.Failure.TheVariants as failure
use Rattle.pc_program.specs.declared.ending.Unsettled.{Unsettled}
use Rattle.pc_program.specs.declared.ending.Unsettled.TheVariants as unsettled
use Rattle.pc_program.specs.declared.forms.ScriptForm.{ScriptForm}
use Rattle.pc_program.specs.declared.forms.ScriptForm.TheVariants.{Replies, Explained, Picture}
use Rattle.pc_program.specs.declared.report.ReportForm.{ReportForm}
use Rattle.pc_settings.specs.declared.runs.SettingsFault.{SettingsFault}

-- after a script of this text: what was written is plainly its output, or what comes before the command at which memory
-- ran out
abbrev pub IsAnswered : (plain : List ℕ → List ℕ) (text : List ℕ) (old new : Option (List ℕ)) → Ending → Type 0
IsAnswered plain text old new Finished =
    (written : List ℕ) × IsOutput IsSession text outcome.Finished (plain written) × Appends old new written
IsAnswered plain text old new FaultLine =
    (line : ℕ) × (written : List ℕ) × IsOutput IsSession text (outcome.FaultLine line) (plain written)
    × Appends old new written
IsAnswered plain text old new OutOfMemory =
    Keeps old new ⊎ ((written : List ℕ) × IsOutputUntil IsSession RanOut text (plain written) × Appends old new written)
IsAnswered plain text old new (CannotRead failure.Read) = Keeps old new
IsAnswered plain text old new (CannotRead failure.TooLong) = (MOST_BYTES < length text) × Keeps old new
IsAnswered plain text old new (CannotRead failure.NotUtf8) = ⊥
IsAnswered plain text old new (CannotRead failure.Write) = Unit {0}
IsAnswered plain text old new (DrawnToFault line) = ⊥
IsAnswered plain text old new (NothingToDraw missing) = ⊥
IsAnswered plain text old new BadCommandLine = ⊥
IsAnswered plain text old new (Settings bad) = ⊥
IsAnswered plain text old new (Run why) = ⊥
IsAnswered plain text old new CannotStart = ⊥

-- after this part of a script of this text was drawn: what was written is its picture, or nothing
abbrev pub IsDrawn : DrawnPart → (text : List ℕ) (old new : Option (List ℕ)) → Ending → Type 0
IsDrawn part text old new Finished = Draws part text (drawn.Picture outcome.Finished) old new
IsDrawn part text old new (DrawnToFault line) = Draws part text (drawn.Picture (outcome.FaultLine line)) old new
IsDrawn part text old new (NothingToDraw missing) = Draws part text (drawn.Nothing missing) old new
IsDrawn part text old new OutOfMemory = Keeps old new
IsDrawn part text old new (CannotRead failure.Read) = Keeps old new
IsDrawn part text old new (CannotRead failure.TooLong) = (MOST_BYTES < length text) × Keeps old new
IsDrawn part text old new (CannotRead failure.NotUtf8) = ⊥
IsDrawn part text old new (CannotRead failure.Write) = Unit {0}
IsDrawn part text old new FaultLine = ⊥
IsDrawn part text old new BadCommandLine = ⊥
IsDrawn part text old new (Settings bad) = ⊥
IsDrawn part text old new (Run why) = ⊥
IsDrawn part text old new CannotStart = ⊥

-- after this was made of the text
abbrev pub IsMade : ScriptForm → (text : List ℕ) (old new : Option (List ℕ)) → Ending → Type 0
IsMade Replies text old new ending = IsAnswered (λ written. written) text old new ending
IsMade Explained text old new ending = IsAnswered without_comments text old new ending
IsMade (Picture part axis) text old new ending = IsDrawn part text old new ending

-- the text spells settings, and in a run by them that does not settle for this, calls lead to it where it is a stall
abbrev pub IsUnsettled : Option Members → Unsettled → Type 0
IsUnsettled settings (unsettled.Stalled stall) = StallsAsSpelled settings stall
IsUnsettled settings unsettled.Audit = SpellsSettings settings
IsUnsettled settings unsettled.Incomplete = SpellsSettings settings
IsUnsettled settings unsettled.Driver = SpellsSettings settings
IsUnsettled settings unsettled.GaveUp = SpellsSettings settings
IsUnsettled settings unsettled.Unaccounted = SpellsSettings settings

-- after a run by settings: the report of a run that did what they ask for, or nothing
abbrev pub IsReported : (settings : Option Members) (form : ReportForm) (old new : Option (List ℕ)) → Ending → Type 0
IsReported settings form old new Finished =
    (report : LoadReport) × TellsItsBook report × AddsUp report × DoesWhatIsSpelled settings report
    × IsReport form report old new
IsReported settings form old new (Settings bad) =
    (fault : SettingsFault) × Reads settings (Err fault) × (ending_of_settings fault ≡ Settings bad) × Keeps old new
IsReported settings form old new (Run why) = IsUnsettled settings why × Keeps old new
IsReported settings form old new CannotStart = SpellsSettings settings × Keeps old new
IsReported settings form old new OutOfMemory = Keeps old new
IsReported settings form old new (CannotRead failure.Read) = ⊥
IsReported settings form old new (CannotRead failure.TooLong) = ⊥
IsReported settings form old new (CannotRead failure.NotUtf8) = ⊥
IsReported settings form old new (CannotRead failure.Write) = Unit {0}
IsReported settings form old new FaultLine = ⊥
IsReported settings form old new (DrawnToFault line) = ⊥
IsReported settings form old new (NothingToDraw missing) = ⊥
IsReported settings form old new BadCommandLine = ⊥

-- after the script of a run and its report were written, each where it goes
abbrev pub IsWrittenBoth : ReportForm → LoadReport → (script_old script_new old new : Option (List ℕ)) → Ending
    → Type 0
IsWrittenBoth form report script_old script_new old new Finished =
    WritesCalls (script_of report.book) script_old script_new × IsReport form report old new
IsWrittenBoth form report script_old script_new old new OutOfMemory =
    Keeps script_old script_new × IsReport form report old new
IsWrittenBoth form report script_old script_new old new (CannotRead failure.Write) = Unit {0}
IsWrittenBoth form report script_old script_new old new (CannotRead failure.Read) = ⊥
IsWrittenBoth form report script_old script_new old new (CannotRead failure.TooLong) = ⊥
IsWrittenBoth form report script_old script_new old new (CannotRead failure.NotUtf8) = ⊥
IsWrittenBoth form report script_old script_new old new FaultLine = ⊥
IsWrittenBoth form report script_old script_new old new (DrawnToFault line) = ⊥
IsWrittenBoth form report script_old script_new old new (NothingToDraw missing) = ⊥
IsWrittenBoth form report script_old script_new old new BadCommandLine = ⊥
IsWrittenBoth form report script_old script_new old new (Settings bad) = ⊥
IsWrittenBoth form report script_old script_new old new (Run why) = ⊥
IsWrittenBoth form report script_old script_new old new CannotStart = ⊥

-- a run did what the settings ask for, and this was written of it
abbrev pub IsOfRun : (settings : Option Members) → (LoadReport → Type 0) → Type 0
IsOfRun settings IsWritten =
    (report : LoadReport) × TellsItsBook report × AddsUp report × DoesWhatIsSpelled settings report × IsWritten report

-- the calls were written of a book, which lead to this stall
abbrev pub WritesStall : (settings : Option Members) → Stall → (old new : Option (List ℕ)) → Type 0
WritesStall settings stall old new =
    (book : Pages) × LeadsAsSpelled settings book stall × WritesCalls (script_of book) old new

-- what is written as the script of a run that did not settle: its calls where it stalled, and else nothing
abbrev pub IsUnsettledScript : (settings : Option Members) → Unsettled → (old new : Option (List ℕ)) → Type 0
IsUnsettledScript settings (unsettled.Stalled stall) old new = WritesStall settings stall old new
IsUnsettledScript settings unsettled.Audit old new = Keeps old new
IsUnsettledScript settings unsettled.Incomplete old new = Keeps old new
IsUnsettledScript settings unsettled.Driver old new = Keeps old new
IsUnsettledScript settings unsettled.GaveUp old new = Keeps old new
IsUnsettledScript settings unsettled.Unaccounted old new = Keeps old new

-- after the script of a run that stalled was written
abbrev pub IsScriptOfStall : (settings : Option Members) → Stall → (old new : Option (List ℕ)) → Ending → Type 0
IsScriptOfStall settings stall old new (Run why) =
    (why ≡ unsettled.Stalled stall) × WritesStall settings stall old new
IsScriptOfStall settings stall old new OutOfMemory = Keeps old new
IsScriptOfStall settings stall old new (CannotRead failure.Write) = Unit {0}
IsScriptOfStall settings stall old new (CannotRead failure.Read) = ⊥
IsScriptOfStall settings stall old new (CannotRead failure.TooLong) = ⊥
IsScriptOfStall settings stall old new (CannotRead failure.NotUtf8) = ⊥
IsScriptOfStall settings stall old new Finished = ⊥
IsScriptOfStall settings stall old new FaultLine = ⊥
IsScriptOfStall settings stall old new (DrawnToFault line) = ⊥
IsScriptOfStall settings stall old new (NothingToDraw missing) = ⊥
IsScriptOfStall settings stall old new BadCommandLine = ⊥
IsScriptOfStall settings stall old new (Settings bad) = ⊥
IsScriptOfStall settings stall old new CannotStart = ⊥

-- after a run by settings whose calls are written as a script: that script and the report of a run that did what they
-- ask for, the script alone of one that stalled, or nothing; want of memory leaves out both, or the script alone
abbrev pub IsScripted : (settings : Option Members) (form : ReportForm)
    (script_old script_new old new : Option (List ℕ)) → Ending → Type 0
IsScripted settings form script_old script_new old new Finished =
    IsOfRun settings (λ report. IsWrittenBoth form report script_old script_new old new Finished)
IsScripted settings form script_old script_new old new OutOfMemory =
    (Keeps script_old script_new × Keeps old new)
    ⊎ IsOfRun settings (λ report. IsWrittenBoth form report script_old script_new old new OutOfMemory)
IsScripted settings form script_old script_new old new (Settings bad) =
    Keeps script_old script_new × IsReported settings form old new (Settings bad)
IsScripted settings form script_old script_new old new (Run why) =
    IsUnsettledScript settings why script_old script_new × IsReported settings form old new (Run why)
IsScripted settings form script_old script_new old new CannotStart =
    Keeps script_old script_new × IsReported settings form old new CannotStart
IsScripted settings form script_old script_new old new (CannotRead failure.Write) = Unit {0}
IsScripted settings form script_old script_new old new (CannotRead failure.Read) = ⊥
IsScripted settings form script_old script_new old new (CannotRead failure.TooLong) = ⊥
IsScripted settings form script_old script_new old new (CannotRead failure.NotUtf8) = ⊥
IsScripted settings form script_old script_new old new FaultLine = ⊥
IsScripted settings form script_old script_new old new (DrawnToFault line) = ⊥
IsScripted settings form script_old script_new old new (NothingToDraw missing) = ⊥
IsScripted settings form script_old script_new old new BadCommandLine = ⊥

-- a text was read of what a reader has, and this is so of it
abbrev pub IsReadOf : (left rest : Option (List ℕ)) → (List ℕ → Type 0) → Type 0
IsReadOf left rest P = (text : List ℕ) × Consumes left rest text × P text

-- a session answered this text, with a fault or without one: what was written is plainly the texts of its answers
abbrev pub IsAnsweredIn : (plain : List ℕ → List ℕ) (had_fault : Bool) (old new : Option (List ℕ)) → List ℕ → Type 0
IsAnsweredIn plain had_fault old new text =
    (written : List ℕ) × IsAnsweredBy IsSession text had_fault (plain written) × Appends old new written

-- after a session that read this of a reader: the whole text was answered, or what came before a read that failed, or
-- what comes before the command at which memory ran out; or so much was read that it is too long
abbrev pub IsTalked : (plain : List ℕ → List ℕ) (left rest old new : Option (List ℕ)) → Ending → Type 0
IsTalked plain left rest old new Finished =
    IsAtEnd rest × IsReadOf left rest (IsAnsweredIn plain false old new)
IsTalked plain left rest old new FaultLine =
    IsAtEnd rest × IsReadOf left rest (IsAnsweredIn plain true old new)
IsTalked plain left rest old new (CannotRead failure.Read) =
    (had_fault : Bool) × IsReadOf left rest (IsAnsweredIn plain had_fault old new)
IsTalked plain left rest old new OutOfMemory =
    IsReadOf left rest
    (λ text. (written : List ℕ) × IsAnsweredUntil IsSession RanOut text (plain written) × Appends old new written)
IsTalked plain left rest old new (CannotRead failure.TooLong) = ConsumesMost left rest
IsTalked plain left rest old new (CannotRead failure.Write) = Unit {0}
IsTalked plain left rest old new (CannotRead failure.NotUtf8) = ⊥
IsTalked plain left rest old new (DrawnToFault line) = ⊥
IsTalked plain left rest old new (NothingToDraw missing) = ⊥
IsTalked plain left rest old new BadCommandLine = ⊥
IsTalked plain left rest old new (Settings bad) = ⊥
IsTalked plain left rest old new (Run why) = ⊥
IsTalked plain left rest old new CannotStart = ⊥
