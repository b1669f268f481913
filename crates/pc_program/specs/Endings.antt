-- How the program ends, and what it says then.
use Rattle.std.specs.Prelude.{ℕ, List, ◌++◌, Option, Some, None, Result, Ok, Err, codes, if◌then◌else◌}
use Rattle.pc_draw.specs.declared.script.Drawn.{Drawn}
use Rattle.pc_draw.specs.declared.script.Drawn.TheVariants as drawn
use Rattle.pc_script.specs.declared.outcome.Outcome.{Outcome}
use Rattle.pc_script.specs.declared.outcome.Outcome.TheVariants as outcome
use Rattle.pc_script.specs.declared.outcome.ScriptFault.{ScriptFault}
use Rattle.pc_script.specs.declared.outcome.ScriptFault.TheVariants as fault
use Rattle.pc_script.specs.declared.session.Conversed.{Conversed}
use Rattle.pc_threads.specs.declared.settings.faults.ConfigFault.TheVariants as config
use Rattle.pc_threads.specs.declared.book.settling.RunFault.{RunFault}
use Rattle.pc_threads.specs.declared.book.settling.RunFault.TheVariants as run
use Rattle.pc_report.specs.declared.transcript.TranscriptFault.{TranscriptFault}
use Rattle.pc_report.specs.declared.transcript.TranscriptFault.TheVariants as script
use Rattle.pc_program.specs.declared.ending.BadSettings.{BadSettings}
use Rattle.pc_program.specs.declared.ending.BadSettings.TheVariants as bad
use Rattle.pc_program.specs.declared.ending.Unsettled.{Unsettled}
use Rattle.pc_program.specs.declared.ending.Unsettled.TheVariants as why
use Rattle.pc_program.specs.declared.ending.Failure.TheVariants as failure
use Rattle.pc_program.specs.declared.ending.Ending.{Ending}
use Rattle.pc_program.specs.declared.ending.Ending.TheVariants.{Finished, FaultLine, DrawnToFault, CannotRead}
use Rattle.pc_program.specs.declared.ending.Ending.TheVariants.{BadCommandLine, OutOfMemory, Settings, Run, CannotStart}
use Rattle.pc_program.specs.declared.ending.Ending.TheVariants.{NothingToDraw}
use Rattle.pc_program.specs.declared.run_text.RunTextFault.{RunTextFault}
use Rattle.pc_program.specs.declared.run_text.RunTextFault.TheVariants as text
use Rattle.pc_settings.specs.declared.runs.SettingsFault.{SettingsFault}
use Rattle.pc_settings.specs.declared.runs.SettingsFault.TheVariants as settings

-- how the program ends after the run of a script
abbrev pub ending_of : Result Outcome ScriptFault → Ending
ending_of (Ok outcome.Finished) = Finished
ending_of (Ok (outcome.FaultLine line)) = FaultLine
ending_of (Err fault.Read) = CannotRead failure.Read
ending_of (Err fault.TooLong) = CannotRead failure.TooLong
ending_of (Err fault.Write) = CannotRead failure.Write
ending_of (Err fault.OutOfMemory) = OutOfMemory

-- how it ends after a session: a read that failed is told before a fault
abbrev pub ending_of_session : Result Conversed ScriptFault → Ending
ending_of_session (Ok conversed) =
    if conversed.is_whole then (if conversed.had_fault then FaultLine else Finished) else CannotRead failure.Read
ending_of_session (Err why) = ending_of (Err why)

-- how it ends after the drawing of a script
abbrev pub ending_of_picture : Result Drawn ScriptFault → Ending
ending_of_picture (Ok (drawn.Picture outcome.Finished)) = Finished
ending_of_picture (Ok (drawn.Picture (outcome.FaultLine line))) = DrawnToFault line
ending_of_picture (Ok (drawn.Nothing missing)) = NothingToDraw missing
ending_of_picture (Err why) = ending_of (Err why)

-- how it ends where settings have a fault, where a run met one, and where either did
abbrev pub ending_of_settings : SettingsFault → Ending
ending_of_settings settings.NotToml = Settings bad.NotToml
ending_of_settings (settings.BadField key) = Settings bad.BadField
ending_of_settings (settings.BadStep thread step) = Settings bad.BadStep
ending_of_settings (settings.BadConfig config.BadCpus) = Settings bad.BadCpus
ending_of_settings (settings.BadConfig config.TooManyThreads) = Settings bad.TooManyThreads
ending_of_settings (settings.BadConfig (config.BadThread place)) = Settings bad.BadThread
ending_of_settings (settings.BadConfig (config.BadRestart place)) = Settings bad.BadRestart
ending_of_settings settings.OutOfMemory = OutOfMemory

-- how the program ends after a fault of a run
abbrev pub ending_of_run : RunFault → Ending
ending_of_run (run.Audit cpu) = Run why.Audit
ending_of_run (run.Incomplete thread) = Run why.Incomplete
ending_of_run (run.Driver refusal) = Run why.Driver
ending_of_run (run.GaveUp cpu) = Run why.GaveUp
ending_of_run run.TimeUp = Run why.GaveUp
ending_of_run run.StartFailed = CannotStart
ending_of_run run.OutOfMemory = OutOfMemory
ending_of_run run.Unaccounted = Run why.Unaccounted

-- how it ends after a run by a settings text
abbrev pub ending_of_run_text : RunTextFault → Ending
ending_of_run_text (text.Settings fault) = ending_of_settings fault
ending_of_run_text (text.Run fault) = ending_of_run fault
ending_of_run_text (text.Stalled stall) = Run (why.Stalled stall)
ending_of_run_text text.Write = CannotRead failure.Write

-- how it ends after the script of a run and its report were written: a write that failed is told before want of memory
abbrev pub ending_of_both : {A B E : Type 0} → Result A TranscriptFault → Result B E → Ending
ending_of_both (Ok done) (Ok told) = Finished
ending_of_both (Ok done) (Err error) = CannotRead failure.Write
ending_of_both (Err script.OutOfMemory) (Ok told) = OutOfMemory
ending_of_both (Err script.OutOfMemory) (Err error) = CannotRead failure.Write
ending_of_both (Err script.Write) told = CannotRead failure.Write

-- it is for want of memory, or since a text cannot be read; nothing was written
abbrev pub IsUnread : Ending → Type 0
IsUnread Finished = ⊥
IsUnread FaultLine = ⊥
IsUnread (DrawnToFault line) = ⊥
IsUnread (NothingToDraw missing) = ⊥
IsUnread (CannotRead failure.Read) = Unit {0}
IsUnread (CannotRead failure.TooLong) = Unit {0}
IsUnread (CannotRead failure.NotUtf8) = Unit {0}
IsUnread (CannotRead failure.Write) = ⊥
IsUnread BadCommandLine = ⊥
IsUnread OutOfMemory = Unit {0}
IsUnread (Settings fault) = ⊥
IsUnread (Run fault) = ⊥
IsUnread CannotStart = ⊥

-- its exit status
abbrev pub status_of : Ending → ℕ
status_of Finished = 0
status_of FaultLine = 1
status_of (DrawnToFault line) = 1
status_of (NothingToDraw missing) = 2
status_of (CannotRead failed) = 1
status_of BadCommandLine = 2
status_of OutOfMemory = 4
status_of (Settings fault) = 1
status_of (Run fault) = 3
status_of CannotStart = 4

-- what it says of settings, and of a run
abbrev pub settings_message : BadSettings → List ℕ
settings_message bad.NotToml = codes "pc-sim: settings NotToml"
settings_message bad.BadField = codes "pc-sim: settings BadField"
settings_message bad.BadStep = codes "pc-sim: settings BadStep"
settings_message bad.BadCpus = codes "pc-sim: settings BadCpus"
settings_message bad.TooManyThreads = codes "pc-sim: settings TooManyThreads"
settings_message bad.BadThread = codes "pc-sim: settings BadThread"
settings_message bad.BadRestart = codes "pc-sim: settings BadRestart"

-- the name of what kept a run from settling
abbrev pub unsettled_name : Unsettled → List ℕ
unsettled_name why.Audit = codes "Audit"
unsettled_name why.Incomplete = codes "Incomplete"
unsettled_name why.Driver = codes "Driver"
unsettled_name why.GaveUp = codes "GaveUp"
unsettled_name why.Unaccounted = codes "Unaccounted"
unsettled_name (why.Stalled stall) = codes "Stalled"

-- what it says of a run that did not settle
abbrev pub unsettled_message : Unsettled → List ℕ
unsettled_message unsettled = codes "pc-sim: run " ++ unsettled_name unsettled

-- what it says on standard error
abbrev pub message_of : Ending → Option (List ℕ)
message_of Finished = None
message_of FaultLine = None
message_of (DrawnToFault line) =
    Some (codes "pc-sim: a line of the script is no command, and the picture ends there")
message_of (NothingToDraw missing) = Some (codes "pc-sim: bad command line")
message_of (CannotRead failed) = Some (codes "pc-sim: cannot read")
message_of BadCommandLine = Some (codes "pc-sim: bad command line")
message_of OutOfMemory = Some (codes "pc-sim: out of memory")
message_of (Settings fault) = Some (settings_message fault)
message_of (Run fault) = Some (unsettled_message fault)
message_of CannotStart = Some (codes "pc-sim: cannot start")
