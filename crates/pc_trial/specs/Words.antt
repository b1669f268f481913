-- What the lab says, and its exit status.
use Rattle.std.specs.Prelude.{ℕ, List, codes}
use Rattle.pc_settings.specs.Words.{fault_text}
use Rattle.pc_trial.specs.declared.ending.LabEnding.{LabEnding}
use Rattle.pc_trial.specs.declared.ending.LabEnding.TheVariants.{Finished, LoadUnread, BadLoad, VariantsUnread}
use Rattle.pc_trial.specs.declared.ending.LabEnding.TheVariants.{BadVariants, NoVariant, ScriptTooLong, Unaccounted}
use Rattle.pc_trial.specs.declared.ending.LabEnding.TheVariants.{OutOfMemory, Unwritten}

-- the exit status
abbrev pub status_of : LabEnding → ℕ
status_of Finished = 0
status_of (LoadUnread why) = 1
status_of (BadLoad fault) = 1
status_of (VariantsUnread why) = 1
status_of (BadVariants fault) = 1
status_of NoVariant = 1
status_of ScriptTooLong = 1
status_of Unaccounted = 1
status_of OutOfMemory = 4
status_of Unwritten = 1

-- what is said behind the program's name
abbrev pub ending_text : LabEnding → List ℕ
ending_text Finished = codes "finished"
ending_text (LoadUnread why) = codes "cannot read"
ending_text (BadLoad fault) = fault_text fault
ending_text (VariantsUnread why) = codes "cannot read"
ending_text (BadVariants fault) = fault_text fault
ending_text NoVariant = codes "lab NoVariant"
ending_text ScriptTooLong = codes "lab ScriptTooLong"
ending_text Unaccounted = codes "lab Unaccounted"
ending_text OutOfMemory = codes "out of memory"
ending_text Unwritten = codes "cannot read"
