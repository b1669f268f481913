-- A run by a settings text.
use Rattle.std.specs.Prelude.{◌≡◌, Option, Some, None, Err}
use Rattle.toml.specs.Data.{Members}
use Rattle.pc_seeds.specs.Ending.{LeadsToStall}
use Rattle.pc_seeds.specs.declared.ending.Ended.{Ended}
use Rattle.pc_seeds.specs.declared.ending.Ended.TheVariants as ended
use Rattle.pc_seeds.specs.declared.ending.Stall.{Stall}
use Rattle.pc_threads.specs.Pages.{Pages}
use Rattle.pc_threads.specs.Reports.{DoesAll}
use Rattle.pc_threads.specs.Settings.{Settings as SettingsOfRun, first_fault}
use Rattle.pc_threads.specs.declared.report.LoadReport.{LoadReport}
use Rattle.pc_settings.specs.SettingsText.{Reads, SpellsSettings, faults_in, settings_in}
use Rattle.pc_program.specs.declared.run_text.RunTextFault.{RunTextFault}
use Rattle.pc_program.specs.declared.run_text.RunTextFault.TheVariants.{Run, Settings, Stalled, Write}

-- the text spells settings without fault, of which this holds
abbrev pub OfSpelled : (SettingsOfRun → Type 0) → Option Members → Type 0
OfSpelled Holds (Some table) = (first_fault (faults_in table) ≡ None) × Holds (settings_in table)
OfSpelled Holds None = ⊥

-- the text spells settings without fault, and all was done that they ask for
abbrev pub DoesWhatIsSpelled : Option Members → LoadReport → Type 0
DoesWhatIsSpelled text report = OfSpelled (λ settings. DoesAll settings report) text

-- the text spells settings without fault, and in a run by them the calls of the book lead to the stall
abbrev pub LeadsAsSpelled : Option Members → Pages → Stall → Type 0
LeadsAsSpelled text book stall = OfSpelled (λ settings. LeadsToStall settings book stall) text

-- the calls of some book do
abbrev pub StallsAsSpelled : Option Members → Stall → Type 0
StallsAsSpelled text stall = (book : Pages) × LeadsAsSpelled text book stall

-- where a run by the text stalls, the calls of its book lead to that
abbrev pub IfStalledLeads : Option Members → Ended → Type 0
IfStalledLeads text (ended.Reported report) = Unit {0}
IfStalledLeads text (ended.Stalled stall book) = LeadsAsSpelled text book stall

-- what is said to be wrong with the settings is wrong with the text; a run, and the writing of its report, fail only
-- where nothing is, and a run stalls only where calls lead to that
abbrev pub IsTextsFault : Option Members → RunTextFault → Type 0
IsTextsFault text (Settings fault) = Reads text (Err fault)
IsTextsFault text (Run fault) = SpellsSettings text
IsTextsFault text (Stalled stall) = StallsAsSpelled text stall
IsTextsFault text Write = SpellsSettings text

-- it is not that a run stalled
abbrev pub IsNoStall : RunTextFault → Type 0
IsNoStall (Settings fault) = Unit {0}
IsNoStall (Run fault) = Unit {0}
IsNoStall (Stalled stall) = ⊥
IsNoStall Write = Unit {0}
