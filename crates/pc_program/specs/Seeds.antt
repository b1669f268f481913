-- What runs by seeds come to, and what is written of them.
use Rattle.std.specs.Prelude.{ℕ, ◌≡◌, ◌+◌, ◌≤◌, ◌^◌, List, Option, Some, None, Result, Ok, Err, All}
use Rattle.std.specs.Option.{option_map_or}
use Rattle.std.specs.Io.KnownBytes.{Appends, Keeps}
use Rattle.toml.specs.Data.{Members}
use Rattle.pc_settings.specs.SettingsText.{Reads, SpellsSettings}
use Rattle.pc_settings.specs.declared.runs.SettingsFault.{SettingsFault}
use Rattle.pc_seeds.specs.Ending.{LeadsToStall}
use Rattle.pc_seeds.specs.declared.ending.Ended.{Ended}
use Rattle.pc_seeds.specs.declared.ending.Ended.TheVariants as ended
use Rattle.pc_threads.specs.Pages.{Pages}
use Rattle.pc_threads.specs.Reports.{AddsUp, DoesAll, TellsItsBook}
use Rattle.pc_threads.specs.Settings.{Settings as SettingsOfRun}
use Rattle.pc_threads.specs.declared.book.settling.RunFault.{RunFault}
use Rattle.pc_threads.specs.declared.book.settling.RunFault.TheVariants as run
use Rattle.pc_threads.specs.declared.report.LoadReport.{LoadReport}
use Rattle.pc_program.specs.Endings.{ending_of_settings}
use Rattle.pc_program.specs.Runs.{OfSpelled}
use Rattle.pc_program.specs.Tallies.{CountsAddUp, CountsNone, IsTallyOf, ending_of_tally, tally_text}
use Rattle.pc_program.specs.declared.ending.Ending.{Ending}
use Rattle.pc_program.specs.declared.ending.Ending.TheVariants.{Finished, FaultLine, DrawnToFault, CannotRead}
use Rattle.pc_program.specs.declared.ending.Ending.TheVariants.{BadCommandLine, OutOfMemory, Settings, Run, CannotStart}
use Rattle.pc_program.specs.declared.ending.Ending.TheVariants.{NothingToDraw}
use Rattle.pc_program.specs.declared.ending.Failure.TheVariants as failure
use Rattle.pc_program.specs.declared.ending.Unsettled.{Unsettled}
use Rattle.pc_program.specs.declared.ending.Unsettled.TheVariants as unsettled
use Rattle.pc_program.specs.declared.run_text.RunTextFault.{RunTextFault}
use Rattle.pc_program.specs.declared.run_text.RunTextFault.TheVariants as text
use Rattle.pc_program.specs.declared.seeds.Seeds.{Seeds}
use Rattle.pc_program.specs.declared.tally.Tally.{Tally}

-- each seed is a number of 64 bits
abbrev pub AreNumbers : Seeds → Type 0
AreNumbers seeds = seeds.first + seeds.many ≤ 2 ^ 64

-- why a run did not settle that has this fault; none where no other run would fare better
abbrev pub unsettled_by : RunFault → Option Unsettled
unsettled_by (run.Audit cpu) = Some unsettled.Audit
unsettled_by (run.Incomplete thread) = Some unsettled.Incomplete
unsettled_by (run.Driver refusal) = Some unsettled.Driver
unsettled_by (run.GaveUp cpu) = Some unsettled.GaveUp
unsettled_by run.TimeUp = Some unsettled.GaveUp
unsettled_by run.Unaccounted = Some unsettled.Unaccounted
unsettled_by run.StartFailed = None
unsettled_by run.OutOfMemory = None

-- what is told of a run: its report, or why it has none; or the fault that ends all
abbrev pub told_of : Result Ended RunFault → Result (Result LoadReport Unsettled) RunFault
told_of (Ok (ended.Reported report)) = Ok (Ok report)
told_of (Ok (ended.Stalled stall book)) = Ok (Err (unsettled.Stalled stall))
told_of (Err fault) = option_map_or (λ why. Ok (Err why)) (unsettled_by fault) (Err fault)

-- a run by the settings may end so: a report is of a run that did what they ask for, and to a stall calls lead
abbrev pub MayEnd : Result LoadReport Unsettled → SettingsOfRun → Type 0
MayEnd (Ok report) settings = TellsItsBook report × AddsUp report × DoesAll settings report
MayEnd (Err (unsettled.Stalled stall)) settings = (book : Pages) × LeadsToStall settings book stall
MayEnd (Err unsettled.Audit) settings = Unit {0}
MayEnd (Err unsettled.Incomplete) settings = Unit {0}
MayEnd (Err unsettled.Driver) settings = Unit {0}
MayEnd (Err unsettled.GaveUp) settings = Unit {0}
MayEnd (Err unsettled.Unaccounted) settings = Unit {0}

-- the tally is of runs by seeds from this one on, each of which ended so
abbrev pub IsOfRuns : (Result LoadReport Unsettled → Type 0) → (seed : ℕ) → Tally → Type 0
IsOfRuns IsEnd seed tally =
    (endings : List (Result LoadReport Unsettled)) × All IsEnd endings × IsTallyOf seed endings tally

-- this tally was written: of runs by the first of the seeds or all, each of which ended as one by the settings may
pub record IsTold (settings : Option Members) (seeds : Seeds) (tally : Tally) (old new : Option (List ℕ))
    : Type 0 where
  pub spelled : SpellsSettings settings
  pub of_runs : IsOfRuns (λ ended. OfSpelled (MayEnd ended) settings) seeds.first tally
  pub adds_up : CountsAddUp tally
  pub few : tally.runs ≤ seeds.many
  pub written : Appends old new (tally_text tally)

-- after runs by these seeds, as the settings ask for: their tally, which says how the program ends; or nothing, and
-- then the tally counts none
abbrev pub IsTallied : (settings : Option Members) (seeds : Seeds) (tally : Tally) (old new : Option (List ℕ)) → Ending
    → Type 0
IsTallied settings seeds tally old new Finished =
    IsTold settings seeds tally old new × (ending_of_tally seeds.many tally ≡ Finished)
IsTallied settings seeds tally old new (Run why) =
    IsTold settings seeds tally old new × (ending_of_tally seeds.many tally ≡ Run why)
IsTallied settings seeds tally old new (Settings bad) =
    (fault : SettingsFault) × Reads settings (Err fault) × (ending_of_settings fault ≡ Settings bad) × Keeps old new
    × CountsNone tally
IsTallied settings seeds tally old new OutOfMemory = Keeps old new × CountsNone tally
IsTallied settings seeds tally old new (CannotRead failure.Write) = Unit {0}
IsTallied settings seeds tally old new (CannotRead failure.Read) = ⊥
IsTallied settings seeds tally old new (CannotRead failure.TooLong) = ⊥
IsTallied settings seeds tally old new (CannotRead failure.NotUtf8) = ⊥
IsTallied settings seeds tally old new FaultLine = ⊥
IsTallied settings seeds tally old new (DrawnToFault line) = ⊥
IsTallied settings seeds tally old new (NothingToDraw missing) = ⊥
IsTallied settings seeds tally old new BadCommandLine = ⊥
IsTallied settings seeds tally old new CannotStart = ⊥

-- of the faults of runs want of memory alone leads to no tally
abbrev pub EndsAll : RunTextFault → Type 0
EndsAll (text.Settings fault) = Unit {0}
EndsAll (text.Run fault) = fault ≡ run.OutOfMemory
EndsAll (text.Stalled stall) = ⊥
EndsAll text.Write = Unit {0}
