-- How runs by seeds ended: their tally, what it says, and its text.
use Rattle.std.specs.Prelude.{ℕ, Bool, true, false, ◌≡◌, ◌+◌, ◌++◌, List, [], ◌∷◌, Option, Some, None, Result, Ok}
use Rattle.std.specs.Prelude.{Err, codes, count_by, decimal, is_ok, ltb, length, option_map, if◌then◌else◌}
use Rattle.std.specs.Option.{option_map_or}
use Rattle.std.specs.Str.{bytes_eq}
use Rattle.pc_threads.specs.declared.report.LoadReport.{LoadReport}
use Rattle.pc_program.specs.Endings.{unsettled_name}
use Rattle.pc_program.specs.ReportText.{text_line}
use Rattle.pc_program.specs.declared.ending.Ending.{Ending}
use Rattle.pc_program.specs.declared.ending.Ending.TheVariants.{Finished, Run}
use Rattle.pc_program.specs.declared.ending.Unsettled.{Unsettled}
use Rattle.pc_program.specs.declared.ending.Unsettled.TheVariants as why
use Rattle.pc_program.specs.declared.tally.Tally.{Tally}
use Rattle.pc_program.specs.declared.tally.TallyRow.{TallyRow}
use Rattle.pc_program.specs.declared.tally.Unreported.{Unreported}

-- its name is this
abbrev pub is_named : List ℕ → Unsettled → Bool
is_named name unsettled = bytes_eq (unsettled_name unsettled) name

-- there is no report, for such a reason
abbrev pub lacks : (Unsettled → Bool) → Result LoadReport Unsettled → Bool
lacks is_such (Ok report) = false
lacks is_such (Err unsettled) = is_such unsettled

-- of runs that ended so, the first one by this seed and each other one by the next: the first that has no report, for
-- such a reason
abbrev pub first_without : (Unsettled → Bool) → ℕ → List (Result LoadReport Unsettled) → Option Unreported
first_without is_such seed [] = None
first_without is_such seed (Ok report ∷ endings) = first_without is_such (seed + 1) endings
first_without is_such seed (Err unsettled ∷ endings) =
    if is_such unsettled then Some (record { seed = seed; why = unsettled })
    else first_without is_such (seed + 1) endings

-- how many of them have none for a reason of this name, and the first of these; none where there is no such run
abbrev pub row_of : List ℕ → ℕ → List (Result LoadReport Unsettled) → Option TallyRow
row_of name seed endings =
    option_map (λ first. record { runs = count_by (lacks (is_named name)) endings; first = first })
    (first_without (is_named name) seed endings)

-- the tally of runs that ended so, the first one by this seed and each other one by the next
pub record IsTallyOf (seed : ℕ) (endings : List (Result LoadReport Unsettled)) (tally : Tally) : Type 0 where
  pub runs : tally.runs ≡ length endings
  pub reported : tally.reported ≡ count_by is_ok endings
  pub audit : tally.audit ≡ row_of (codes "Audit") seed endings
  pub incomplete : tally.incomplete ≡ row_of (codes "Incomplete") seed endings
  pub driver : tally.driver ≡ row_of (codes "Driver") seed endings
  pub gave_up : tally.gave_up ≡ row_of (codes "GaveUp") seed endings
  pub unaccounted : tally.unaccounted ≡ row_of (codes "Unaccounted") seed endings
  pub stalled : tally.stalled ≡ row_of (codes "Stalled") seed endings
  pub first : tally.first ≡ first_without (λ unsettled. true) seed endings

-- no run is counted
abbrev pub CountsNone : Tally → Type 0
CountsNone tally = (seed : ℕ) → IsTallyOf seed [] tally

-- how many runs a row counts
abbrev pub many : Option TallyRow → ℕ
many counted = option_map_or (λ row. row.runs) counted 0

-- each run has a report or stands in one row
abbrev pub CountsAddUp : Tally → Type 0
CountsAddUp tally =
    tally.runs
    ≡ tally.reported + many tally.audit + many tally.incomplete + many tally.driver + many tally.gave_up
    + many tally.unaccounted + many tally.stalled

-- how the program ends where so many runs were to be tried: where fewer ended it gave up, and else it ends as the first
-- run that has no report
abbrev pub ending_of_tally : ℕ → Tally → Ending
ending_of_tally all tally =
    if ltb tally.runs all then Run why.GaveUp else option_map_or (λ first. Run first.why) tally.first Finished

-- a row's line, if there is a row
abbrev pub row_text : Option TallyRow → List ℕ
row_text None = []
row_text (Some row) =
    text_line
    (unsettled_name row.first.why
    ++ (codes " " ++ (decimal row.runs ++ (codes " first " ++ decimal row.first.seed))))

-- the lines of the rows
abbrev pub rows_text : Tally → List ℕ
rows_text tally =
    row_text tally.audit
    ++ (row_text tally.incomplete
    ++ (row_text tally.driver
    ++ (row_text tally.gave_up ++ (row_text tally.unaccounted ++ row_text tally.stalled))))

-- the tally as text
abbrev pub tally_text : Tally → List ℕ
tally_text tally =
    text_line (codes "runs " ++ decimal tally.runs)
    ++ (text_line (codes "reported " ++ decimal tally.reported) ++ rows_text tally)
