-- What is told of a run, and by which names.
use Rattle.std.specs.Prelude.{ℕ, ◌==◌, Bool, true, false, ◌||◌, List, [], ◌∷◌, ◌++◌, map, filter, sum}
use Rattle.std.specs.Prelude.{Option, Some, None, if◌then◌else◌, codes, decimal}
use Rattle.std.specs.List.{range_with_len, slice_get}
use Rattle.std.specs.Option.{option_map}
use Rattle.pc_lab.specs.Counting.{counted_in}
use Rattle.pc_lab.specs.declared.counted.Counted.{Counted}
use Rattle.pc_lab.specs.declared.counted.Counted.TheVariants.{Commit, Steal, Message, Delta, Deliver}
use Rattle.pc_lab.specs.declared.counted.Counted.TheVariants.{PreemptSpent, WakeSpent, BlockSpent, YieldSpent, DieSpent}
use Rattle.pc_lab.specs.declared.counted.Counted.TheVariants.{PickStale, PickNothingReady, StealNothing, StealDead}
use Rattle.pc_lab.specs.declared.counted.Counted.TheVariants.{StealStale, SleepStale}
use Rattle.pc_lab.specs.declared.summary.RunEnding.{RunEnding}
use Rattle.pc_lab.specs.declared.summary.RunEnding.TheVariants.{Done, Until, NumbersSpent, Stalled}
use Rattle.pc_lab.specs.declared.summary.Summary.{Summary}
use Rattle.pc_lab.specs.declared.times.CpuTime.{CpuTime}
use Rattle.pc_table.specs.Percentiles.{percentile, ticks_of}
use Rattle.pc_table.specs.declared.rows.Number.{Number}
use Rattle.pc_table.specs.declared.rows.Number.TheVariants.{End, Makespan, Switches, Preempts, Events, Count, Total}
use Rattle.pc_table.specs.declared.rows.Number.TheVariants.{OfCpu}
use Rattle.pc_table.specs.declared.rows.Percents.{Percents}
use Rattle.pc_table.specs.declared.rows.Percents.TheVariants.{Few, Each}
use Rattle.pc_table.specs.declared.rows.Rows.{Rows}
use Rattle.pc_table.specs.declared.rows.Rows.TheVariants.{One, Waits}
use Rattle.pc_table.specs.declared.rows.Spent.{Spent}
use Rattle.pc_table.specs.declared.rows.Spent.TheVariants.{Ran, InTurns, Idle, IdleWhileOneWaits}
use Rattle.pc_table.specs.declared.rows.Which.{Which}

-- the word for how a run ended
abbrev pub ending_word : RunEnding → List ℕ
ending_word Done = codes "done"
ending_word Until = codes "until"
ending_word NumbersSpent = codes "NumbersSpent"
ending_word (Stalled thread) = codes "stalled"

-- the name of a count
abbrev pub count_name : Counted → List ℕ
count_name Commit = codes "commits"
count_name Steal = codes "steals"
count_name Message = codes "messages"
count_name Delta = codes "deltas"
count_name Deliver = codes "delivers"
count_name PreemptSpent = codes "refused preempt NumbersSpent"
count_name WakeSpent = codes "refused wake NumbersSpent"
count_name BlockSpent = codes "refused block NumbersSpent"
count_name YieldSpent = codes "refused yield NumbersSpent"
count_name DieSpent = codes "refused die NumbersSpent"
count_name PickStale = codes "refused pick Stale"
count_name PickNothingReady = codes "refused pick NothingReady"
count_name StealNothing = codes "refused steal NothingToSteal"
count_name StealDead = codes "refused steal Dead"
count_name StealStale = codes "refused steal Stale"
count_name SleepStale = codes "refused sleep Stale"

-- the words for what time went to
abbrev pub spent_name : Spent → List ℕ
spent_name Ran = codes "ran"
spent_name InTurns = codes "in turns"
spent_name Idle = codes "idle"
spent_name IdleWhileOneWaits = codes "idle while one waits"

-- the name of a number
abbrev pub number_name : Number → List ℕ
number_name End = codes "end"
number_name Makespan = codes "makespan"
number_name Switches = codes "switches"
number_name Preempts = codes "preempts"
number_name Events = codes "events"
number_name (Count what) = count_name what
number_name (Total spent) = codes "ticks " ++ spent_name spent
number_name (OfCpu cpu spent) = codes "cpu " ++ (decimal cpu ++ (codes " " ++ spent_name spent))

-- the words for whose waits are told
abbrev pub whose_word : Bool → List ℕ
whose_word true = codes "woken"
whose_word false = codes "wait"

-- the words for the level of which waits are told
abbrev pub level_words : Option ℕ → List ℕ
level_words None = []
level_words (Some level) = codes " level " ++ decimal level

-- the name of waits
abbrev pub which_name : Which → List ℕ
which_name which = whose_word which.is_woken ++ level_words which.level

-- the name of a percentile of waits
abbrev pub percentile_name : Which → ℕ → List ℕ
percentile_name which percent =
    which_name which ++ (if percent == 100 then codes " max" else codes " p" ++ decimal percent)

-- the name of the sum of waits
abbrev pub sum_name : Which → List ℕ
sum_name which = which_name which ++ codes " sum"

-- a percentile is told
abbrev pub is_told : Percents → ℕ → Bool
is_told Each percent = true
is_told Few percent = (percent == 50) || (percent == 90) || (percent == 99) || (percent == 100)

-- the percentiles that are told, up to one of them
abbrev pub told_to : Percents → ℕ → List ℕ
told_to percents last = filter (is_told percents) (range_with_len 1 last)

-- the percentiles that are told, the longest wait as the last
unfoldable pub told : Percents → List ℕ
told percents = told_to percents 100

-- the names of rows
abbrev pub names_in : Rows → List (List ℕ)
names_in (One number) = number_name number ∷ []
names_in (Waits which percents) = map (percentile_name which) (told percents) ++ sum_name which ∷ []

-- the ticks of a CPU that went to this
abbrev pub spent_in : Spent → CpuTime → ℕ
spent_in Ran time = time.ran
spent_in InTurns time = time.in_turns
spent_in Idle time = time.idle
spent_in IdleWhileOneWaits time = time.idle_while_one_waits

-- what there is to tell by a number of a run
abbrev pub value_of : Number → Summary → Option (List ℕ)
value_of End summary = Some (ending_word summary.ending)
value_of Makespan summary = Some (decimal summary.makespan)
value_of Switches summary = Some (decimal summary.switches)
value_of Preempts summary = Some (decimal summary.preempts)
value_of Events summary = Some (decimal summary.events)
value_of (Count what) summary = Some (decimal (counted_in summary.tally what))
value_of (Total spent) summary = Some (decimal (sum (map (spent_in spent) summary.times.items)))
value_of (OfCpu cpu spent) summary =
    option_map (λ time. decimal (spent_in spent time)) (slice_get summary.times.items cpu)

-- the sum of waits; of a level without waits there is none
abbrev pub sum_of : Option ℕ → List ℕ → Option (List ℕ)
sum_of None ticks = Some (decimal (sum ticks))
sum_of (Some level) [] = None
sum_of (Some level) (tick ∷ ticks) = Some (decimal (sum (tick ∷ ticks)))

-- the percentiles of waits that are told, and their sum
abbrev pub values_of_waits : Which → Percents → List ℕ → List (Option (List ℕ))
values_of_waits which percents ticks =
    map (λ percent. option_map decimal (percentile percent ticks)) (told percents) ++ sum_of which.level ticks ∷ []

-- what there is to tell of a run in rows
abbrev pub values_in : Rows → Summary → List (Option (List ℕ))
values_in (One number) summary = value_of number summary ∷ []
values_in (Waits which percents) summary = values_of_waits which percents (ticks_of which summary)
