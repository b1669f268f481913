-- Which rows there are, and in which order.
use Rattle.std.specs.Prelude.{ℕ, nat_abs, ◌==◌, Bool, true, false, not, nat_lt, List, [], ◌∷◌, ◌++◌, map, filter}
use Rattle.std.specs.Prelude.{flat_map}
use Rattle.std.specs.Prelude.{Option, Some, None, if◌then◌else◌}
use Rattle.std.specs.List.{list_any, range_with_len}
use Rattle.pc_lab.specs.Counting.{counted_in}
use Rattle.pc_lab.specs.declared.counted.Counted.{Counted}
use Rattle.pc_lab.specs.declared.counted.Counted.TheVariants.{Commit, Steal, Message, Delta, Deliver}
use Rattle.pc_lab.specs.declared.counted.Counted.TheVariants.{PreemptSpent, WakeSpent, BlockSpent, YieldSpent, DieSpent}
use Rattle.pc_lab.specs.declared.counted.Counted.TheVariants.{PickStale, PickNothingReady, StealNothing, StealDead}
use Rattle.pc_lab.specs.declared.counted.Counted.TheVariants.{StealStale, SleepStale}
use Rattle.pc_load.specs.Loads.{Demand, Need}
use Rattle.pc_table.specs.Percentiles.{all_waits, is_among}
use Rattle.pc_table.specs.declared.form.Column.{Column}
use Rattle.pc_table.specs.declared.rows.Number.{Number}
use Rattle.pc_table.specs.declared.rows.Number.TheVariants.{End, Makespan, Switches, Preempts, Events, Count, Total}
use Rattle.pc_table.specs.declared.rows.Number.TheVariants.{OfCpu}
use Rattle.pc_table.specs.declared.rows.Percents.{Percents}
use Rattle.pc_table.specs.declared.rows.Percents.TheVariants.{Few}
use Rattle.pc_table.specs.declared.rows.Rows.{Rows}
use Rattle.pc_table.specs.declared.rows.Rows.TheVariants.{One, Waits}
use Rattle.pc_table.specs.declared.rows.Spent.{Spent}
use Rattle.pc_table.specs.declared.rows.Spent.TheVariants.{Ran, InTurns, Idle, IdleWhileOneWaits}
use Rattle.pc_table.specs.declared.rows.Which.{Which}

-- how a run ended, and what of it is counted
abbrev pub first_numbers : List Number
first_numbers =
    End ∷ Makespan ∷ Count Commit ∷ Switches ∷ Preempts ∷ Count Steal ∷ Count Message ∷ Count Delta ∷ Count Deliver
    ∷ Events ∷ []

-- all that time goes to
abbrev pub all_spent : List Spent
all_spent = Ran ∷ InTurns ∷ Idle ∷ IdleWhileOneWaits ∷ []

-- the refusals, in the order of their rows
abbrev pub refusals : List Counted
refusals =
    PreemptSpent ∷ WakeSpent ∷ BlockSpent ∷ YieldSpent ∷ DieSpent ∷ PickStale ∷ PickNothingReady ∷ StealNothing
    ∷ StealDead ∷ StealStale ∷ SleepStale ∷ []

-- the level of the first thread
abbrev pub first_level : List Need → ℕ
first_level [] = 0
first_level (need ∷ needs) = nat_abs need.level

-- the levels of threads are not all alike
abbrev pub levels_differ : List Need → Bool
levels_differ needs = list_any (λ need. not (nat_abs need.level == first_level needs)) needs

-- some run has these waits
abbrev pub has_waits : List Column → Which → Bool
has_waits columns which = list_any (λ column. list_any (is_among which) (all_waits column.summary)) columns

-- some run counted this
abbrev pub was_counted : List Column → Counted → Bool
was_counted columns what = list_any (λ column. nat_lt 0 (counted_in column.summary.tally what)) columns

-- waits of one level, or of each
abbrev pub which_waits : Bool → Option ℕ → Which
which_waits is_woken level = record { is_woken = is_woken; level = level }

-- the levels, the highest first
abbrev pub all_levels : List ℕ
all_levels = 7 ∷ 6 ∷ 5 ∷ 4 ∷ 3 ∷ 2 ∷ 1 ∷ 0 ∷ []

-- the rows of those of the levels that have waits
abbrev pub level_rows : Bool → List ℕ → List Column → List Rows
level_rows is_woken levels columns =
    map (λ level. Waits (which_waits is_woken (Some level)) Few)
    (filter (λ level. has_waits columns (which_waits is_woken (Some level))) levels)

-- the rows of waits: of all levels, then of each where they are not all alike
abbrev pub wait_rows : Bool → Percents → Demand → List Column → List Rows
wait_rows is_woken percents load columns =
    Waits (which_waits is_woken None) percents
    ∷ (if levels_differ load.threads then level_rows is_woken all_levels columns else [])

-- the rows that say what time went to, by what is counted
abbrev pub time_rows : (Spent → Number) → List Rows
time_rows number = map (λ spent. One (number spent)) all_spent

-- the rows of the time of each CPU
abbrev pub cpu_rows : ℕ → List Rows
cpu_rows cpus = flat_map (λ cpu. time_rows (OfCpu cpu)) (range_with_len 0 cpus)

-- the rows of those of the refusals that some run has
abbrev pub refused_rows : List Counted → List Column → List Rows
refused_rows those columns = map (λ what. One (Count what)) (filter (was_counted columns) those)

-- all rows, in their order
abbrev pub rows_of : Percents → Bool → Demand → List Column → List Rows
rows_of percents per_cpu load columns =
    map One first_numbers
    ++ (wait_rows false percents load columns
    ++ (wait_rows true percents load columns
    ++ (time_rows Total
    ++ ((if per_cpu then cpu_rows (nat_abs load.cpus) else [])
    ++ refused_rows refusals columns))))
