-- Which waits there are, and their percentiles.
use Rattle.std.specs.Prelude.{ℕ, ◌*◌, ◌==◌, Bool, not, ◌&&◌, ◌||◌, nat_le, List, ◌++◌, length, map, filter, Option, min}
use Rattle.std.specs.Prelude.{true, false, None, count_by}
use Rattle.std.specs.Int.{div_ceil}
use Rattle.std.specs.List.{reduce}
use Rattle.std.specs.Option.{option_map_or}
use Rattle.pc_lab.specs.declared.summary.Summary.{Summary}
use Rattle.pc_lab.specs.declared.waits.Wait.{Wait}
use Rattle.pc_table.specs.declared.figures.Figures.{Figures}
use Rattle.pc_table.specs.declared.rows.Which.{Which}

-- it is one of these waits: of the woken alone, or of all; of that level, or of each
abbrev pub is_among : Which → Wait → Bool
is_among which wait =
    (not which.is_woken || wait.is_woken) && option_map_or (λ level. wait.level == level) which.level true

-- the waits of a run, those that had not ended, too
abbrev pub all_waits : Summary → List Wait
all_waits summary = summary.waits.items ++ summary.unended.items

-- how long these waits of a run lasted
abbrev pub ticks_of : Which → Summary → List ℕ
ticks_of which summary = map (λ wait. wait.ticks) (filter (is_among which) (all_waits summary))

-- how many of the numbers are at most this one
abbrev pub at_most : List ℕ → ℕ → ℕ
at_most numbers n = count_by (λ m. nat_le m n) numbers

-- the number of this rank: the least of the numbers at or below which there are as many
abbrev pub of_rank : ℕ → List ℕ → Option ℕ
of_rank rank numbers = reduce min (filter (λ n. nat_le rank (at_most numbers n)) numbers)

-- the rank of a percentile of so many numbers: that share of them, rounded up
abbrev pub rank_in : ℕ → ℕ → ℕ
rank_in percent count = div_ceil (percent * count) 100

-- the percentile of these numbers; none where there are no numbers
abbrev pub percentile : ℕ → List ℕ → Option ℕ
percentile percent numbers = of_rank (rank_in percent (length numbers)) numbers

-- every wait: of each level, and whatever it was that made its thread ready
abbrev pub every_wait : Which
every_wait = record { is_woken = false; level = None }

-- what is told of waits in a picture: how many they are, and three percentiles of how long they lasted
abbrev pub figures_in : List ℕ → Figures
figures_in ticks =
    record {
      waits = length ticks;
      p50 = percentile 50 ticks;
      p90 = percentile 90 ticks;
      p99 = percentile 99 ticks;
    }

-- the same of all waits of a run
abbrev pub figures_of : Summary → Figures
figures_of summary = figures_in (ticks_of every_wait summary)
