-- Rankings: what a policy ranks a thread by, and those that are built in.
use Rattle.std.specs.Prelude.{ℕ, ◌+◌, ◌-◌, ◌*◌, ◌^◌, ◌==◌, leb, min, count_ones, List, [], ◌∷◌, Option, Some, None}
use Rattle.std.specs.Prelude.{if◌then◌else◌}
use Rattle.pc_messages.specs.declared.reported.Reported.{Reported}
use Rattle.pc_policy.specs.declared.named.OrderName.{OrderName}
use Rattle.pc_policy.specs.declared.named.OrderName.TheVariants.{Levels, Fifo, LeastRan, LevelsThenLeastRan, Rank}
use Rattle.pc_policy.specs.declared.order.Order.{Order}
use Rattle.pc_policy.specs.declared.order.Order.TheVariants as order
use Rattle.pc_rank.specs.Meaning.{rank_by}
use Rattle.pc_rank.specs.declared.facts.Facts.{Facts}

-- of the CPU, the thread and what is reported of it: its rank, of which the least runs first; none, where it is left
-- out
abbrev pub Ranking : Type 0
Ranking = ℕ → ℕ → Reported → Option ℕ

-- the highest level first: as far below 7 as the level is; there is no level above 7
abbrev pub by_levels : Ranking
by_levels cpu t r = if leb r.level 7 then Some (7 - r.level) else None

-- all threads alike: first come first served
abbrev pub all_alike : Ranking
all_alike cpu t r = Some 0

-- the fewest ticks first
abbrev pub least_ran : Ranking
least_ran cpu t r = Some r.ran

-- the highest level first, and within a level the fewest ticks; from 2 ^ 60 - 1 ticks on all are alike
abbrev pub levels_then_least_ran : Ranking
levels_then_least_ran cpu t r = if leb r.level 7 then Some ((7 - r.level) * 2 ^ 60 + min r.ran (2 ^ 60 - 1)) else None

-- the rank in the first row of the name; none, where no row names it
abbrev pub rank_named : List (ℕ × ℕ) → ℕ → Option ℕ
rank_named [] t = None
rank_named (row ∷ rows) t = if row.0 == t then Some row.1 else rank_named rows t

-- what an expression sees of a thread
abbrev pub facts_of : ℕ → ℕ → Reported → Facts
facts_of cpu t r =
    record { level = r.level; ran = r.ran; thread = t; cpu = cpu; allowed = count_ones r.mask }

-- the ranking of an order that has a text
abbrev pub ranks_named : OrderName → Ranking
ranks_named Levels = by_levels
ranks_named Fifo = all_alike
ranks_named LeastRan = least_ran
ranks_named LevelsThenLeastRan = levels_then_least_ran
ranks_named (Rank expression) = λ cpu t r. rank_by expression (facts_of cpu t r)

-- the ranks that a policy gives that is built in
abbrev pub ranks_of : Order → Ranking
ranks_of (order.Named name) = ranks_named name
ranks_of (order.Table rows) = λ cpu t r. rank_named rows.items t
