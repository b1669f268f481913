-- Which threads may run and how they are ranked, as a view tells, and the run list after a refresh.
use Rattle.std.specs.Prelude.{ℕ, ◌≤◌, ◌≡◌, ◌==◌, Bool, true, false, List, [], ◌∷◌, filter, Option, Some, None}
use Rattle.std.specs.Prelude.{is_some}
use Rattle.std.specs.Prelude.{if◌then◌else◌, unwrap_or}
use Rattle.pc_messages.specs.State.{may_run_on}
use Rattle.pc_messages.specs.declared.reported.Reported.{Reported}
use Rattle.pc_view.specs.declared.view.View.{View}
use Rattle.pc_view.specs.Prefixes.{reported_in}
use Rattle.pc_policy.specs.Rankings.{Ranking}
use Rattle.pc_policy.specs.Ranks.{by_rank}
use Rattle.pc_run_queue.specs.Names.{with_new, by_level}

-- a thread of this state may run on the CPU
abbrev pub may_run : Option Reported → ℕ → Bool
may_run None cpu = false
may_run (Some r) cpu = may_run_on r cpu

-- the rank on the CPU of a thread of this state: none, where it may not run there, or the ranking leaves it out
abbrev pub rank_told : Ranking → ℕ → ℕ → Option Reported → Option ℕ
rank_told ranks cpu t None = None
rank_told ranks cpu t (Some r) = if may_run (Some r) cpu then ranks cpu t r else None

-- the view reports the thread ready, with a mask that allows the CPU
abbrev pub runs_in : View → ℕ → ℕ → Bool
runs_in view cpu t = may_run (reported_in view t) cpu

-- the rank on the CPU of a thread, by what the view reports of it
abbrev pub rank_in : Ranking → View → ℕ → ℕ → Option ℕ
rank_in ranks view cpu t = rank_told ranks cpu t (reported_in view t)

-- there is a rank
abbrev pub is_ranked : (ℕ → Option ℕ) → ℕ → Bool
is_ranked rank t = is_some (rank t)

-- the rank of a thread that has one
abbrev pub rank_of : (ℕ → Option ℕ) → ℕ → ℕ
rank_of rank t = unwrap_or (rank t) 0

-- the view gives the thread a rank on the CPU
abbrev pub ranked_in : Ranking → View → ℕ → ℕ → Bool
ranked_in ranks view cpu t = is_ranked (rank_in ranks view cpu) t

-- that rank, 0 where there is none
abbrev pub rank_known : Ranking → View → ℕ → ℕ → ℕ
rank_known ranks view cpu t = rank_of (rank_in ranks view cpu) t

-- the old names that have a rank, in order, then the touched ones that have one and are absent, each at its first
-- place: of all these the least rank first, those of one rank in this order
abbrev pub refreshed_by : (ℕ → Option ℕ) → List ℕ → List ℕ → List ℕ
refreshed_by rank old touched =
    by_rank (rank_of rank) (with_new (is_ranked rank) (filter (is_ranked rank) old) touched)

-- that, by the state that is reported of each thread: ranked, where it is ready, with a mask that allows the CPU
abbrev pub refreshed_as : Ranking → (ℕ → Option Reported) → ℕ → List ℕ → List ℕ → List ℕ
refreshed_as ranks reported cpu old touched = refreshed_by (λ t. rank_told ranks cpu t (reported t)) old touched

-- that, by what the view reports
abbrev pub refreshed : Ranking → View → ℕ → List ℕ → List ℕ → List ℕ
refreshed ranks view cpu old touched = refreshed_as ranks (reported_in view) cpu old touched

-- by these ranks a refresh that touches no name leaves the list as it is: each of its names has a rank, and none stands
-- behind one of a greater rank
abbrev pub StandsBy : (ℕ → Option ℕ) → List ℕ → Type 0
StandsBy rank list = refreshed_by rank list [] ≡ list

-- the list stands by the ranks that the view gives
abbrev pub IsSettled : Ranking → View → ℕ → List ℕ → Type 0
IsSettled ranks view cpu list = StandsBy (rank_in ranks view cpu) list

-- the rank that the first row of the thread notes; of a thread that no row notes, the rank that it has
abbrev pub rank_noted : List (ℕ × ℕ) → (ℕ → Option ℕ) → ℕ → Option ℕ
rank_noted [] rank t = rank t
rank_noted (row ∷ rows) rank t = if row.0 == t then Some row.1 else rank_noted rows rank t

-- no row has a rank above this one
abbrev pub AreUpTo : ℕ → List (ℕ × ℕ) → Type 0
AreUpTo most [] = Unit {0}
AreUpTo most (row ∷ rows) = (row.1 ≤ most) × AreUpTo most rows

-- the list stands by the noted ranks, and by those that the view gives where none is noted
abbrev pub StandsAsNoted : Ranking → View → ℕ → List (ℕ × ℕ) → List ℕ → Type 0
StandsAsNoted ranks view cpu noted list = StandsBy (rank_noted noted (rank_in ranks view cpu)) list

-- the level of a thread of this state
abbrev pub level_told : Option Reported → ℕ
level_told None = 0
level_told (Some r) = r.level

-- the old names that may run, in order, then the touched ones that may and are absent, each at its first place: of all
-- these the highest level first, those of one level in this order
abbrev pub level_refreshed_as : (ℕ → Option Reported) → ℕ → List ℕ → List ℕ → List ℕ
level_refreshed_as reported cpu old touched =
    let runs = λ (t : ℕ). may_run (reported t) cpu in
    by_level (λ t. level_told (reported t)) (with_new runs (filter runs old) touched)
