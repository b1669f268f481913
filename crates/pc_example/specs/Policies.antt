-- A ranking of the caller's own.
use Rattle.std.specs.Prelude.{ℕ, ◌==◌, ◌&&◌, nat_lt, Some, None, if◌then◌else◌}
use Rattle.pc_policy.specs.Rankings.{Ranking}

-- the fewest ticks first; on the first so many CPUs threads of level 0 have no rank, so no agent picks one there
abbrev pub least_ran_but_on_kept : ℕ → Ranking
least_ran_but_on_kept kept cpu t r = if nat_lt cpu kept && r.level == 0 then None else Some r.ran
