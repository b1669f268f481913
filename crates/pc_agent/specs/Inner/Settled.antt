-- Threads of run lists that are noted, each with its rank.
use Rattle.std.specs.Prelude.{ℕ, ◌≡◌, ◌==◌, Bool, true, false, List, Some}
use Rattle.std.specs.List.{list_any}
use Rattle.pc_view.specs.declared.view.View.{View}
use Rattle.pc_delta.specs.declared.part.Part.{Part}
use Rattle.pc_delta.specs.Parts.{tells_of}
use Rattle.pc_policy.specs.Rankings.{Ranking}
use Rattle.pc_run_queue.specs.Names.{has_name}
use Rattle.pc_run_queue.specs.Runs.{rank_in, rank_noted}

-- the thread is noted, with some rank
abbrev pub is_noted : List (ℕ × ℕ) → ℕ → Bool
is_noted noted t = list_any (λ row. row.0 == t) noted

-- the thread is ranked as it was noted
abbrev pub IsAsNoted : Ranking → View → ℕ → ℕ × ℕ → Type 0
IsAsNoted ranks view cpu row = rank_in ranks view cpu row.0 ≡ Some row.1

-- two lists of notes note the same ranks, where a thread that is not noted counts as noted with the rank that it has
abbrev pub AreNotedAlike : Ranking → View → ℕ → List (ℕ × ℕ) → List (ℕ × ℕ) → Type 0
AreNotedAlike ranks view cpu old new =
    (t : ℕ) → rank_noted new (rank_in ranks view cpu) t ≡ rank_noted old (rank_in ranks view cpu) t

-- of the threads of the list, the parts tell of none that is not noted
abbrev pub TellsOfNoOther : List Part → List ℕ → List (ℕ × ℕ) → Type 0
TellsOfNoOther parts list noted = (t : ℕ) → has_name list t ≡ true → is_noted noted t ≡ false → tells_of parts t ≡ false
