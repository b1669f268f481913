-- The rows of a view, in the words of what it holds of each thread.
use Rattle.std.specs.Prelude.{ℕ, ◌≡◌, ◌==◌, true, List, map, Option, Some, IsSome, All}
use Rattle.std.specs.List.{list_any}
use Rattle.std.specs.List.Sorted.{IsStrictlyIncreasing}
use Rattle.pc_thread_view.specs.Told.{Told}
use Rattle.pc_script.specs.declared.lists.ShownThread.{ShownThread}

-- the row of a thread of which this is told
abbrev pub row_told : ℕ → Told → ShownThread
row_told thread told =
    record { thread = thread; upto = told.upto; reported = told.state; early = map (λ e. e.0) told.early }

-- a row for each thread
abbrev pub rows_told : List (ℕ × Told) → List ShownThread
rows_told entries = map (λ e. row_told e.0 e.1) entries

-- the row is that of what is known of its thread
abbrev pub IsRow : (ℕ → Option Told) → ShownThread → Type 0
IsRow known row = (told : Told) × (known row.thread ≡ Some told) × (row ≡ row_told row.thread told)

-- the rows are those of all threads, in order
pub record ShowsAll (known : ℕ → Option Told) (rows : List ShownThread) : Type 0 where
  pub ascending : IsStrictlyIncreasing (map (λ row. row.thread) rows)
  pub each : All (IsRow known) rows
  pub every : (t : ℕ) → IsSome (known t) → list_any (λ row. row.thread == t) rows ≡ true
