-- What `show` tells of the view of a set in a run.
use Rattle.std.specs.Prelude.{ℕ, ◌+◌, ◌≤◌, ◌<◌, ◌≡◌, ◌==◌, true, false, List, take, map, All}
use Rattle.std.specs.List.{list_any}
use Rattle.std.specs.List.Sorted.{IsStrictlyIncreasing}
use Rattle.pc_messages.specs.Run.{Run}
use Rattle.pc_messages.specs.State.{state_of}
use Rattle.pc_join.specs.Sets.{has}
use Rattle.pc_script.specs.declared.lists.ShownThread.{ShownThread}
use Rattle.pc_script.specs.declared.response.Response.{Response}
use Rattle.pc_script.specs.declared.response.Response.TheVariants.{Opened, View}
use Rattle.pc_agent.specs.PlainAgent.{Set}

-- upto is the greatest number such that the set has the thread's numbers from 1 to it, or 0
pub record IsPrefix (set : Set) (thread upto : ℕ) : Type 0 where
  pub known : (n : ℕ) → 1 ≤ n → n ≤ upto → has set thread n ≡ true
  pub ends : has set thread (upto + 1) ≡ false

-- the row tells the state of the known prefix of a thread in the set, and the known numbers above the prefix
pub record IsShownThread (run : Run) (set : Set) (row : ShownThread) : Type 0 where
  pub some : (n : ℕ) × (has set row.thread n ≡ true)
  pub upto : IsPrefix set row.thread row.upto
  pub state : row.reported ≡ state_of (take row.upto (run row.thread))
  pub above : All (λ n. row.upto < n) row.early
  pub ascending : IsStrictlyIncreasing row.early
  pub early : (n : ℕ) → row.upto < n → list_any (λ x. x == n) row.early ≡ has set row.thread n

-- a row for each thread of which the set has a number, in the order of their names
pub record IsShown (run : Run) (set : Set) (rows : List ShownThread) : Type 0 where
  pub ascending : IsStrictlyIncreasing (map (λ row. row.thread) rows)
  pub each : All (IsShownThread run set) rows
  pub every : (t n : ℕ) → has set t n ≡ true → list_any (λ row. row.thread == t) rows ≡ true

-- the response without what it tells of a view: `ok` in the place of one, and any other response as it is
abbrev pub without_view : Response → Response
without_view (View rows) = Opened
without_view other = other
