-- What is kept of threads as far as they wait.
use Rattle.std.specs.Prelude.{◌≡◌, ℕ, ◌<◌, false, List, length, get_or}
use Rattle.pc_load.specs.Loads.{Demand}
use Rattle.pc_lab.specs.declared.waits.Waiter.{Waiter}
use Rattle.pc_lab.specs.declared.waits.Wait.{Wait}
use Rattle.pc_lab.specs.Moments.{Moment}
use Rattle.pc_lab.specs.Waiting.{Since, level_of, ready_since, waited}

-- what is kept of no thread
abbrev pub nobody : Waiter
nobody = record { mask = 0; level = 0; is_ready = false; is_woken = false; since = 0 }

-- since when a thread is ready
abbrev pub since_of : Waiter → Since
since_of waiter = record { tick = waiter.since; is_woken = waiter.is_woken }

-- the same, of the thread with this name
abbrev pub since_in : List Waiter → ℕ → Since
since_in waiters t = since_of (get_or waiters t nobody)

-- its level
abbrev pub level_in : List Waiter → ℕ → ℕ
level_in waiters t = (get_or waiters t nobody).level

-- how long it has waited up to a tick
abbrev pub wait_in : List Waiter → ℕ → ℕ → Wait
wait_in waiters tick t = waited (since_in waiters t) (level_in waiters t) tick

-- the same threads with the same levels, each ready since when the next says
pub record AreNext (next : ℕ → Since) (old new : List Waiter) : Type 0 where
  pub many : length new ≡ length old
  pub levels : (t : ℕ) → level_in new t ≡ level_in old t
  pub since : (t : ℕ) → since_in new t ≡ next t

-- the threads of a load that are kept are its first ones, each ready since when the moments say
pub record AreBehind (load : Demand) (moments : List Moment) (waiters : List Waiter) : Type 0 where
  pub since : (t : ℕ) → since_in waiters t ≡ ready_since moments t
  pub levels : (t : ℕ) → t < length waiters → level_in waiters t ≡ level_of load t
