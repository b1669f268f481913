-- How far a view and a set of pairs know a thread without a gap, and the state that they report of it.
use Rattle.std.specs.Prelude.{ℕ, zero, suc, ◌&&◌, if◌then◌else◌, max, take, Bool, true, List, [], ◌∷◌, Option, Some}
use Rattle.std.specs.Prelude.{None}
use Rattle.pc_messages.specs.declared.reported.Reported.{Reported}
use Rattle.pc_messages.specs.Run.{Run}
use Rattle.pc_messages.specs.State.{state_of}
use Rattle.pc_join.specs.Sets.{has}
use Rattle.pc_thread_view.specs.Told.{Told}
use Rattle.pc_view.specs.declared.view.View.{View}
use Rattle.pc_view.specs.Views.{thread_of}

-- the number up to which all is told of a thread; 0 where nothing is
abbrev pub upto_told : Option Told → ℕ
upto_told None = 0
upto_told (Some told) = told.upto

-- the number up to which the view knows all messages of the thread
abbrev pub upto_of : View → ℕ → ℕ
upto_of view t = upto_told (thread_of view t)

-- the state that is told of a thread
abbrev pub state_told : Option Told → Option Reported
state_told None = None
state_told (Some told) = told.state

-- the state that the view reports of the thread
abbrev pub reported_in : View → ℕ → Option Reported
reported_in view t = state_told (thread_of view t)

-- whether the set has the thread's numbers from 1 to n
abbrev pub has_upto : List (ℕ × ℕ) → ℕ → ℕ → Bool
has_upto set t zero = true
has_upto set t (suc n) = has set t (suc n) && has_upto set t n

-- the greatest number in the set; 0 in none
abbrev pub top : List (ℕ × ℕ) → ℕ
top [] = 0
top (pair ∷ set) = max pair.1 (top set)

-- the greatest number up to n to which the set has the thread's numbers from 1 on
abbrev pub upto_within : List (ℕ × ℕ) → ℕ → ℕ → ℕ
upto_within set t zero = 0
upto_within set t (suc n) = if has_upto set t (suc n) then suc n else upto_within set t n

-- the greatest n such that the set has the thread's numbers from 1 to n
abbrev pub upto : List (ℕ × ℕ) → ℕ → ℕ
upto set t = upto_within set t (top set)

-- the state that the view of a set in a run reports of the thread
abbrev pub reports : Run → List (ℕ × ℕ) → ℕ → Option Reported
reports run set t = state_of (take (upto set t) (run t))
