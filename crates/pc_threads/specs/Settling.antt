-- What views tell of a run together, and what is missing where they do not tell all of it.
use Rattle.std.specs.Prelude.{ℕ, ◌≡◌, ◌<◌, true, false, List, [], ◌∷◌, take, Some, Result, Ok, Err, slice_get, All}
use Rattle.std.specs.List.{list_any}
use Rattle.pc_messages.specs.Run.{Run}
use Rattle.pc_join.specs.Sets.{Members, IsSameSet}
use Rattle.pc_view.specs.declared.view.View.{View}
use Rattle.pc_view.specs.Views.{IsOfRun, pairs_in, pairs_of}
use Rattle.pc_threads.specs.declared.book.settling.RunFault.{RunFault}
use Rattle.pc_threads.specs.declared.book.settling.RunFault.TheVariants.{Audit, Driver, GaveUp, Incomplete, OutOfMemory}
use Rattle.pc_threads.specs.declared.book.settling.RunFault.TheVariants.{StartFailed, TimeUp, Unaccounted}

-- the messages that some view knows
abbrev pub pairs_of_all : List View → Members
pairs_of_all views m = list_any (λ view. pairs_of view m) views

-- each view is of the run
abbrev pub AreOfRun : Run → List View → Type 0
AreOfRun run views = All (IsOfRun run) views

-- each view is of the run, and together they know all its messages
pub record AreWhole (run : Run) (views : List View) : Type 0 where
  pub of_run : AreOfRun run views
  pub all : IsSameSet (pairs_of_all views) (pairs_in run)

-- the view of all messages of the run
pub record IsViewOfAll (run : Run) (view : View) : Type 0 where
  pub of_run : IsOfRun run view
  pub all : IsSameSet (pairs_of view) (pairs_in run)

-- the view at this place is the first that is not of the run
pub record IsFirstStrange (run : Run) (views : List View) (place : ℕ) : Type 0 where
  pub view : View
  pub there : slice_get views place ≡ Some view
  pub before : AreOfRun run (take place views)
  pub strange : ¬ IsOfRun run view

-- some message of the thread is in no view, and of each lesser thread each message is in some view
pub record IsLeastLacking (run : Run) (views : List View) (thread : ℕ) : Type 0 where
  pub number : ℕ
  pub told : pairs_in run (thread ∷ number ∷ []) ≡ true
  pub unknown : pairs_of_all views (thread ∷ number ∷ []) ≡ false
  pub before : (t n : ℕ) → t < thread → pairs_in run (t ∷ n ∷ []) ≡ true → pairs_of_all views (t ∷ n ∷ []) ≡ true

-- what is settled of a run by the views of CPUs 0, 1, ..
abbrev pub Settles : Run → List View → Result View RunFault → Type 0
Settles run views (Ok view) = AreWhole run views × IsViewOfAll run view
Settles run views (Err (Audit cpu)) = IsFirstStrange run views cpu
Settles run views (Err OutOfMemory) = AreOfRun run views
Settles run views (Err (Incomplete thread)) = AreOfRun run views × IsLeastLacking run views thread
Settles run views (Err StartFailed) = ⊥
Settles run views (Err (GaveUp cpu)) = ⊥
Settles run views (Err TimeUp) = ⊥
Settles run views (Err (Driver refusal)) = ⊥
Settles run views (Err Unaccounted) = ⊥
