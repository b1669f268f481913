-- What is true of an agent's shortcuts, by its ranking, its view, its CPU and its run list.
use Rattle.std.specs.Prelude.{ℕ, ◌≡◌, Bool, false, List, [], ◌∷◌, ◌++◌, IsTrue}
use Rattle.pc_view.specs.declared.view.View.{View}
use Rattle.pc_delta.specs.declared.part.Part.{Part}
use Rattle.pc_policy.specs.Rankings.{Ranking}
use Rattle.pc_run_queue.specs.Runs.{AreUpTo, IsSettled, StandsAsNoted, runs_in}
use Rattle.pc_run_queue.specs.declared.run_queue.TheConstants.{GREATEST_RANK}
use Rattle.pc_agent.specs.declared.shortcuts.Shortcuts.{Shortcuts}
use Rattle.pc_agent.specs.Inner.Settled.{TellsOfNoOther}
use Rattle.pc_agent.specs.Inner.Wanted.{HoldsAll, IsNoneWantedBelow}

-- the list stands by the notes where it counts as settled, the names that are kept are those of the threads that may
-- run, and no thread that is passed is wanted
pub record AreTrue (ranks : Ranking) (shortcuts : Shortcuts) (view : View) (cpu : ℕ) (list : List ℕ) : Type 0 where
  pub settled : IsTrue shortcuts.settled → StandsAsNoted ranks view cpu shortcuts.noted.items list
  pub runnable : HoldsAll (runs_in view cpu) shortcuts.runnable
  pub passed : IsNoneWantedBelow shortcuts.passed (runs_in view cpu) list

-- of an agent by whose view no thread may run, and whose run list is empty
abbrev pub AreTrueOfNothing : Shortcuts → Type 0
AreTrueOfNothing shortcuts =
    (ranks : Ranking) (view : View) (cpu : ℕ) → ((t : ℕ) → runs_in view cpu t ≡ false)
    → AreTrue ranks shortcuts view cpu []

-- of every agent
abbrev pub AreTrueOfAll : Shortcuts → Type 0
AreTrueOfAll shortcuts =
    (ranks : Ranking) (view : View) (cpu : ℕ) (list : List ℕ) → AreTrue ranks shortcuts view cpu list

-- after a change of the run list they are true, where they were
abbrev pub StayTrue : Shortcuts → List ℕ → Shortcuts → List ℕ → Type 0
StayTrue old list new less =
    (ranks : Ranking) (view : View) (cpu : ℕ) → AreTrue ranks old view cpu list → AreTrue ranks new view cpu less

-- they are true, no thread is passed, and where the list counts as settled each of its threads is noted of which the
-- parts tell
pub record AreNoted (ranks : Ranking) (parts : List Part) (shortcuts : Shortcuts) (view : View) (cpu : ℕ)
    (list : List ℕ) : Type 0 where
  pub none_passed : shortcuts.passed ≡ 0
  pub runnable : HoldsAll (runs_in view cpu) shortcuts.runnable
  pub settled : IsTrue shortcuts.settled → StandsAsNoted ranks view cpu shortcuts.noted.items list
  pub others : IsTrue shortcuts.settled → TellsOfNoOther parts list shortcuts.noted.items

-- the thread is put at the end of the run list: where it is in order there the list stays settled, and where it is
-- noted with the greatest rank the list stands by the notes as it did
pub record IsPutLast (ranks : Ranking) (view : View) (cpu : ℕ) (in_order : Bool) (thread : ℕ) (list longer : List ℕ)
    : Type 0 where
  pub last : longer ≡ list ++ thread ∷ []
  pub settled : IsTrue in_order → IsSettled ranks view cpu list → IsSettled ranks view cpu longer
  pub noted : (rows : List (ℕ × ℕ)) → AreUpTo GREATEST_RANK rows → StandsAsNoted ranks view cpu rows list
      → StandsAsNoted ranks view cpu ((thread, GREATEST_RANK) ∷ rows) longer
