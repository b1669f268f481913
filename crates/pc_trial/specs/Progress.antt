-- The line by which a person at a terminal sees that the lab goes on, and the one that tells of a run that stalled.
use Rattle.std.specs.Prelude.{ℕ, List, ◌∷◌, ◌++◌, ◌+◌, ◌≤◌, codes, decimal}
use Rattle.pc_trial.specs.declared.watcher.SoFar.{SoFar}
use Rattle.pc_trial.specs.declared.progress.Stall.{Stall}
use Rattle.pc_trial.specs.declared.progress.TheConstants.{EVENTS_BETWEEN}

-- how many of the variants were played, and how many events there were
abbrev pub progress_text : SoFar → List ℕ
progress_text so_far =
    decimal so_far.played
    ++ (codes " of " ++ (decimal so_far.all
    ++ (codes " variants played, " ++ (decimal so_far.events ++ codes " events"))))

-- the variant under which a run stalled, and the first of the threads that live
abbrev pub stall_text : Stall → List ℕ
stall_text stall =
    codes "variant "
    ++ (decimal stall.variant
    ++ (codes ": thread " ++ (decimal stall.thread ++ codes " waits, and no agent will run it")))

-- a text in the place of what a terminal's line has: back to the line's start, the text, and what is left of the
-- line erased
abbrev pub in_place : List ℕ → List ℕ
in_place text = 13 ∷ (text ++ 27 ∷ codes "[K")

-- the next line is due as many events after the last one as there are to be between two
abbrev pub IsDue : ℕ → SoFar → Type 0
IsDue told so_far = told + EVENTS_BETWEEN ≤ so_far.events
