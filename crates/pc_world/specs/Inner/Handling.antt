-- What an event of the world comes to, with memory and without.
use Rattle.std.specs.Prelude.{◌≡◌, ◌⊎◌, List, [], ◌∷◌, ◌++◌, Result, Ok, Err}
use Rattle.pc_calls.specs.declared.event.Event.{Event}
use Rattle.pc_calls.specs.declared.event.Reply.{Reply}
use Rattle.pc_join.specs.declared.join.OutOfMemory.{OutOfMemory}
use Rattle.pc_world.specs.declared.parts.Parts.{Parts}
use Rattle.pc_world.specs.Counting.{CountsEvent, CountsNothing}
use Rattle.pc_world.specs.PlainWorld.{PlainWorld}
use Rattle.pc_world.specs.Shows.{Does, KeepsSent, LeavesWhenRanOut, ShowsWorld}
use Rattle.pc_world.specs.RanOut.{RanOut}
use Rattle.pc_world.specs.Steps.{Step}

-- a reply that was put into a place, or want of memory
abbrev pub outcome_of : Result (Unit {0}) OutOfMemory → Reply → Result Reply OutOfMemory
outcome_of (Ok done) told = Ok told
outcome_of (Err fault) told = Err fault

-- a step with its reply, or what the event leaves without memory
abbrev pub Outcome : PlainWorld → Event → Result Reply OutOfMemory → PlainWorld → Type 0
Outcome w event (Ok told) new = Step w event told new
Outcome w event (Err fault) new = RanOut w event new

-- for every plain world that is shown before, such an outcome is shown after, and what was sent stays sent
abbrev pub Handles : Event → Result Reply OutOfMemory → Parts → Parts → Type 0
Handles event result old new =
    (w : PlainWorld) → ShowsWorld old w → (w' : PlainWorld) × Outcome w event result w' × ShowsWorld new w'
    × KeepsSent old new

-- the event was counted, or nothing was, where memory ran out
abbrev pub CountsOutcome : Event → Result Reply OutOfMemory → Parts → Parts → Type 0
CountsOutcome event (Ok told) old new = CountsEvent event old new told
CountsOutcome event (Err fault) old new = CountsNothing old new

-- for every plain world that is shown before, the event was done, or left what it leaves without memory
abbrev pub StepsInPart : Event → Parts → Parts → Type 0
StepsInPart event old new =
    (w : PlainWorld) → ShowsWorld old w → (w' : PlainWorld)
    × (RanOut w event w' ⊎ ((told : Reply) × Step w event told w')) × ShowsWorld new w'

-- an event was done, and its reply stands at the end
abbrev pub StepsInto : Event → List Reply → List Reply → Parts → Parts → Type 0
StepsInto event before after old new =
    (told : Reply) × (after ≡ before ++ told ∷ []) × Does (λ w. Step w event) old new told

-- an event was done, and counted by a reply for which there was no place; or it left what it leaves without memory, and
-- nothing was counted
abbrev pub CountsOrLeaves : Event → Parts → Parts → Type 0
CountsOrLeaves event old new =
    ((told : Reply) × Does (λ w. Step w event) old new told × CountsEvent event old new told)
    ⊎ (LeavesWhenRanOut event old new × CountsNothing old new)

-- an event was counted by its reply, which stands at the end
abbrev pub CountsInto : Event → List Reply → List Reply → Parts → Parts → Type 0
CountsInto event before after old new = (told : Reply) × (after ≡ before ++ told ∷ []) × CountsEvent event old new told
