-- What happens in a run, and when.
use Rattle.std.specs.Prelude.{ℕ, ◌≤◌, List, [], ◌∷◌, ◌++◌, Option, Some, None, IfSome}
use Rattle.pc_calls.specs.declared.call.AgentCall.TheVariants.{Commit}
use Rattle.pc_calls.specs.declared.event.Event.{Event}
use Rattle.pc_calls.specs.declared.event.Event.TheVariants as event
use Rattle.pc_calls.specs.declared.event.Reply.{Reply}
use Rattle.pc_script.specs.Grammar.{AreInRange, event_row}
use Rattle.pc_world.specs.PlainWorld.{PlainWorld}
use Rattle.pc_world.specs.Steps.{Step}

-- At a tick an event was taken, and this was replied
pub record Moment : Type 0 where
  pub tick : ℕ
  pub event : Event
  pub reply : Reply

-- an event is no answer to a digest
abbrev pub IsNoAnswer : Event → Type 0
IsNoAnswer (event.Answer cpu asker) = ⊥
IsNoAnswer other = Unit {0}

-- an event commits no thread by its name: a commit is the pick of an agent
abbrev pub IsNoCommit : Event → Type 0
IsNoCommit (event.Agent (Commit cpu thread aseq)) = ⊥
IsNoCommit other = Unit {0}

-- an event is one that a run may have
abbrev pub IsPlayable : Event → Type 0
IsPlayable event = IsNoAnswer event × IsNoCommit event

-- the numbers of its event are in the ranges of a script's fields
abbrev pub IsWritten : Moment → Type 0
IsWritten moment = AreInRange (event_row moment.event).fields

-- the tick of the last of these moments; where there is none, the one before
abbrev pub last_tick : Option ℕ → List Moment → Option ℕ
last_tick before [] = before
last_tick before (moment ∷ moments) = last_tick (Some moment.tick) moments

-- The moments lead from one world to another: the reply of each is that of a step, and no tick is before the last
pub data Leads (start : PlainWorld) : List Moment → PlainWorld → Type 0 where
  nothing : Leads start [] start
  one_more : {world next : PlainWorld} (moments : List Moment) (moment : Moment)
      → Leads start moments world → IfSome (last_tick None moments) (λ tick. tick ≤ moment.tick)
      → Step world moment.event moment.reply next → Leads start (moments ++ moment ∷ []) next
