-- What is left of an event that finds no memory.
use Rattle.std.specs.Prelude.{ℕ, ◌≡◌, ◌⊎◌, List, [], ◌∷◌, ◌++◌, true, false, Some, None, Bool, MatchOption, slice_get}
use Rattle.std.specs.Prelude.{is_some}
use Rattle.pc_messages.specs.Items.{pairs_in}
use Rattle.pc_calls.specs.declared.call.Call.{Call}
use Rattle.pc_calls.specs.declared.call.Call.TheVariants as call
use Rattle.pc_calls.specs.declared.event.Event.{Event}
use Rattle.pc_calls.specs.declared.event.Event.TheVariants.{Publish, Deliver, Answer, Steal}
use Rattle.pc_calls.specs.declared.event.Reply.{Reply}
use Rattle.pc_calls.specs.Events.{call_of}
use Rattle.pc_join.specs.Sets.{IsBetween, as_members}
use Rattle.pc_kernel.specs.PlainKernel.{content}
use Rattle.pc_kernel.specs.Reads.{shown, is_cpu, on}
use Rattle.pc_kernel.specs.Steps as kernel
use Rattle.pc_agent.specs.PlainAgent.{Set}
use Rattle.pc_agent.specs.Running.{FindsFirst}
use Rattle.pc_world.specs.PlainWorld.{PlainWorld, copied_all, with_agent}
use Rattle.pc_world.specs.Steps.{Runs, are_cpus, stealable}

-- the agent has taken in a part of the set, and nothing else changed
pub record IsWidened (w : PlainWorld) (c : ℕ) (more : Set) (new : PlainWorld) : Type 0 where
  pub set : Set
  pub between : IsBetween (as_members (w.agents c).known) (as_members more) (as_members set)
  pub after : new ≡ with_agent w c (record (w.agents c) { known = set })

-- a call that takes memory, and is not refused
abbrev pub RanOutInCall : PlainWorld → Call → Type 0
RanOutInCall w (call.Env c) = kernel.refused (shown w.kernel) (call.Env c) ≡ None
RanOutInCall w c = ⊥

-- a publish: the agent has taken in a part of what its queue holds, or all of it, where its send found no memory; a
-- send that its wire refuses asks for none
abbrev pub RanOutInPublish : PlainWorld → ℕ → Bool → PlainWorld → Type 0
RanOutInPublish w c false new = IsWidened w c (pairs_in (content w.kernel c)) new ⊎ (new ≡ copied_all w c)
RanOutInPublish w c true new = IsWidened w c (pairs_in (content w.kernel c)) new

-- an event that is no call and takes memory, where none of the refusals before want of memory holds; and what it leaves
abbrev pub RanOutInOwn : PlainWorld → Event → PlainWorld → Type 0
RanOutInOwn w (Publish cpu fails) new = (is_cpu (shown w.kernel) cpu ≡ true) × RanOutInPublish w cpu fails new
RanOutInOwn w (Deliver cpu delta) new =
    (is_cpu (shown w.kernel) cpu ≡ true) × (set : Set) × (slice_get w.sent delta ≡ Some set) × IsWidened w cpu set new
RanOutInOwn w (Answer cpu asker) new = (are_cpus w cpu asker ≡ true) × (new ≡ w)
RanOutInOwn w (Steal cpu) new =
    (is_cpu (shown w.kernel) cpu ≡ true) × (is_some (on (shown w.kernel) cpu) ≡ false)
    × (t : ℕ) × FindsFirst (stealable w cpu) (Some t) × (new ≡ w)
RanOutInOwn w event new = ⊥

-- an event that takes memory and finds none: none of the refusals that come before want of memory holds (a refused
-- send, and what the kernel refuses of a steal, come after it); a call leaves all as it was
abbrev pub RanOut : PlainWorld → Event → PlainWorld → Type 0
RanOut w event new = MatchOption (call_of event) (RanOutInOwn w event new) (λ c. RanOutInCall w c × (new ≡ w))

-- the first of these events found no memory
abbrev pub RanOutAtFirst : PlainWorld → List Event → PlainWorld → Type 0
RanOutAtFirst w [] new = ⊥
RanOutAtFirst w (event ∷ rest) new = RanOut w event new

-- some first of these events were done, in order, and the next one of them found no memory
pub record RanOutAmong (w : PlainWorld) (events : List Event) (new : PlainWorld) : Type 0 where
  pub done : List Event
  pub next : Event
  pub rest : List Event
  pub replies : List Reply
  pub reached : PlainWorld
  pub order : events ≡ done ++ next ∷ rest
  pub ran : Runs w done replies reached
  pub found_none : RanOut reached next new

-- some first events were done, in order, and the next one as far as it goes without memory
pub record IsCutShort (w : PlainWorld) (events : List Event) (new : PlainWorld) : Type 0 where
  pub done : List Event
  pub rest : List Event
  pub replies : List Reply
  pub reached : PlainWorld
  pub order : events ≡ done ++ rest
  pub ran : Runs w done replies reached
  pub next : (new ≡ reached) ⊎ RanOutAtFirst reached rest new
