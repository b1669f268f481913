-- What lines ask for.
use Rattle.std.specs.Prelude.{◌≡◌, ℕ, Bool, true, false, Option, Some, None}
use Rattle.pc_calls.specs.declared.call.AgentCall.TheVariants as agent_call
use Rattle.pc_calls.specs.declared.event.Event.{Event}
use Rattle.pc_calls.specs.declared.event.Event.TheVariants as event
use Rattle.pc_advice.specs.declared.deed.Deed.{Deed}
use Rattle.pc_advice.specs.declared.deed.Deed.TheVariants as deed

-- the event that a deed is, where its agent shows by this number what it knows; none of a question
abbrev pub event_of : Deed → ℕ → Option Event
event_of (deed.Env call) number = Some (event.Env call)
event_of (deed.Associate thread queue) number = Some (event.Agent (agent_call.Associate thread queue number))
event_of (deed.Commit cpu thread) number = Some (event.Agent (agent_call.Commit cpu thread number))
event_of (deed.Sleep cpu) number = Some (event.Agent (agent_call.Sleep cpu number))
event_of (deed.Rouse cpu) number = Some (event.Agent (agent_call.Rouse cpu))
event_of (deed.Config queue target) number = Some (event.Agent (agent_call.Config queue target))
event_of (deed.Publish cpu fails) number = Some (event.Publish cpu fails)
event_of (deed.Consume cpu) number = Some (event.Consume cpu)
event_of (deed.Deliver cpu delta) number = Some (event.Deliver cpu delta)
event_of (deed.Answer cpu asker) number = Some (event.Answer cpu asker)
event_of (deed.Pick cpu) number = Some (event.Pick cpu number)
event_of (deed.Steal cpu) number = Some (event.Steal cpu)
event_of (deed.Crash cpu) number = Some (event.Crash cpu)
event_of (deed.Ask question) number = None

-- the deed is the event, but for its number
abbrev pub IsAskedBy : Event → Deed → Type 0
IsAskedBy asked deed = (number : ℕ) × (event_of deed number ≡ Some asked)

-- whether a deed is the environment's
abbrev pub is_environments : Deed → Bool
is_environments (deed.Env call) = true
is_environments _ = false
