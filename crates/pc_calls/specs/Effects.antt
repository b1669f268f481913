-- What an event is about, and what it does where it is accepted, as far as its own words tell.
use Rattle.std.specs.Prelude.{ℕ, Bool, true, false, ◌||◌, if◌then◌else◌, Option, Some, None, option_map, is_some}
use Rattle.pc_messages.specs.declared.reported.Phase.{Phase}
use Rattle.pc_messages.specs.declared.reported.Phase.TheVariants.{Blocked, Ready, Dead}
use Rattle.pc_calls.specs.declared.call.AgentCall.TheVariants as agent_call
use Rattle.pc_calls.specs.declared.call.AgentCall.{AgentCall}
use Rattle.pc_calls.specs.declared.call.EnvCall.{EnvCall}
use Rattle.pc_calls.specs.declared.call.EnvCall.TheVariants as env
use Rattle.pc_calls.specs.declared.effect.Effect.{Effect}
use Rattle.pc_calls.specs.declared.event.Event.{Event}
use Rattle.pc_calls.specs.declared.event.Event.TheVariants as event
use Rattle.pc_calls.specs.declared.leaving.Leaving.{Leaving}
use Rattle.pc_calls.specs.declared.leaving.Leaving.TheVariants.{Yield, Block, Preempt, Die}
use Rattle.pc_calls.specs.declared.leaving.Left.{Left}
use Rattle.pc_calls.specs.Leavings.{left_by}

-- the phase in which a thread is once it has left its CPU so
abbrev pub phase_behind : Leaving → Phase
phase_behind Yield = Ready
phase_behind Block = Blocked
phase_behind Preempt = Ready
phase_behind Die = Dead

-- about this CPU; no thread's phase or CPU changes
abbrev pub about : ℕ → Effect
about cpu = record { cpu = Some cpu; thread = None; posts = false; phase = None; left = None; comes = false }

-- a thread comes to this CPU
abbrev pub coming : ℕ → Effect
coming cpu = record (about cpu) { comes = true }

-- an item is posted to this queue, and the thread that it is of, if any, is in this phase from then on
abbrev pub posting : ℕ → Option Phase → Effect
posting queue phase = record (about queue) { posts = true; phase = phase }

-- a message of this thread is posted, which is in this phase from then on
abbrev pub telling : ℕ → Option Phase → Effect
telling t phase = record { cpu = None; thread = Some t; posts = true; phase = phase; left = None; comes = false }

-- the thread on a CPU leaves it so, and a message of it is posted
abbrev pub leaving : Option Left → Effect
leaving left = record {
  cpu = option_map (λ l. l.cpu) left;
  thread = None;
  posts = is_some left;
  phase = option_map (λ l. phase_behind l.leaving) left;
  left = left;
  comes = false;
}

-- the effect of a call of the environment
abbrev pub effect_of_env : EnvCall → Effect
effect_of_env (env.Create queue ready mask) = posting queue (Some (if ready then Ready else Blocked))
effect_of_env (env.Wake t) = telling t (Some Ready)
effect_of_env (env.SetAffinity t mask) = telling t None
effect_of_env (env.SetPriority t level) = telling t None
effect_of_env (env.Tick cpu) = posting cpu None
effect_of_env call = leaving (left_by call)

-- the effect of a call of an agent
abbrev pub effect_of_agent : AgentCall → Effect
effect_of_agent (agent_call.Associate t queue number) = record (about queue) { thread = Some t }
effect_of_agent (agent_call.Commit cpu t aseq) = record (coming cpu) { thread = Some t }
effect_of_agent (agent_call.Sleep cpu aseq) = about cpu
effect_of_agent (agent_call.Rouse cpu) = about cpu
effect_of_agent (agent_call.Config queue target) = about queue

-- the effect of an event
abbrev pub effect_of : Event → Effect
effect_of (event.Env call) = effect_of_env call
effect_of (event.Agent call) = effect_of_agent call
effect_of (event.Publish cpu fails) = about cpu
effect_of (event.Consume cpu) = about cpu
effect_of (event.Deliver cpu delta) = about cpu
effect_of (event.Answer cpu asker) = about cpu
effect_of (event.Pick cpu aseq) = coming cpu
effect_of (event.Steal cpu) = about cpu
effect_of (event.Crash cpu) = about cpu

-- the CPU on which another thread, or none, may run behind it
abbrev pub changed_cpu : Effect → Option ℕ
changed_cpu effect = if is_some effect.left || effect.comes then effect.cpu else None
