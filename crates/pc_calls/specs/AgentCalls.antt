-- The calls of an agent, as calls of the kernel.
use Rattle.std.specs.Prelude.{ℕ, Option}
use Rattle.pc_calls.specs.declared.call.AgentCall.TheVariants as agent_call
use Rattle.pc_calls.specs.declared.call.Call.{Call}
use Rattle.pc_calls.specs.declared.call.Call.TheVariants.{Agent}

-- a thread is given another home queue, under the number that the caller last saw
abbrev pub associates : ℕ → ℕ → ℕ → Call
associates thread queue number = Agent (agent_call.Associate thread queue number)

-- a thread is put on a CPU, under the count of posts that the caller last saw
abbrev pub commits : ℕ → ℕ → ℕ → Call
commits cpu thread aseq = Agent (agent_call.Commit cpu thread aseq)

-- a CPU's agent is put to sleep, under the count of posts that it last saw
abbrev pub sleeps : ℕ → ℕ → Call
sleeps cpu aseq = Agent (agent_call.Sleep cpu aseq)

-- a CPU's agent is woken
abbrev pub rouses : ℕ → Call
rouses cpu = Agent (agent_call.Rouse cpu)

-- a queue is set to wake an agent, or none
abbrev pub configures : ℕ → Option ℕ → Call
configures queue target = Agent (agent_call.Config queue target)
