-- The agents of CPUs 0, 1, ..
use Rattle.std.specs.Prelude.{ℕ, ◌≡◌, List, length, Some, slice_get}
use Rattle.pc_messages.specs.Run.{Run}
use Rattle.pc_policy.specs.Rules.{Rules}
use Rattle.pc_agent.specs.declared.agent.Agent.{Agent}
use Rattle.pc_agent.specs.Counts.{none_counted}
use Rattle.pc_agent.specs.PlainAgent.{fresh}
use Rattle.pc_agent.specs.Shows.{ShowsAgent, counts_of, cpu_of}

-- each is the agent of its own CPU
abbrev pub AreOwn : List Agent → Type 0
AreOwn agents = (c : ℕ) (agent : Agent) → slice_get agents c ≡ Some agent → cpu_of agent ≡ c

-- so many agents that know nothing and have counted nothing, with these rules
pub record AreNew (rules : ℕ → Rules) (count : ℕ) (agents : List Agent) : Type 0 where
  pub count_is : length agents ≡ count
  pub own : AreOwn agents
  pub fresh : (c : ℕ) (agent : Agent) → slice_get agents c ≡ Some agent → (run : Run)
      → ShowsAgent run (fresh (rules c)) agent
  pub uncounted : (c : ℕ) (agent : Agent) → slice_get agents c ≡ Some agent → counts_of agent ≡ none_counted
