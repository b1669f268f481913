-- What an agent and a delta show: of a run, and of which set.
use Rattle.std.specs.Prelude.{ℕ, ◌≡◌, List}
use Rattle.pc_messages.specs.Run.{Run}
use Rattle.pc_join.specs.Sets.{as_members, IsSameSet, IsBetween}
use Rattle.pc_view.specs.declared.view.View.{View}
use Rattle.pc_view.specs.Views.{pairs_of, IsOfRun}
use Rattle.pc_delta.specs.declared.part.Part.{Part}
use Rattle.pc_delta.specs.Parts.{AreOfRun, set_of}
use Rattle.pc_policy.specs.Rankings.{Ranking}
use Rattle.pc_policy.specs.Rules.{Rules, rules_of}
use Rattle.pc_agent.specs.declared.agent.Agent.{Agent}
use Rattle.pc_agent.specs.declared.counts.Counts.{Counts}
use Rattle.pc_agent.specs.PlainAgent.{PlainAgent, Set}

-- the view is that of the set in the run
pub record ShowsView (run : Run) (set : Set) (view : View) : Type 0 where
  pub of_run : IsOfRun run view
  pub known : IsSameSet (pairs_of view) (as_members set)

-- the delta is of the run, and tells the set
pub record ShowsDelta (run : Run) (set : Set) (delta : List Part) : Type 0 where
  pub of_run : AreOfRun run delta
  pub told : IsSameSet (set_of delta) (as_members set)

-- the agent's view is that of the plain agent's set in the run, and it has its run list, its count of sent items and
-- its rules
pub record ShowsAgent (run : Run) (p : PlainAgent) (agent : Agent) : Type 0 where
  pub view : ShowsView run p.known agent.view
  pub list : agent.list ≡ p.list
  pub sent_items : agent.sent_items ≡ p.sent_items
  pub rules : rules_of agent.policy ≡ p.rules

-- the agent has taken in a part of the set, and is otherwise as it was
abbrev pub ShowsPart : Run → PlainAgent → Set → Agent → Type 0
ShowsPart run p set agent = (some : Set) × IsBetween (as_members p.known) (as_members set) (as_members some)
    × ShowsAgent run (record p { known = some }) agent

-- whose agent it is
abbrev pub cpu_of : Agent → ℕ
cpu_of agent = agent.cpu

-- the rules that it goes by
abbrev pub rules_in : Agent → Rules
rules_in agent = rules_of agent.policy

-- how it ranks threads
abbrev pub ranking_of : Agent → Ranking
ranking_of agent = (rules_in agent).ranks

-- what it knows, its run list, how many items at the front of its queue it has sent, and what it has counted
abbrev pub view_of : Agent → View
view_of agent = agent.view

-- the names of an agent's run list, in order
abbrev pub list_of : Agent → List ℕ
list_of agent = agent.list

-- how many items at the front of its queue an agent has sent
abbrev pub sent_of : Agent → ℕ
sent_of agent = agent.sent_items

-- what an agent has counted
abbrev pub counts_of : Agent → Counts
counts_of agent = agent.counts
