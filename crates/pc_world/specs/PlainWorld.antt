-- The plain world: the plain kernel, the plain agent of each CPU, and what was ever sent.
use Rattle.std.specs.Prelude.{ℕ, zero, suc, List, [], ◌∷◌, ◌++◌}
use Rattle.pc_messages.specs.Items.{pairs_in}
use Rattle.pc_calls.specs.declared.limits.Limits.{Limits}
use Rattle.pc_kernel.specs.PlainKernel.{PlainKernel, start, kinds, content}
use Rattle.pc_kernel.specs.Steps.{at}
use Rattle.pc_policy.specs.Rules.{Rules, rules_of, usual}
use Rattle.pc_policy.specs.declared.agent_policy.AgentPolicy.{AgentPolicy}
use Rattle.pc_agent.specs.PlainAgent.{PlainAgent, Set, copied, fresh}
use Rattle.pc_agent.specs.Publishing.{sent_after}

-- a kernel, its agents, and what was sent
pub record PlainWorld : Type 0 where
  pub kernel : PlainKernel
  pub agents : ℕ → PlainAgent  -- of each CPU
  pub sent : List Set  -- what each sent delta tells, in order

-- the world at the start, with the rules of the agent of each CPU
abbrev pub opened_by : (ℕ → Rules) → Limits → PlainWorld
opened_by rules limits = record { kernel = start limits; agents = λ c. fresh (rules c); sent = [] }

-- the world at the start, where each agent goes by the usual rules
abbrev pub opened : Limits → PlainWorld
opened = opened_by (λ c. usual)

-- the rules of each CPU, from 0 on, by these policies; the usual ones, where none is left
abbrev pub rules_at : List AgentPolicy → ℕ → Rules
rules_at [] c = usual
rules_at (policy ∷ policies) zero = rules_of policy
rules_at (policy ∷ policies) (suc c) = rules_at policies c

-- the world with another agent on a CPU
abbrev pub with_agent : PlainWorld → ℕ → PlainAgent → PlainWorld
with_agent w c p = record w { agents = at w.agents c p }

-- an agent has copied all that its queue holds
abbrev pub copied_all : PlainWorld → ℕ → PlainWorld
copied_all w c = with_agent w c (copied (kinds w.kernel) c (content w.kernel c) (w.agents c))

-- and has sent it
abbrev pub published : PlainWorld → ℕ → PlainWorld
published w c =
    let items = content w.kernel c in
    record w {
      agents = at w.agents c (sent_after (kinds w.kernel) c items (w.agents c));
      sent = w.sent ++ pairs_in items ∷ [];
    }

-- a delta was sent that tells this
abbrev pub sending : PlainWorld → Set → PlainWorld
sending w set = record w { sent = w.sent ++ set ∷ [] }
