-- The rules that an agent goes by.
use Rattle.std.specs.Prelude.{Bool, true, false}
use Rattle.pc_policy.specs.declared.agent_policy.AgentPolicy.{AgentPolicy}
use Rattle.pc_policy.specs.declared.agent_policy.Stealing.{Stealing}
use Rattle.pc_policy.specs.declared.agent_policy.Stealing.TheVariants as stealing
use Rattle.pc_policy.specs.Rankings.{Ranking, by_levels, ranks_of}

-- how it ranks threads, and whether it steals only threads of which it knows every message
pub record Rules : Type 0 where
  pub ranks : Ranking
  pub exact : Bool

-- the highest level first, and whichever thread is stolen whose name is the least
abbrev pub usual : Rules
usual = record { ranks = by_levels; exact = false }

-- whether steals of this sort are exact
abbrev pub is_exact : Stealing → Bool
is_exact stealing.Least = false
is_exact stealing.Exact = true

-- the rules of a policy
abbrev pub rules_of : AgentPolicy → Rules
rules_of policy = record { ranks = ranks_of policy.order; exact = is_exact policy.stealing }
