use Rattle.std.proofs.Common.{subst}
use Rattle.pc_agent.specs.PlainAgent.{fresh}
use Rattle.pc_agent.specs.Shows.{ShowsAgent}
use Rattle.pc_agent.proofs.agent.Agent.new.Goals as goal

pub returns-clause-fresh : goal.returns-clause-fresh
returns-clause-fresh c run = subst (λ rules. ShowsAgent run (fresh rules) c.with_policy.result) c.usual.ensures (c.with_policy.ensures.fresh run)
