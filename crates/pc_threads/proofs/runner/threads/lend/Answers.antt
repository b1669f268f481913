use Rattle.std.proofs.Common.{ap, ◌∙◌, []}
use Rattle.pc_agent.specs.Shows.{rules_in}
use Rattle.pc_threads.proofs.runner.threads.lend.Goals as goal

pub returns-clause-rules : goal.returns-clause-rules
returns-clause-rules g c = ap rules_in c.new.ensures.agent ∙ (c.with_policy-agent.ensures.fresh (λ thread. [])).rules
