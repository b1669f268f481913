use Rattle.std.proofs.Common.{subst, sym}
use Rattle.pc_agent.specs.PlainAgent.{fresh}
use Rattle.pc_agent.specs.Shows.{ShowsAgent}
use Rattle.pc_world.specs.PlainWorld.{rules_at}
use Rattle.pc_world.specs.Inner.Agents.{AreNew}
use Rattle.pc_world.proofs.Opening.{new_more}
use Rattle.pc_world.proofs.agents.new_agents.Goals as goal

pub loop-cpu-preserved : goal.loop-cpu-preserved
loop-cpu-preserved c =
    let ranks = rules_at c.args.policies.now in
    subst (AreNew ranks _) (sym c.in_ok-push.ensures.items)
    (new_more ranks c.loop-cpu.cpu c.loop-cpu.agents.items c.with_policy.result c.loop-cpu.invariant c.with_policy.ensures.cpu
    (λ run. subst (λ r. ShowsAgent run (fresh r) c.with_policy.result) c.in_ok-policy.ensures (c.with_policy.ensures.fresh run)) c.with_policy.ensures.counts)
