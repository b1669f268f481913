use Rattle.pc_world.specs.PlainWorld.{rules_at}
use Rattle.pc_world.proofs.Lasting.{reached_start}
use Rattle.pc_world.proofs.Opening.{new_counts, new_world}
use Rattle.pc_world.proofs.world.World.new_by.Goals as goal

pub returns-in-Err-clause-refused : goal.returns-in-Err-clause-refused
returns-in-Err-clause-refused c field e = (c.in-Err.ensures.refused field).0 (cc)

pub returns-in-Ok-new_agents-clause-ok : goal.returns-in-Ok-new_agents-clause-ok
returns-in-Ok-new_agents-clause-ok c =
    new_world _ (rules_at c.args.policies.now) c.args.limits c.cpus.result c.in-Ok.ensures.ok c.in-Ok-new_agents.ensures c.new.ensures.sent

pub returns-in-Ok-new_agents-clause-counts : goal.returns-in-Ok-new_agents-clause-counts
returns-in-Ok-new_agents-clause-counts c = new_counts _ (rules_at c.args.policies.now) c.cpus.result c.in-Ok-new_agents.ensures

pub invariant_of-result-in-Ok-new_agents : goal.invariant_of-result-in-Ok-new_agents
invariant_of-result-in-Ok-new_agents c =
    reached_start _ (rules_at c.args.policies.now) c.args.limits (new_world _ (rules_at c.args.policies.now) c.args.limits c.cpus.result c.in-Ok.ensures.ok c.in-Ok-new_agents.ensures c.new.ensures.sent)
