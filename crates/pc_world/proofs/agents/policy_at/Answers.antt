use Rattle.std.proofs.Common.{◌∙◌, arith}
use Rattle.pc_world.proofs.Opening.{no_policy, policy_there}
use Rattle.pc_world.proofs.agents.policy_at.Goals as goal

pub returns-then-place-policies : goal.returns-then-place-policies
returns-then-place-policies c = c.usual.ensures ∙ no_policy c.args.policies.now c.args.cpu (let k = c.if-place-policies.true in omega arith)

pub returns : goal.returns
returns c =
    c.in_ok-copy.ensures
    ∙ policy_there c.args.policies.now c.args.cpu c.index-policies-place.result (let k = c.if-place-policies.false in omega arith) c.index-policies-place.is
