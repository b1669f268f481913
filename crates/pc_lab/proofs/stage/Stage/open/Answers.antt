use Rattle.std.proofs.Common.{rules, ◌∙◌, List, [], None, sym, ap, subst}
use Rattle.pc_calls.specs.declared.limits.Limits.{Limits}
use Rattle.pc_load.specs.Loads.{Demand}
use Rattle.pc_policy.specs.declared.agent_policy.AgentPolicy.{AgentPolicy}
use Rattle.pc_policy.specs.declared.named.PolicyName.{PolicyName}
use Rattle.pc_world.specs.PlainWorld.{opened_by, rules_at}
use Rattle.pc_world.specs.Shows.{ShowsWorld}
use Rattle.pc_lab.specs.Limits.{limits_for}
use Rattle.pc_lab.specs.declared.waits.Wait.{Wait}
use Rattle.pc_lab.specs.declared.waits.Waiter.{Waiter}
use Rattle.pc_lab.specs.Stages.{IsRun}
use Rattle.pc_policy.specs.Names.{AreAll, rules_named}
use Rattle.pc_lab.proofs.Staging.{opened}
use Rattle.pc_lab.proofs.stage.Stage.open.Goals as goal

pub invariant_of-result : goal.invariant_of-result
invariant_of-result g c =
    let before = g.K.Setting.before in
    let items = c.in_ok-policies.policies.items in
    let world = c.in-Ok.world in
    let all = subst (λ (l : Limits). AreAll (rules_named c.args.policy) l.cpus items) c.limits_of-limits.ensures c.in_ok-policies.ensures in
    let by_all : ShowsWorld world (opened_by (rules_at items) c.limits_of-limits.result) =
    subst (λ (policies : List AgentPolicy). ShowsWorld world (opened_by (rules_at policies) c.limits_of-limits.result)) c.as_slice.ensures.value c.in-Ok.ensures.ok in
    let shows = subst (λ (l : Limits). ShowsWorld world (opened_by (rules_at items) l)) c.limits_of-limits.ensures by_all in
    let run = opened c.args.load.now c.args.policy before world c.args.chronicle items c.new-2.result all shows c.requires.before c.new-2.ensures in
    let of_load = subst (λ (load : Demand). IsRun load c.args.policy before world c.args.chronicle None 0 c.new-2.result [] [] 0) c.requires.load run in
    let of_policy = subst (λ (p : PolicyName). IsRun g.K.Setting.load p before world c.args.chronicle None 0 c.new-2.result [] [] 0) c.requires.policy of_load in
    let of_waits =
    subst (λ (waits : List Wait). IsRun g.K.Setting.load g.K.Setting.policy before world c.args.chronicle None 0 c.new-2.result waits [] 0) (sym c.new-3.ensures.ended) of_policy in
    let of_waiters =
    subst (λ (waiters : List Waiter). IsRun g.K.Setting.load g.K.Setting.policy before world c.args.chronicle None 0 c.new-2.result c.new-3.result.ended.items waiters 0)
    (sym c.new-3.ensures.waiters) of_waits in
    let many = c.in_ok-times.ensures.many ∙ ap (λ (l : Limits). l.cpus) c.limits_of-limits.ensures ∙ ap (λ (load : Demand). (limits_for load).cpus) c.requires.load in
    (λ cut. of_waiters, search rules, c.in_ok-times.ensures.kept, many)
