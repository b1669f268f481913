use Rattle.std.proofs.Common.{subst}
use Rattle.pc_calls.specs.declared.limits.Limits.{Limits}
use Rattle.pc_world.specs.PlainWorld.{opened_by, rules_at}
use Rattle.pc_world.specs.Shows.{ShowsWorld}
use Rattle.pc_session.specs.declared.session.Enclave.{Enclave}
use Rattle.pc_policy.specs.Names.{AreAll, rules_named}
use Rattle.pc_session.proofs.Ruling.{ruled}
use Rattle.pc_session.proofs.session.rule.Goals as goal

pub returns-in-Ok-clause-ok : goal.returns-in-Ok-clause-ok
returns-in-Ok-clause-ok c =
    let now : Enclave = record { world = c.in-Ok.world; is_untouched = c.args.enclave.now.is_untouched } in
    let items = c.in_ok-policies.policies.items in
    let all : AreAll (rules_named c.args.policy.now) c.kernel.result.now.limits.cpus items =
    subst (λ (l : Limits). AreAll (rules_named c.args.policy.now) l.cpus items) c.limits-limits.ensures c.in_ok-policies.ensures in
    let opens : ShowsWorld c.in-Ok.world (opened_by (rules_at items) c.limits-limits.result) =
    subst (λ policies. ShowsWorld c.in-Ok.world (opened_by (rules_at policies) c.limits-limits.result)) c.as_slice.ensures.value c.in-Ok.ensures.ok in
    let shows : ShowsWorld c.in-Ok.world (opened_by (rules_at items) c.kernel.result.now.limits) =
    subst (λ (l : Limits). ShowsWorld c.in-Ok.world (opened_by (rules_at items) l)) c.limits-limits.ensures opens in
    ruled c.kernel.result.now c.args.enclave.now now c.args.policy.now items c.kernel.ensures c.if-not-enclave.false c.if-not-enclave.false all shows
