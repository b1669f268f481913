use Rattle.std.proofs.Common.{◌<◌, subst, sym}
use Rattle.pc_policy.specs.Names.{AreAll}
use Rattle.pc_policy.specs.Rules.{rules_of}
use Rattle.pc_world.specs.PlainWorld.{rules_at}
use Rattle.pc_seeds.proofs.Driving.{copies_rule, copies_take}
use Rattle.pc_seeds.proofs.runs.machine_of.Goals as goal

pub returns-in-Ok-new-clause-opened : goal.returns-in-Ok-new-clause-opened
returns-in-Ok-new-clause-opened c =
    let policy = c.args.policy.now in
    let copies = c.deref.result.now in
    let same : AreAll (rules_of policy) c.cpus-cpus.result copies = subst (AreAll (rules_of policy) c.cpus-cpus.result) (sym c.deref.ensures.value) c.in-Ok.ensures in
    (rules_at copies, _, λ d low. copies_rule policy copies d same.each (subst (λ n. d < n) (sym same.many) low), λ d takes. copies_take policy copies d d same.each takes, c.in-Ok-new.ensures.ok)
