use Rattle.std.proofs.Common.{[], refl, subst}
use Rattle.pc_script.specs.Inner.Walks.{names}
use Rattle.pc_script.proofs.walker.Walker.stop.Goals as goal

pub returns-in-Some-clause-ok : goal.returns-in-Some-clause-ok
returns-in-Some-clause-ok g c =
    names c.requires.fault.0 c.in-Some.ensures c.if-not-self.true (subst (λ p. g.M.Machine.StandsAfter p c.start.result [] []) c.profile.ensures c.start.ensures) refl
    c.in_ok-version_named.ensures.ok
