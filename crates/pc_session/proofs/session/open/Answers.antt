use Rattle.std.proofs.Common.{None, Some, refl, subst, sym, true}
use Rattle.pc_script.specs.declared.response.Response.TheVariants as response
use Rattle.pc_session.specs.declared.session.Enclave.{Enclave}
use Rattle.pc_session.specs.Inner.Sessions.{Steps}
use Rattle.pc_session.proofs.Standing.{opens}
use Rattle.pc_session.proofs.session.open.Goals as goal

pub returns-in-Ok-clause-ok : goal.returns-in-Ok-clause-ok
returns-in-Ok-clause-ok c =
    let now : Enclave = record { world = c.in-Ok.world; is_untouched = true } in
    subst (λ old. Steps c.args.profile c.args.command.now old (Some now) response.Opened) (sym c.requires)
    (subst (λ command. Steps c.args.profile command None (Some now) response.Opened) (sym c.in-Enclave.is)
    (opens c.args.profile now c.in-Enclave.limits c.in-Ok.ensures.within c.in-Ok.ensures.ok refl))
