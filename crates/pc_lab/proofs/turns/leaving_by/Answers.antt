use Rattle.std.proofs.Common.{sym, subst}
use Rattle.pc_calls.specs.declared.call.EnvCall.{EnvCall}
use Rattle.pc_calls.specs.declared.event.Event.TheVariants.{Env}
use Rattle.pc_lab.specs.Creations.{CreatesNone}
use Rattle.pc_lab.specs.Moments.{IsPlayable}
use Rattle.pc_lab.proofs.Leaving.{leaves}
use Rattle.pc_lab.proofs.turns.leaving_by.Goals as goal

pub returns : goal.returns
returns c =
    subst (λ (call : EnvCall). CreatesNone (Env call) × IsPlayable (Env call)) (sym c.call.ensures.call)
    (leaves c.args.leaving c.args.cpu c.args.ran)
