use Rattle.std.proofs.Common.{subst, sym, ◌∙◌, ap}
use Rattle.std.specs.Option.{option_copied}
use Rattle.pc_calls.specs.declared.refusal.Refusal.TheVariants as refusal
use Rattle.pc_kernel.specs.Reads.{seen}
use Rattle.pc_script.specs.declared.response.Response.TheVariants as response
use Rattle.pc_session.specs.Reads.{IsStatus}
use Rattle.pc_session.proofs.Statuses.{unknown_status, unreported_status}
use Rattle.pc_session.proofs.reads.put_status.Goals as goal
use Rattle.pc_session.proofs.reads.put_status.Goals.{in_default-via-in-Some+in_default, in_default-via-in_default}

pub returns-in_default : goal.returns-in_default
returns-in_default c =
    let unknown : IsStatus c.args.thread ((seen c.args.kernel.now).thread c.args.thread) (response.Refused refusal.UnknownThread) = elim c.in_default.branch [
      | in_default-via-in-Some+in_default w ↦ unreported_status c.args.kernel.now c.args.thread c.is_sound.ensures (sym c.state.ensures ∙ ap option_copied w.in_default.is-1)
      | in_default-via-in_default w ↦ unknown_status c.args.kernel.now c.args.thread c.is_sound.ensures (sym c.status.ensures ∙ w.in_default.is-0)
    ] in
    subst (IsStatus c.args.thread ((seen c.args.kernel.now).thread c.args.thread)) (sym c.put_refusal.ensures) unknown
