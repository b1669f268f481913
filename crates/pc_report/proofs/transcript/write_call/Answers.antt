use Rattle.std.proofs.Common.{◌≡◌, ◌∷◌, [], sym, subst}
use Rattle.pc_report.specs.Transcripts.{calls_in, command_of}
use Rattle.pc_report.proofs.Writing.{no_publish, on_one}
use Rattle.pc_report.proofs.transcript.write_call.Goals as goal

pub returns : goal.returns
returns g c =
    on_one c.command_of-command.result (command_of c.args.call.now ∷ []) (g.W.Write.contents c.args.writer.now) (g.W.Write.contents c.write_command.new.writer) c.write_command.result
    (subst (λ command. calls_in (command ∷ []) ≡ command_of c.args.call.now ∷ []) (sym c.command_of-command.ensures) (no_publish c.args.call.now)) c.write_command.ensures
