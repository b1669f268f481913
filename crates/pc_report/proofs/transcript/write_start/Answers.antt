use Rattle.std.proofs.Common.{◌∷◌, [], refl}
use Rattle.pc_script.specs.declared.command.Command.TheVariants.{Enclave}
use Rattle.pc_report.proofs.Writing.{on_one}
use Rattle.pc_report.proofs.transcript.write_start.Goals as goal

pub returns : goal.returns
returns g c =
    on_one (Enclave c.args.limits) (Enclave c.args.limits ∷ []) (g.W.Write.contents c.args.writer.now) (g.W.Write.contents c.write_command.new.writer) c.write_command.result refl
    c.write_command.ensures
