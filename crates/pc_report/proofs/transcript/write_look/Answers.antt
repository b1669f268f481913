use Rattle.std.proofs.Common.{[], false, refl}
use Rattle.pc_calls.specs.declared.event.Event.TheVariants.{Publish}
use Rattle.pc_script.specs.declared.command.Command.TheVariants.{Event}
use Rattle.pc_report.proofs.Writing.{on_one}
use Rattle.pc_report.proofs.transcript.write_look.Goals as goal

pub returns-in-Some : goal.returns-in-Some
returns-in-Some g c =
    on_one (Event (Publish c.in-Some.cpu false)) [] (g.W.Write.contents c.args.writer.now) (g.W.Write.contents c.write_command.new.writer) c.write_command.result refl
    c.write_command.ensures
