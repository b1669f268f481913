use Rattle.toml.specs.Parse.{parse_document}
use Rattle.std.specs.Io.Buffered.{writer_contents}
use Rattle.pc_program.proofs.Reporting.{reported}
use Rattle.pc_program.proofs.forms.run_flushed.Goals as goal

pub returns-in-Ok-clause-told : goal.returns-in-Ok-clause-told
returns-in-Ok-clause-told g c =
    let ran = c.in-Ok.ensures in
    reported (parse_document c.args.text.now) c.args.form (writer_contents g.W.Write.contents c.args.writer.now) _ _ c.in-Ok._report c.flushed.result
    ran.tells ran.adds_up ran.all ran.writes c.flushed.ensures.kept c.flushed.ensures.flushed
