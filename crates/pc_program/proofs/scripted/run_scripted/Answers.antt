use Rattle.toml.specs.Parse.{parse_document}
use Rattle.pc_program.proofs.Scripting.{scripted_kept}
use Rattle.pc_program.proofs.scripted.run_scripted.Goals as goal

pub returns-clause-told : goal.returns-clause-told
returns-clause-told g c =
    let flushed = c.both_flushed.ensures in
    scripted_kept (parse_document c.args.text.now) c.args.form _ _ _ _ _ _ c.run_both-ending.result c.both_flushed.result c.run_both-ending.ensures
    flushed.script_kept flushed.kept flushed.flushed
