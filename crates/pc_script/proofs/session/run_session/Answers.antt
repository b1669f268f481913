use Rattle.std.proofs.Common.{◌∙◌, Err, ap}
use Rattle.std.specs.Io.Buffered.{writer_contents}
use Rattle.pc_script.proofs.Replays.{session_until}
use Rattle.pc_script.proofs.session.run_session.Goals as goal

pub returns-then-write_out-clause-no_memory : goal.returns-then-write_out-clause-no_memory
returns-then-write_out-clause-no_memory g c = λ is.
    session_until g.M.Machine.IsRun g.M.Machine.RanOut _ (g.R.Read.remaining c.converse.new.reader) _ _ (writer_contents g.W.Write.contents c.write_out.new.writer) (record { output = c.new.result }) c.converse.new.observer c.new.ensures
    (c.converse.ensures.no_memory (c.in-Err-OutOfMemory.is ∙ ap Err c.in-Err-OutOfMemory.field-0-is)) (c.write_out.ensures.written c.if-write_out.true)
