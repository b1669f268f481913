use Rattle.std.specs.Io.Buffered.{writer_contents}
use Rattle.std.proofs.Common.{false}
use Rattle.pc_program.specs.Talks.{plain_by}
use Rattle.pc_program.proofs.Talking.{talked}
use Rattle.pc_program.proofs.talk.plain_talk.Goals as goal

pub returns : goal.returns
returns g c =
    let ran = c.run_session.ensures in
    rw c.of_session.ensures
    (talked (plain_by false) _ (g.R.Read.remaining c.run_session.new.reader) _ (writer_contents g.W.Write.contents c.run_session.new.writer) c.run_session.result ran.ok ran.no_memory ran.too_long ran.err)
