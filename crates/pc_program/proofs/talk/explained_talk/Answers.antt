use Rattle.std.specs.Io.Buffered.{writer_contents}
use Rattle.std.proofs.Common.{true}
use Rattle.pc_program.specs.Talks.{plain_by}
use Rattle.pc_program.proofs.Talking.{talked}
use Rattle.pc_program.proofs.talk.explained_talk.Goals as goal

pub returns : goal.returns
returns g c =
    let ran = c.explain_session.ensures in
    rw c.of_session.ensures
    (talked (plain_by true) _ (g.R.Read.remaining c.explain_session.new.reader) _ (writer_contents g.W.Write.contents c.explain_session.new.writer) c.explain_session.result ran.ok ran.no_memory ran.too_long ran.err)
