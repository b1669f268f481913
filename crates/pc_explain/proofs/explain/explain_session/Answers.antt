use Rattle.std.proofs.Common.{◌≡◌, true, inl, inr}
use Rattle.std.specs.Io.Buffered.{writer_contents}
use Rattle.std.specs.Io.KnownBytes.{IsAtEnd}
use Rattle.pc_session.specs.Session.{IsSession, RanOut}
use Rattle.pc_explain.proofs.Tellings.{session_explained, session_printed, session_until}
use Rattle.pc_explain.proofs.explain.explain_session.Goals as goal

pub returns-clause-ok : goal.returns-clause-ok
returns-clause-ok g c =
    session_explained IsSession _ (g.R.Read.remaining c.converse.new.reader) (λ conversed. conversed.is_whole ≡ true → IsAtEnd (g.R.Read.remaining c.converse.new.reader)) _ c.converse.new.observer
    _ (writer_contents g.W.Write.contents c.converse.new.writer) c.converse.result c.converse.ensures.ok

pub returns-clause-printed : goal.returns-clause-printed
returns-clause-printed g c =
    session_printed IsSession _ (g.R.Read.remaining c.converse.new.reader) (λ conversed. conversed.is_whole ≡ true → IsAtEnd (g.R.Read.remaining c.converse.new.reader)) _ c.converse.new.observer
    _ (writer_contents g.W.Write.contents c.converse.new.writer) c.converse.result c.converse.ensures.ok

pub returns-clause-no_memory : goal.returns-clause-no_memory
returns-clause-no_memory g c = λ is.
    session_until IsSession RanOut _ (g.R.Read.remaining c.converse.new.reader) _ c.converse.new.observer _ (writer_contents g.W.Write.contents c.converse.new.writer) (c.converse.ensures.no_memory is)

pub returns-clause-too_long : goal.returns-clause-too_long
returns-clause-too_long g c = λ is. elim (c.converse.ensures.too_long is) [ inl no_write ↦ cc | inr most ↦ most ]
