use Rattle.std.specs.Io.Buffered.{writer_contents}
use Rattle.pc_script.proofs.session.settle.Goals as goal

pub returns-in-Ok-clause-ok : goal.returns-in-Ok-clause-ok
returns-in-Ok-clause-ok g c =
    g.met.O.Observer.tells_kept _ _ _ (writer_contents g.W.Write.contents c.settle.new.writer) _ _ c.in_ok-settle.ensures.ok c.flush.ensures.bytes
