use Rattle.std.proofs.Common.{◌≤◌, ◌+◌, length}
use Rattle.std.specs.Io.Buffered.{writer_contents}
use Rattle.pc_script.specs.Inner.Pieces.{bytes_of}
use Rattle.pc_script.specs.Inner.Talks.{CountsBytes, Keeps, talking}
use Rattle.pc_script.specs.declared.session.TheConstants.{MOST_LINE}
use Rattle.pc_script.proofs.session.converse.Given as goal

abbrev pub invariant-loop : goal.invariant-loop
invariant-loop g l = record {
  keeps : Keeps g.M.Machine.StandsAfter g.O.Observer.Tells (g.R.Read.remaining l.initial.reader) (g.R.Read.remaining l.reader)
      (talking l.initial.talk.walk.machine l.initial.talk.walk.is_open l.initial.talk.walk.version l.initial.talk.number l.initial.talk.had_fault l.initial.observer
      (writer_contents g.W.Write.contents l.initial.writer))
      (talking l.talk.walk.machine l.talk.walk.is_open l.talk.walk.version l.talk.number l.talk.had_fault l.observer (writer_contents g.W.Write.contents l.writer))
      l.talk.passes (bytes_of l.piece);
  short : length (bytes_of l.piece) ≤ MOST_LINE + 1;
  counted : CountsBytes (g.R.Read.remaining l.initial.reader) (g.R.Read.remaining l.reader) l.talk.number (length (bytes_of l.piece)) l.counter;
}
