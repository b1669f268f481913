use Rattle.std.proofs.Common.{◌≡◌, ◌∙◌, Err, length, refl, sym, ap, arith, inr, length-append}
use Rattle.std.specs.Io.Buffered.{writer_contents}
use Rattle.pc_script.specs.Inner.Pieces.{bytes_of}
use Rattle.pc_script.specs.declared.outcome.ScriptFault.TheVariants.{OutOfMemory, TooLong}
use Rattle.pc_script.proofs.Pieces.{kept_end}
use Rattle.pc_script.proofs.Talking.{at_memory, at_most, bytes_more, bytes_none, ended, ended_until, heard_to_end, keeps_more, keeps_none, keeps_settled, most_heard, most_turns}
use Rattle.pc_script.proofs.Walking.{passed_fault}
use Rattle.pc_script.proofs.session.converse.Goals as goal

pub loop-init : goal.loop-init
loop-init g c = record {
  keeps = keeps_none g.M.Machine.StandsAfter g.O.Observer.Tells _ _ _ c.new-talk.ensures.faults.1 c.new-piece.ensures;
  short = omega (arith, ap length c.new-piece.ensures);
  counted = bytes_none _ _ _ c.new-talk.ensures.number (ap length c.new-piece.ensures);
}

pub returns-in-Err-take_last-clause-no_memory : goal.returns-in-Err-take_last-clause-no_memory
returns-in-Err-take_last-clause-no_memory g c = λ is.
    let keeps = keeps_settled g.M.Machine.StandsAfter g.O.Observer.Tells c.settle.new.observer (writer_contents g.W.Write.contents c.settle.new.writer) c.loop.invariant.keeps c.in-Ok.ensures.ok in
    let read = c.fill-filled.ensures.read in
    let not_more = rw c.if-not-is_more.true at c.is_more.ensures in
    at_memory (c.take_last.ensures.err OutOfMemory (passed_fault c.take_last.result (Err c.in-Err-take_last.fault) c.in-Err-take_last.fault c.in-Err-take_last.fault OutOfMemory c.in-Err-take_last.is refl refl is))
    (λ lacks. ended_until g.M.Machine.StandsAfter g.O.Observer.Tells g.met.O.Observer.tells_nothing g.met.O.Observer.tells_more g.M.Machine.IsRun g.met.M.Machine.is_run_after g.M.Machine.RanOut
    (g.R.Read.remaining c.fill-filled.new.reader) read.0 c.as_slice.result.now keeps read.1 (c.as_slice.ensures ∙ read.2) (read.3 not_more) lacks c.new-talk.ensures.open c.new-talk.ensures.version c.new-talk.ensures.fresh c.new-talk.ensures.number)

pub returns-then-not-is_more-clause-ok : goal.returns-then-not-is_more-clause-ok
returns-then-not-is_more-clause-ok g c =
    let keeps = keeps_settled g.M.Machine.StandsAfter g.O.Observer.Tells c.settle.new.observer (writer_contents g.W.Write.contents c.settle.new.writer) c.loop.invariant.keeps c.in-Ok.ensures.ok in
    let read = c.fill-filled.ensures.read in
    let not_more = rw c.if-not-is_more.true at c.is_more.ensures in
    let all = ended g.M.Machine.StandsAfter g.O.Observer.Tells g.met.O.Observer.tells_nothing g.met.O.Observer.tells_more g.M.Machine.IsRun g.met.M.Machine.is_run_after
    (g.R.Read.remaining c.fill-filled.new.reader) read.0 c.as_slice.result.now _ _ keeps read.1 (c.as_slice.ensures ∙ read.2) (read.3 not_more) c.in-Ok-take_last.ensures.ok c.in-Ok-settle.ensures.ok
    c.new-talk.ensures.open c.new-talk.ensures.version c.new-talk.ensures.fresh c.new-talk.ensures.number c.new-talk.ensures.faults.0 in
    (all.0, all.1, λ whole. c.fill-filled.ensures.end (rw whole at c.is_at_end.ensures), all.2)

pub returns-in-Err-hear-clause-no_memory : goal.returns-in-Err-hear-clause-no_memory
returns-in-Err-hear-clause-no_memory g c = λ is.
    let keeps = keeps_settled g.M.Machine.StandsAfter g.O.Observer.Tells c.settle.new.observer (writer_contents g.W.Write.contents c.settle.new.writer) c.loop.invariant.keeps c.in-Ok.ensures.ok in
    let read = c.fill-filled.ensures.read in
    at_memory (c.hear.ensures.err OutOfMemory (passed_fault c.hear.result (Err c.in-Err-hear.fault) c.in-Err-hear.fault c.in-Err-hear.fault OutOfMemory c.in-Err-hear.is refl refl is))
    (λ until. heard_to_end g.M.Machine.StandsAfter g.O.Observer.Tells g.met.O.Observer.tells_nothing g.met.O.Observer.tells_more g.M.Machine.IsRun g.met.M.Machine.is_run_after g.M.Machine.RanOut
    (g.R.Read.remaining c.fill-filled.new.reader) read.0 c.as_slice-in-loop.result.now keeps read.1 (c.as_slice-in-loop.ensures ∙ read.2) until c.new-talk.ensures.open c.new-talk.ensures.version c.new-talk.ensures.fresh c.new-talk.ensures.number)

pub returns-in-Err-take_last-clause-too_long : goal.returns-in-Err-take_last-clause-too_long
returns-in-Err-take_last-clause-too_long g c = λ is.
    let read = c.fill-filled.ensures.read in
    at_most (c.take_last.ensures.err TooLong (passed_fault c.take_last.result (Err c.in-Err-take_last.fault) c.in-Err-take_last.fault c.in-Err-take_last.fault TooLong c.in-Err-take_last.is refl refl is))
    (most_heard (g.R.Read.remaining c.fill-filled.new.reader) read.0 0 c.loop.invariant.counted read.1 (omega arith))

pub returns-in-Err-hear-clause-too_long : goal.returns-in-Err-hear-clause-too_long
returns-in-Err-hear-clause-too_long g c = λ is.
    let read = c.fill-filled.ensures.read in
    at_most (c.hear.ensures.err TooLong (passed_fault c.hear.result (Err c.in-Err-hear.fault) c.in-Err-hear.fault c.in-Err-hear.fault TooLong c.in-Err-hear.is refl refl is))
    (most_heard (g.R.Read.remaining c.fill-filled.new.reader) read.0 (length c.as_slice-in-loop.result.now) c.loop.invariant.counted read.1
    (omega (arith, ap length (c.as_slice-in-loop.ensures ∙ read.2), length-append (bytes_of c.loop.piece) read.0)))

pub returns-clause-too_long : goal.returns-clause-too_long
returns-clause-too_long g c = λ is. inr (most_turns c.loop.invariant.counted (omega arith))

pub loop-preserved : goal.loop-preserved
loop-preserved g c =
    let keeps = keeps_settled g.M.Machine.StandsAfter g.O.Observer.Tells c.settle.new.observer (writer_contents g.W.Write.contents c.settle.new.writer) c.loop.invariant.keeps c.in-Ok.ensures.ok in
    let read = c.fill-filled.ensures.read in
    let is_more = rw c.if-not-is_more.false at c.is_more.ensures in
    let rest = c.in-Ok-hear.rest.now in
    let behind = c.in-Ok-hear.ensures.behind in
    let kept : bytes_of c.keep_last.new.self ≡ rest =
    c.keep_last.ensures ∙ kept_end (bytes_of c.fill-filled.new.self) behind.0 rest (sym c.as_slice-in-loop.ensures ∙ behind.1) in
    record {
      keeps = rw kept (keeps_more g.M.Machine.StandsAfter g.O.Observer.Tells read.0 c.as_slice-in-loop.result.now rest _ keeps read.1 (c.as_slice-in-loop.ensures ∙ read.2) c.in-Ok-hear.ensures.ok);
      short = omega (arith, ap length kept, c.in-Ok-hear.ensures.short);
      counted = bytes_more read.0 _ _ c.loop.invariant.counted read.1 (read.4 is_more)
          (omega (arith, c.in-Ok-hear.ensures.counted, ap length kept, ap length (c.as_slice-in-loop.ensures ∙ read.2), length-append (bytes_of c.loop.piece) read.0));
    }
