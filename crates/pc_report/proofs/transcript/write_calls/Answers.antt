use Rattle.std.proofs.Common.{rules}
use Rattle.pc_report.proofs.Writing.{step}
use Rattle.pc_report.proofs.transcript.write_calls.Goals as goal

pub loop-call-preserved : goal.loop-call-preserved
loop-call-preserved g c =
    step c.args.calls.now c.loop-call.call-index c.loop-call-item.result (g.W.Write.contents c.args.writer.now) (g.W.Write.contents c.loop-call.writer) (g.W.Write.contents c.write_call.new.writer)
    (g.W.Write.contents c.write_look.new.writer) (search rules) (search rules) c.loop-call.invariant c.in_ok-write_call.ensures c.in_ok-write_look.ensures
