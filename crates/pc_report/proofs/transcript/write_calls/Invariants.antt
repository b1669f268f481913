use Rattle.std.proofs.Common.{map, take}
use Rattle.pc_threads.specs.Pages.{calls_of}
use Rattle.pc_report.specs.Transcripts.{WritesCalls, command_of}
use Rattle.pc_report.proofs.transcript.write_calls.Given as goal

abbrev pub invariant-loop-call : goal.invariant-loop-call
invariant-loop-call g l =
    WritesCalls (map command_of (calls_of (take l.call-index l.calls))) (g.W.Write.contents l.initial.writer) (g.W.Write.contents l.writer)
