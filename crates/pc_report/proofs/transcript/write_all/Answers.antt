use Rattle.std.proofs.Common.{rules, ◌≡◌, ◌∷◌, [], map, subst}
use Rattle.pc_script.specs.declared.command.Command.TheVariants.{Enclave}
use Rattle.pc_threads.specs.Pages.{calls_of}
use Rattle.pc_report.specs.Transcripts.{command_of, script_of}
use Rattle.pc_report.proofs.Writing.{on_both}
use Rattle.pc_report.proofs.transcript.write_all.Goals as goal

pub returns : goal.returns
returns g c =
    let limits : c.limits.result ≡ c.args.book.now.kernel.limits = search rules in
    let calls : c.calls.result.now ≡ c.args.book.now.calls = search rules in
    let all = on_both (Enclave c.limits.result ∷ []) (map command_of (calls_of c.calls.result.now)) (g.W.Write.contents c.args.writer.now) (g.W.Write.contents c.write_start.new.writer)
    (g.W.Write.contents c.write_calls.new.writer) c.write_calls.result c.in_ok-write_start.ensures c.write_calls.ensures in
    rw (← limits, ← calls) all
