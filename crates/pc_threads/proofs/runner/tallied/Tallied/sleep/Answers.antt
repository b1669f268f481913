use Rattle.std.proofs.Common.{ap}
use Rattle.pc_threads.specs.Pages.{Pages}
use Rattle.pc_threads.proofs.Turns.{none_under}
use Rattle.pc_threads.proofs.runner.tallied.Tallied.sleep.Goals as goal

pub returns-in-Err-Refused-Stale : goal.returns-in-Err-Refused-Stale
returns-in-Err-Refused-Stale g c = none_under c.args.cpu c.args.aseq _ _ (ap (λ (book : Pages). book.calls) c.in-Err-Refused-Stale.ensures.err)
