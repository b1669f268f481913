use Rattle.std.proofs.Common.{ap}
use Rattle.pc_threads.specs.Pages.{Pages}
use Rattle.pc_threads.proofs.Turns.{none_under}
use Rattle.pc_threads.proofs.runner.tallied.Tallied.commit.Goals as goal

pub returns-in-Err-Refused : goal.returns-in-Err-Refused
returns-in-Err-Refused g c =
    record { cpu = c.in-Err-Refused.ensures.cpu; under = none_under _ c.args.aseq _ _ (ap (λ (book : Pages). book.calls) c.in-Err-Refused.ensures.err) }
