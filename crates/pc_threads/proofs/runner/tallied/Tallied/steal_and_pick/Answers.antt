use Rattle.std.proofs.Common.{ap, subst}
use Rattle.pc_threads.specs.Inner.Turns.{ListsUnder}
use Rattle.pc_threads.specs.Pages.{Pages}
use Rattle.pc_threads.proofs.Turns.{more_under, none_under}
use Rattle.pc_threads.proofs.runner.tallied.Tallied.steal_and_pick.Goals as goal

pub returns-in-Err-Refused-Stale-clause-under : goal.returns-in-Err-Refused-Stale-clause-under
returns-in-Err-Refused-Stale-clause-under g c = none_under _ c.args.aseq _ _ (ap (λ (book : Pages). book.calls) c.in-Err-Refused-Stale.ensures.err)

pub returns-in-Err-Refused : goal.returns-in-Err-Refused
returns-in-Err-Refused g c =
    record { cpu = c.in-Err-Refused.ensures.cpu; under = none_under _ c.args.aseq _ _ (ap (λ (book : Pages). book.calls) c.in-Err-Refused.ensures.err) }

pub returns-in-Ok-pick-clause-under : goal.returns-in-Ok-pick-clause-under
returns-in-Ok-pick-clause-under g c =
    more_under _ c.args.aseq 0 1 0 0 _ _ _ (c.in-Ok.ensures.under c.args.aseq)
    (subst (λ cpu. ListsUnder cpu c.args.aseq 1 0 c.steal.new.self.book.calls c.pick.new.self.book.calls) c.in-Ok.ensures.cpu c.in-Ok-pick.ensures.under)
