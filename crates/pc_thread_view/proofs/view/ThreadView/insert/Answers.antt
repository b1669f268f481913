use Rattle.std.proofs.Common.{subst, sym}
use Rattle.pc_thread_view.specs.Told.{IsOfThread}
use Rattle.pc_thread_view.proofs.view.ThreadView.insert.Goals as goal

pub returns-clause-of_source : goal.returns-clause-of_source
returns-clause-of_source c = λ s a b. c.in_ok-take_one.ensures.ok.of_source s (subst (λ v. IsOfThread v s) (sym c.self.view_is) a) b
