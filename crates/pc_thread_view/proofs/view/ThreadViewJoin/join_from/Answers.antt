use Rattle.std.proofs.Common.{subst, sym}
use Rattle.pc_thread_view.specs.Told.{IsOfThread}
use Rattle.pc_thread_view.proofs.view.ThreadViewJoin.join_from.Goals as goal

pub returns-clause-of_source : goal.returns-clause-of_source
returns-clause-of_source c = λ s a b. c.join_held.ensures.of_source s (subst (λ v. IsOfThread v s) (sym c.self.view_is) a) (subst (λ v. IsOfThread v s) (sym c.other.view_is) b)
