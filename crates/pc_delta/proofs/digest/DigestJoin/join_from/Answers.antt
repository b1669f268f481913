use Rattle.std.proofs.Common.{subst, sym}
use Rattle.pc_delta.specs.Digests.{IsOfAnySource}
use Rattle.pc_delta.proofs.digest.DigestJoin.join_from.Goals as goal

pub invariant_of-self : goal.invariant_of-self
invariant_of-self c = λ s. c.join_from.ensures.of_source s (c.self.invariant s) (c.other.invariant s)

pub returns-clause-of_source : goal.returns-clause-of_source
returns-clause-of_source c = λ s a b. c.join_from.ensures.of_source s (subst (λ d. IsOfAnySource d s) (sym c.self.view_is) a) (subst (λ d. IsOfAnySource d s) (sym c.other.view_is) b)

pub returns-clause-of_any_source : goal.returns-clause-of_any_source
returns-clause-of_any_source c = λ s. c.join_from.ensures.of_source s (c.self.invariant s) (c.other.invariant s)
