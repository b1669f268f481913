use Rattle.std.proofs.Common.{◌≤◌, sym, subst}
use Rattle.pc_rank.proofs.Laid.{laid_count}
use Rattle.pc_rank.proofs.expression.Expression.codes.Goals as goal

pub shared_ref_as_front-result : goal.shared_ref_as_front-result
shared_ref_as_front-result c = subst (λ n. n ≤ 64) (sym c.from.ensures) (laid_count c.self.inside c.self.invariant)
