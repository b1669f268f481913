use Rattle.std.proofs.Common.{◌∙◌, ℕ, Option, sym, subst, arith}
use Rattle.pc_lab.specs.Standing.{StandsFor}
use Rattle.pc_lab.proofs.Holding.{stands_for}
use Rattle.pc_lab.proofs.standing.ticks_before.Goals as goal

pub returns : goal.returns
returns c = λ ranks c' t r slow now later.
    subst (λ (other : Option ℕ). StandsFor ranks c' t r other c.saturating_sub.result) (sym c.in-Some-Some-Some.is-2)
    (stands_for ranks c' t r c.in-Some-Some-Some.rank c.in-Some-Some-Some.other c.saturating_sub.result slow (now ∙ c.in-Some-Some-Some.is-0)
    (λ ran low. omega (arith, low, c.saturating_sub.ensures)))
