use Rattle.std.proofs.Common.{◌≡◌, ◌∙◌, sym, arith}
use Rattle.std.proofs.lemmas.Fmt.{decimal_injective}
use Rattle.pc_program.proofs.numbers.between.Goals as goal

pub returns-else-first-last : goal.returns-else-first-last
returns-else-first-last c = λ numbers it.
    let first : c.in_ok-first.first ≡ numbers.first =
    decimal_injective _ _ (omega (arith, c.in_ok-first.ensures.0)) (omega (arith, it.ordered, it.small)) (sym c.in_ok-first.ensures.1 ∙ it.first_is) in
    let last : c.in_ok-last.last ≡ numbers.last =
    decimal_injective _ _ (omega (arith, c.in_ok-last.ensures.0)) (omega (arith, it.small)) (sym c.in_ok-last.ensures.1 ∙ it.last_is) in
    omega (arith, first, last, it.ordered, c.if-first-last.false)
