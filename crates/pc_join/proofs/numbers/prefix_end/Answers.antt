use Rattle.std.proofs.Common.{ℕ, ◌+◌, ◌≡◌, List, false, sym, subst}
use Rattle.pc_join.specs.Ranges.{AreApart, in_ranges}
use Rattle.pc_join.proofs.Walks.{start_at_one, start_later}
use Rattle.pc_join.proofs.numbers.prefix_end.Goals as goal

pub returns-in-Some-clause-missing : goal.returns-in-Some-clause-missing
returns-in-Some-clause-missing c =
    let e = c.in-Some.ensures.cases.0 in
    let P : List (ℕ × ℕ) → Type 0 = λ xs. in_ranges xs (c.in-Some.first.now.1 + 1) ≡ false in
    subst P (sym e) (start_at_one c.in-Some.first.now c.in-Some.field-0-1.now (subst (AreApart 0) e c.requires))

pub returns-in_default-clause-missing : goal.returns-in_default-clause-missing
returns-in_default-clause-missing c =
    let e = c.in-Some.ensures.cases.0 in
    let P : List (ℕ × ℕ) → Type 0 = λ xs. in_ranges xs 1 ≡ false in
    subst P (sym e) (start_later c.in-Some.first.now c.in-Some.field-0-1.now (subst (AreApart 0) e c.requires) c.if-first-eq1.false)
