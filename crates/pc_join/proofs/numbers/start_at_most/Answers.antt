use Rattle.std.proofs.Common.{subst, sym, List, ℕ, IsTrue, ◌↔◌, nat_le}
use Rattle.pc_join.specs.Ranges.{AreApart}
use Rattle.pc_join.specs.Inner.Ranges.{StartBy}
use Rattle.pc_join.proofs.Apart.{last_start}
use Rattle.pc_join.proofs.numbers.start_at_most.Goals as goal

pub returns-in-Some : goal.returns-in-Some
returns-in-Some c =
    let last = c.in-Some.last.now in
    let front = c.in-Some.field-0-1.now in
    let e = c.in-Some.ensures.cases.0 in
    let P : List (ℕ × ℕ) → Type 0 = λ rs. IsTrue (nat_le last.0 c.args.start) ↔ StartBy rs c.args.start in
    subst P (sym e) (last_start 0 front last c.args.start (subst (AreApart 0) e c.requires))
