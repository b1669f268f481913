use Rattle.std.proofs.Common.{ℕ, ◌≤◌, nat_le, IsTrue, List, subst, sym, arith}
use Rattle.std.proofs.lemmas.Bool.Decides.{nat_tests}
use Rattle.pc_messages.specs.declared.kind.Kind.{Kind}
use Rattle.pc_thread_view.specs.Told.{RiseAbove}
use Rattle.pc_thread_view.specs.Inner.Taking.{NoneAbove, NoneAfter}
use Rattle.pc_thread_view.proofs.Taking.{none_by_last}
use Rattle.pc_thread_view.proofs.held.comes_after.Goals as goal

le_of : (a b : ℕ) → IsTrue (nat_le a b) → a ≤ b
le_of a b e = grind (arith, nat_tests)

pub returns-in-Some-Some : goal.returns-in-Some-Some
returns-in-Some-Some c t =
    let last = c.in-Some-Some.last.now in
    let next = c.in-Some-Some.next.now in
    let e = c.in-Some-Some.ensures.cases.0 in
    let f = c.in-Some-Some.ensures'.cases.0 in
    let P : List (ℕ × Kind) → Type 0 = λ es. NoneAfter c.args.early.now es in
    let Q : List (ℕ × Kind) → Type 0 = λ es. NoneAbove next.0 es in
    subst P (sym f) (subst Q (sym e) (none_by_last 0 c.in-Some-Some.field-0-1-0.now last next.0 (subst (RiseAbove 0) e c.requires) (le_of last.0 next.0 t)).1)
