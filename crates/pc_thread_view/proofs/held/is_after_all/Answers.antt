use Rattle.std.proofs.Common.{ℕ, ◌<◌, nat_lt, IsTrue, subst, sym, arith}
use Rattle.std.proofs.lemmas.Bool.Decides.{nat_tests}
use Rattle.pc_thread_view.specs.Told.{RiseAbove}
use Rattle.pc_thread_view.specs.Inner.Taking.{AreBelow}
use Rattle.pc_thread_view.proofs.Places.{below_last}
use Rattle.pc_thread_view.proofs.held.is_after_all.Goals as goal

lt_of : (a b : ℕ) → IsTrue (nat_lt a b) → a < b
lt_of a b e = grind (arith, nat_tests)

pub returns-in-Some : goal.returns-in-Some
returns-in-Some c t =
    let last = c.in-Some.last.now in
    let e = c.in-Some.ensures.cases.0 in
    subst (AreBelow c.args.number) (sym e) (below_last 0 c.in-Some.field-0-1.now last c.args.number (subst (RiseAbove 0) e c.requires) (lt_of last.0 c.args.number t)).1
