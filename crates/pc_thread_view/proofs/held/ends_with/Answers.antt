use Rattle.std.proofs.Common.{ℕ, List, ◌≡◌, ◌==◌, subst, sym}
use Rattle.pc_messages.specs.declared.kind.Kind.{Kind}
use Rattle.pc_thread_view.specs.Told.{RiseAbove, is_early}
use Rattle.pc_thread_view.specs.Inner.Taking.{NoneAbove}
use Rattle.pc_thread_view.proofs.Gaining.{last_is}
use Rattle.pc_thread_view.proofs.held.ends_with.Goals as goal

pub returns-in-Some : goal.returns-in-Some
returns-in-Some c =
    let e = c.in-Some.ensures.cases.0 in
    let P : List (ℕ × Kind) → Type 0 = λ es. (c.in-Some.last.now.0 == c.args.number) ≡ is_early es c.args.number in
    subst P (sym e) (last_is 0 c.in-Some.field-0-1.now c.in-Some.last.now c.args.number (subst (RiseAbove 0) e c.requires.rise) (subst (NoneAbove c.args.number) e c.requires.last))
