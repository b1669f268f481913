use Rattle.std.proofs.Common.{◌≡◌, ◌↔◌, IsTrue, subst, sym}
use Rattle.pc_session.proofs.Looking.{same_told}
use Rattle.pc_session.proofs.reads.same.Goals as goal

pub returns-in-Some-view : goal.returns-in-Some-view
returns-in-Some-view c = λ w h.
    let exact : IsTrue c.eq.result ↔ (c.in-Some.mine.now ≡ c.in-Some-view.theirs.now) =
    subst (λ b. IsTrue b ↔ (c.in-Some.mine.now ≡ c.in-Some-view.theirs.now)) (sym c.eq.ensures) (c.equality_is_exact.ensures c.in-Some.mine.now c.in-Some-view.theirs.now) in
    same_told w c.args.cpu c.args.other c.in-Some.mine.now c.in-Some-view.theirs.now c.eq.result (c.in-Some.ensures w h) (c.in-Some-view.ensures w h) exact
    c.views_of_the_same_messages_are_equal.ensures
