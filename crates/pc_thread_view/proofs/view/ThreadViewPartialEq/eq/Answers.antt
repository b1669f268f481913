use Rattle.std.proofs.Common.{◌≡◌, subst}
use Rattle.std.proofs.lemmas.Bool.Decides.{same_from_decides}
use Rattle.pc_thread_view.specs.Told.{Told}
use Rattle.pc_thread_view.specs.Inner.Held.{told}
use Rattle.pc_thread_view.specs.Same.{is_same_told}
use Rattle.pc_thread_view.specs.Inner.SameLaws.{told_Decides}
use Rattle.pc_thread_view.proofs.view.ThreadViewPartialEq.eq.Goals as goal

pub returns : goal.returns
returns c =
    let P : Told → Told → Type 0 = λ a b. c.is_same_held.result ≡ is_same_told a b in
    subst (λ a. P a c.args.other.now) c.self.view_is (subst (P (told c.self.inside.held)) c.other.view_is
    (same_from_decides c.is_same_held.result (is_same_told (told c.self.inside.held) (told c.other.inside.held)) c.is_same_held.ensures (told_Decides (told c.self.inside.held) (told c.other.inside.held))))
