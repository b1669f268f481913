use Rattle.std.proofs.Common.{refl, subst, sym}
use Rattle.std.proofs.lemmas.Bool.{false≢true}
use Rattle.pc_join.specs.Sets.{IsVoid}
use Rattle.pc_thread_view.specs.Inner.Held.{told}
use Rattle.pc_thread_view.specs.Told.{numbers_of}
use Rattle.pc_thread_view.proofs.Among.{not_void}
use Rattle.pc_thread_view.proofs.view.ThreadViewJoin.is_empty.Goals as goal

pub returns : goal.returns
returns c = record {
  exact = (λ e. absurd (false≢true e), λ void. absurd (not_void (told c.self.inside.held) c.self.invariant.some (subst (λ v. IsVoid (numbers_of v)) (sym c.self.view_is) void)));
  never = refl;
}
