-- The laws of a join and of equality, of views.
use Rattle.std.specs.Prelude.{◌≡◌}
use Rattle.std.proofs.Common.{ap}
use Rattle.std.specs.Bool.{Decides}
use Rattle.std.specs.Cmp.{IsEquivalence, IsPartialEquivalence, decided, partial_equiv_from_equiv}
use Rattle.pc_join.specs.Sets.{Source, IsSameSet, AgreesOn}
use Rattle.pc_join.specs.Inner.Equal.{by_name_Decides}
use Rattle.pc_join.specs.Inner.NameLaws.{unique_by_name, stays_by_name}
use Rattle.pc_thread_view.specs.Told.{IsOfThread, numbers_of}
use Rattle.pc_thread_view.specs.Inner.ToldLaws.{unique_told, stays_told}
use Rattle.pc_thread_view.specs.Inner.SameLaws.{told_Decides}
use Rattle.pc_view.specs.declared.view.View.{View}
use Rattle.pc_view.specs.Views.{pairs_of, IsOfSource, is_same_view}

pub unique_view : (s : Source) (a b : View) → IsOfSource a s → IsOfSource b s → IsSameSet (pairs_of a) (pairs_of b)
    → a ≡ b
unique_view s a b of_a of_b same =
    let threads : a.threads ≡ b.threads =
    unique_by_name numbers_of IsOfThread unique_told s a.threads b.threads of_a of_b same in
    λ i. record { threads = threads i }

pub stays_view : (s t : Source) (a : View) → AgreesOn (pairs_of a) s t → IsOfSource a s → IsOfSource a t
stays_view s t a agrees of_s = stays_by_name numbers_of IsOfThread stays_told s t a.threads agrees of_s

pub view_Decides : (a b : View) → Decides (is_same_view a b) (a ≡ b)
view_Decides a b =
    let test = by_name_Decides told_Decides a.threads b.threads in (
      λ e. let threads : a.threads ≡ b.threads = test.0 e in λ i. record { threads = threads i },
      λ e. test.1 (ap (λ v. v.threads) e),
    )

pub view_equivalence : IsEquivalence is_same_view
view_equivalence = decided is_same_view view_Decides

pub view_partial : IsPartialEquivalence is_same_view
view_partial = partial_equiv_from_equiv view_equivalence
