-- What is told of a thread is of the source of its history exactly where it is of the history.
use Rattle.std.proofs.Common.{ℕ, suc, zero, ◌+◌, ◌-◌, ◌≤◌, ◌≡◌, ◌==◌, ◌↔◌, cond, false, List, [], ◌∷◌, length, take, drop, Option, Some, None, All, refl, sym, ap, ◌∙◌, subst, arith}
use Rattle.std.specs.List.{slice_get}
use Rattle.std.proofs.lemmas.Bool.Decides.{nat_tests}
use Rattle.std.proofs.lemmas.List.{length-take-le}
use Rattle.pc_messages.specs.declared.kind.Kind.{Kind}
use Rattle.pc_messages.specs.declared.reported.Reported.{Reported}
use Rattle.pc_messages.specs.Run.{kind_at}
use Rattle.pc_messages.specs.State.{state_of}
use Rattle.pc_thread_view.specs.Told.{Told, IsOfThread, IsPrefix, HasKinds, HasEach, RiseAbove}
use Rattle.pc_thread_view.specs.Histories.{Has, IsOfHistory, source_of_kinds}

pub kind_after : (kinds : List Kind) (n : ℕ) → kind_at kinds (n + 1) ≡ slice_get kinds n
kind_after kinds n = ap (λ b. cond b None (slice_get kinds (n + 1 - 1))) (not_zero n) ∙ ap (slice_get kinds) (back n)
  where
    not_zero : (n : ℕ) → (n + 1 == 0) ≡ false
    not_zero n = grind (arith, nat_tests)

    back : (n : ℕ) → n + 1 - 1 ≡ n
    back n = omega arith

one : (n : ℕ) → n + 1 ≡ suc n
one n = omega arith

-- the source of a history gives the kinds of its first messages
at_drop : {A : Type 0} (xs : List A) (n : ℕ) (y : A) (ys : List A) → drop n xs ≡ y ∷ ys → (slice_get xs n ≡ Some y) × (drop (suc n) xs ≡ ys)
at_drop [] zero y ys e = cc
at_drop [] (suc n) y ys e = cc
at_drop (x ∷ xs) zero y ys e = (ap (λ l. slice_get l 0) e, ap (drop 1) e)
at_drop (x ∷ xs) (suc n) y ys e = at_drop xs n y ys e

gives : (kinds : List Kind) (n k : ℕ) (rest : List Kind) → drop n kinds ≡ rest → HasKinds (source_of_kinds kinds) n (take k rest)
gives kinds n zero rest e = tt
gives kinds n (suc k) [] e = tt
gives kinds n (suc k) (x ∷ xs) e =
    let at = at_drop kinds n x xs e in
    (kind_after kinds n ∙ at.0, gives kinds (n + 1) k xs (ap (λ m. drop m kinds) (one n) ∙ at.1))

pub prefix_from : (kinds : List Kind) (upto : ℕ) (state : Option Reported) → upto ≤ length kinds → state ≡ state_of (take upto kinds) → IsPrefix (source_of_kinds kinds) upto state
prefix_from kinds upto state within e = record { kinds = take upto kinds; count = length-take-le upto kinds within; of_source = gives kinds 0 upto kinds refl; folded = e }

-- and kinds that it gives are those of the first messages
dropped : {A : Type 0} (xs : List A) (i : ℕ) (x : A) → slice_get xs i ≡ Some x → drop i xs ≡ x ∷ drop (suc i) xs
dropped [] i x e = cc
dropped (y ∷ ys) zero x e = let h : y ≡ x = cc in λ i. h i ∷ ys
dropped (y ∷ ys) (suc i) x e = dropped ys i x e

given : (kinds : List Kind) (n : ℕ) (first : List Kind) → HasKinds (source_of_kinds kinds) n first → (take (length first) (drop n kinds) ≡ first) × (length first ≤ length (drop n kinds))
given kinds n [] h = (refl, omega arith)
given kinds n (k ∷ ks) h =
    let got : slice_get kinds n ≡ Some k = sym (kind_after kinds n) ∙ h.0 in
    let cut : drop n kinds ≡ k ∷ drop (n + 1) kinds = dropped kinds n k got ∙ ap (λ m. k ∷ drop m kinds) (sym (one n)) in
    let rest = given kinds (n + 1) ks h.1 in
    (ap (take (suc (length ks))) cut ∙ ap (λ xs. k ∷ xs) rest.0, subst (λ xs. suc (length ks) ≤ length xs) (sym cut) (let le = rest.1 in omega arith))

pub prefix_to : (kinds : List Kind) (upto : ℕ) (state : Option Reported) → IsPrefix (source_of_kinds kinds) upto state → (upto ≤ length kinds) × (state ≡ state_of (take upto kinds))
prefix_to kinds upto state p =
    let first = given kinds 0 p.kinds p.of_source in
    (subst (λ n. n ≤ length kinds) p.count first.1, p.folded ∙ ap state_of (sym first.0 ∙ ap (λ n. take n kinds) p.count))

-- early messages
each_from : (kinds : List Kind) (early : List (ℕ × Kind)) → All (Has kinds) early → HasEach (source_of_kinds kinds) early
each_from kinds [] all = tt
each_from kinds (e ∷ es) all = (all 0 e (omega arith), each_from kinds es (λ k d less. all (suc k) d (omega arith)))

each_to : (kinds : List Kind) (early : List (ℕ × Kind)) → HasEach (source_of_kinds kinds) early → All (Has kinds) early
each_to kinds [] h k d less = absurd (let none : ⊥ = omega arith in none)
each_to kinds (e ∷ es) h zero d less = h.0
each_to kinds (e ∷ es) h (suc k) d less = each_to kinds es h.1 k d (omega (arith, less))

pub of_history : (kinds : List Kind) (told : Told) → IsOfHistory kinds told → RiseAbove (told.upto + 1) told.early → IsOfThread told (source_of_kinds kinds)
of_history kinds told h gap = record { prefix = prefix_from kinds told.upto told.state h.prefix.within h.prefix.state; gap = gap; early = each_from kinds told.early h.early }

pub to_history : (kinds : List Kind) (told : Told) → IsOfThread told (source_of_kinds kinds) → IsOfHistory kinds told
to_history kinds told h =
    let prefix = prefix_to kinds told.upto told.state h.prefix in
    record { prefix = record { within = prefix.0; state = prefix.1 }; early = each_to kinds told.early h.early }

pub in_plain_words : (kinds : List Kind) (told : Told) → IsOfThread told (source_of_kinds kinds) ↔ (IsOfHistory kinds told × RiseAbove (told.upto + 1) told.early)
in_plain_words kinds told = (λ h. (to_history kinds told h, h.gap), λ h. of_history kinds told h.0 h.1)
