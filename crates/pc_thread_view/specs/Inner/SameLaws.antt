-- The test of what is told decides that it is equal.
use Rattle.std.specs.Prelude.{ℕ, ◌≡◌, ◌==◌, true, false, List, [], ◌∷◌, Option, Some, None, refl, cond}
use Rattle.std.proofs.Common.{sym, ap, ◌∙◌}
use Rattle.std.specs.Bool.{Decides}
use Rattle.std.specs.Cmp.{IsEquivalence, IsPartialEquivalence, decided, partial_equiv_from_equiv}
use Rattle.std.specs.Cmp.Lexicographic.{pointwise_decides}
use Rattle.pc_join.specs.Inner.Equal.{number_Decides, pair_Decides}
use Rattle.pc_messages.specs.declared.kind.Kind.{Kind}
use Rattle.pc_messages.specs.declared.kind.Kind.TheVariants.{Created, Blocked, Preempted, Yield, Dead, Wakeup, Affinity}
use Rattle.pc_messages.specs.declared.kind.Kind.TheVariants.{Priority}
use Rattle.pc_messages.specs.declared.reported.Phase.{Phase}
use Rattle.pc_messages.specs.declared.reported.Phase.TheVariants as phase
use Rattle.pc_messages.specs.declared.reported.Reported.{Reported}
use Rattle.pc_thread_view.specs.Told.{Told}
use Rattle.pc_thread_view.specs.Same.{written, is_same_early, is_same_told, phase_number, same_numbers, state_numbers}

-- a kind read back from its numbers
read : List ℕ → Kind
read [] = Wakeup
read (tag ∷ []) = Wakeup
read (tag ∷ n ∷ []) = by_tag tag n
  where
    by_tag : ℕ → ℕ → Kind
    by_tag tag n =
        cond (tag == 1) (Blocked n) (cond (tag == 2) (Preempted n) (cond (tag == 3) (Yield n)
        (cond (tag == 4) (Dead n) (cond (tag == 6) (Affinity n) (Priority n)))))
read (tag ∷ mask ∷ ready ∷ rest) = Created (ready == 1) mask

read_written : (kind : Kind) → read (written kind) ≡ kind
unfolding read
read_written (Created true mask) = refl
read_written (Created false mask) = refl
read_written (Blocked ran) = refl
read_written (Preempted ran) = refl
read_written (Yield ran) = refl
read_written (Dead ran) = refl
read_written Wakeup = refl
read_written (Affinity mask) = refl
read_written (Priority level) = refl

-- the numbers tell the kind
same_kind : (a b : Kind) → written a ≡ written b → a ≡ b
same_kind a b e = sym (read_written a) ∙ ap read e ∙ read_written b

numbers_Decide : (xs ys : List ℕ) → Decides (same_numbers xs ys) (xs ≡ ys)
numbers_Decide = pointwise_decides number_Decides

kind_Decides : (a b : Kind) → Decides (same_numbers (written a) (written b)) (a ≡ b)
kind_Decides a b =
    let test = numbers_Decide (written a) (written b) in
    (λ e. same_kind a b (test.0 e), λ e. test.1 (ap written e))

phase_from : ℕ → Phase
phase_from n =
    elim (n == 0) [ true ↦ phase.Ready | false ↦ elim (n == 1) [ true ↦ phase.Blocked | false ↦ phase.Dead ] ]

state_from : List ℕ → Option Reported
state_from [] = None
state_from (p ∷ []) = None
state_from (p ∷ m ∷ []) = None
state_from (p ∷ m ∷ r ∷ []) = None
state_from (p ∷ m ∷ r ∷ l ∷ rest) = Some (record { phase = phase_from p; mask = m; ran = r; level = l })

phase_back : (p : Phase) → phase_from (phase_number p) ≡ p
unfolding phase_from
phase_back phase.Ready = refl
phase_back phase.Blocked = refl
phase_back phase.Dead = refl

state_back : (s : Option Reported) → state_from (state_numbers s) ≡ s
unfolding state_from
state_back None = refl
state_back (Some r) = λ i. Some (record { phase = phase_back r.phase i; mask = r.mask; ran = r.ran; level = r.level })

state_Decides : (a b : Option Reported) → Decides (same_numbers (state_numbers a) (state_numbers b)) (a ≡ b)
state_Decides a b =
    let test = numbers_Decide (state_numbers a) (state_numbers b) in
    (λ e. sym (state_back a) ∙ ap state_from (test.0 e) ∙ state_back b, λ e. test.1 (ap state_numbers e))

early_Decides : (ds es : List (ℕ × Kind)) → Decides (is_same_early ds es) (ds ≡ es)
early_Decides = pointwise_decides (pair_Decides number_Decides kind_Decides)

pub told_Decides : (a b : Told) → Decides (is_same_told a b) (a ≡ b)
told_Decides a b =
    let test = pair_Decides number_Decides (pair_Decides state_Decides early_Decides)
    (a.upto, (a.state, a.early)) (b.upto, (b.state, b.early)) in (
      λ e.
          let same : ◌≡◌ {A = ℕ × (Option Reported × List (ℕ × Kind))} (a.upto, (a.state, a.early))
          (b.upto, (b.state, b.early)) =
          test.0 e in
          λ i. record { upto = (same i).0; state = (same i).1.0; early = (same i).1.1 },
      λ e. test.1 (λ i. ((e i).upto, ((e i).state, (e i).early))),
    )

pub told_equivalence : IsEquivalence is_same_told
told_equivalence = decided is_same_told told_Decides

pub told_partial : IsPartialEquivalence is_same_told
told_partial = partial_equiv_from_equiv told_equivalence
