-- What one message tells alone.
use Rattle.std.proofs.Common.{ℕ, ◌<◌, ◌≤◌, ◌≡◌, ◌==◌, ◌||◌, Bool, true, false, ◌⊎◌, IsTrue, IsFalse, cond, List, [], ◌∷◌, length, Option, Some, None, refl, sym, ap, ◌∙◌, subst, arith, inl, inr}
use Rattle.std.proofs.lemmas.Bool.{false≢true}
use Rattle.std.proofs.lemmas.Bool.Decides.{nat_tests}
use Rattle.pc_messages.specs.declared.kind.Kind.{Kind}
use Rattle.pc_messages.specs.declared.kind.Kind.TheVariants.{Created, Blocked, Preempted, Yield, Dead, Wakeup, Affinity, Priority}
use Rattle.pc_messages.specs.declared.reported.Phase.{Phase}
use Rattle.pc_messages.specs.declared.reported.Phase.TheVariants as phase
use Rattle.pc_messages.specs.declared.reported.Reported.{Reported}
use Rattle.pc_messages.specs.Run.{IsWellFormed, is_created}
use Rattle.pc_messages.specs.State.{state_of}
use Rattle.pc_join.specs.Sets.{Source, IsSameSet, IsVoid, IsWithin}
use Rattle.pc_join.specs.Ranges.{one_to}
use Rattle.pc_thread_view.specs.Told.{Told, IsOfThread, IsSound, IsStateOfSome, TellsSome, HasKinds, numbers_of, only, tells, told_by_message, told_by_prefix}
use Rattle.pc_thread_view.proofs.Among.{exceeds, not_void}

-- by whether it is the first
module _ (number : ℕ) (kind : Kind) where
  abbrev first : Told
  first = record { upto = 1; state = state_of (kind ∷ []); early = [] }

  abbrev later : Told
  later = record { upto = 0; state = None; early = (number, kind) ∷ [] }

  by_number : (P : Told → Type 0) → (number ≡ 1 → P first) → (¬ (number ≡ 1) → P later) → P (told_by_message number kind)
  by_number P f g = elim (number == 1) as (λ b. (number == 1) ≡ b → P (cond b first later)) [ true ↦ λ e. f (same number e) | false ↦ λ e. g (other number e) ] refl
    where
      same : (n : ℕ) → (n == 1) ≡ true → n ≡ 1
      same n e = grind (arith, nat_tests)

      other : (n : ℕ) → (n == 1) ≡ false → ¬ (n ≡ 1)
      other n e = grind (arith, nat_tests)

  pub one_first : number ≡ 1 → told_by_message number kind ≡ first
  one_first e = by_number (λ v. v ≡ first) (λ f. refl) (λ g. absurd (g e))

  pub one_later : ¬ (number ≡ 1) → told_by_message number kind ≡ later
  one_later ne = by_number (λ v. v ≡ later) (λ f. absurd (ne f)) (λ g. refl)

  -- it tells its number alone
  pub one_tells : (n : ℕ) → tells (told_by_message number kind) n ≡ (n == number)
  one_tells n = by_number (λ v. tells v n ≡ (n == number)) (λ e. as_first number n e) (λ ne. as_later number n)
    where
      as_first : (number n : ℕ) → number ≡ 1 → (one_to 1 n || false) ≡ (n == number)
      as_first number n e = grind (arith, nat_tests)

      as_later : (number n : ℕ) → (one_to 0 n || ((number == n) || false)) ≡ (n == number)
      as_later number n = grind (arith, nat_tests)

  pub one_same : IsSameSet (numbers_of (told_by_message number kind)) (only number)
  one_same [] = refl
  one_same (n ∷ []) = one_tells n
  one_same (n ∷ k ∷ m) = refl

  pub one_here : tells (told_by_message number kind) number ≡ true
  one_here = one_tells number ∙ itself number
    where
      itself : (n : ℕ) → (n == n) ≡ true
      itself n = grind (arith, nat_tests)

  pub one_some : TellsSome (told_by_message number kind)
  one_some = (number, one_here)

  -- it is sound
  first_state : (kind : Kind) → IsTrue (is_created kind) → IsStateOfSome 1 (state_of (kind ∷ []))
  first_state (Created true mask) h = (omega arith, omega arith)
  first_state (Created false mask) h = (omega arith, omega arith)
  first_state (Blocked ran) h = absurd (false≢true h)
  first_state (Preempted ran) h = absurd (false≢true h)
  first_state (Yield ran) h = absurd (false≢true h)
  first_state (Dead ran) h = absurd (false≢true h)
  first_state Wakeup h = absurd (false≢true h)
  first_state (Affinity mask) h = absurd (false≢true h)
  first_state (Priority level) h = absurd (false≢true h)

  not_created : (b : Bool) → (IsTrue b → ⊥) → IsFalse b
  not_created true h = absurd (h refl)
  not_created false h = refl

  pub one_sound : IsWellFormed number kind → IsSound (told_by_message number kind)
  one_sound well = by_number (λ v. IsSound v)
      (λ e. record { state = first_state kind (well.created.1 e); upto_fits = omega arith; gap = tt; early = tt })
      (λ ne. record {
        state = refl;
        upto_fits = omega arith;
        gap = (let h = well.from_one in omega arith, tt);
        early = (well.greatest, not_created (is_created kind) (λ h. ne (well.created.0 h)), tt);
      })

  -- the sources that it is of
  pub one_source : IsWellFormed number kind → (s : Source) → s (number ∷ []) ≡ Some kind → IsOfThread (told_by_message number kind) s
  one_source well s gives = by_number (λ v. IsOfThread v s)
      (λ e. record {
        prefix = record { kinds = kind ∷ []; count = refl; of_source = (subst (λ n. s (n ∷ []) ≡ Some kind) e gives, tt); folded = refl };
        gap = tt;
        early = tt;
      })
      (λ ne. record {
        prefix = record { kinds = []; count = refl; of_source = tt; folded = refl };
        gap = (let h = well.from_one in omega arith, tt);
        early = (gives, tt);
      })

  pub one_gives : IsWellFormed number kind → (s : Source) → IsOfThread (told_by_message number kind) s → s (number ∷ []) ≡ Some kind
  one_gives well s = by_number (λ v. IsOfThread v s → s (number ∷ []) ≡ Some kind)
      (λ e of_first. subst (λ n. s (n ∷ []) ≡ Some kind) (sym e) (from_state of_first.prefix.kinds (well.created.1 e) of_first.prefix.count of_first.prefix.of_source of_first.prefix.folded))
      (λ ne of_later. of_later.early.0)
    where
      is_ready : Phase → Bool
      is_ready phase.Ready = true
      is_ready phase.Blocked = false
      is_ready phase.Dead = false

      -- the state of a first message tells the message
      read : Option Reported → Kind
      read None = Wakeup
      read (Some r) = Created (is_ready r.phase) r.mask

      only_kind : (j k : Kind) → IsTrue (is_created j) → state_of (j ∷ []) ≡ state_of (k ∷ []) → k ≡ j
      only_kind (Created true mask) (Created true m) h e = sym (ap read e)
      only_kind (Created true mask) (Created false m) h e = sym (ap read e)
      only_kind (Created false mask) (Created true m) h e = sym (ap read e)
      only_kind (Created false mask) (Created false m) h e = sym (ap read e)
      only_kind (Created true mask) (Blocked ran) h e = cc
      only_kind (Created true mask) (Preempted ran) h e = cc
      only_kind (Created true mask) (Yield ran) h e = cc
      only_kind (Created true mask) (Dead ran) h e = cc
      only_kind (Created true mask) Wakeup h e = cc
      only_kind (Created true mask) (Affinity m) h e = cc
      only_kind (Created true mask) (Priority level) h e = cc
      only_kind (Created false mask) (Blocked ran) h e = cc
      only_kind (Created false mask) (Preempted ran) h e = cc
      only_kind (Created false mask) (Yield ran) h e = cc
      only_kind (Created false mask) (Dead ran) h e = cc
      only_kind (Created false mask) Wakeup h e = cc
      only_kind (Created false mask) (Affinity m) h e = cc
      only_kind (Created false mask) (Priority level) h e = cc
      only_kind j k h e = absurd (false≢true h)

      from_state : (kinds : List Kind) → IsTrue (is_created kind) → length kinds ≡ 1 → HasKinds s 0 kinds → state_of (kind ∷ []) ≡ state_of kinds → s (1 ∷ []) ≡ Some kind
      from_state [] h n of_source e = absurd (omega arith)
      from_state (k ∷ []) h n of_source e = of_source.0 ∙ ap (λ x. Some x) (only_kind kind k h e)
      from_state (k ∷ l ∷ rest) h n of_source e = absurd (omega arith)

-- a prefix of which all is told is reached
pub prefix_reached : (v : Told) (upto : ℕ) (reported : Reported) → IsSound v → IsWithin (numbers_of (told_by_prefix upto reported)) (numbers_of v) → upto ≤ v.upto
prefix_reached v upto reported sound within = elim (order_of v.upto upto) [
  | inl lt ↦ absurd (exceeds v (told_by_prefix upto reported) sound lt (λ n. within (n ∷ [])))
  | inr le ↦ le
]
  where
    order_of : (a b : ℕ) → (a < b) ⊎ (b ≤ a)
    order_of a b = grind arith

pub prefix_not_void : (upto : ℕ) (reported : Reported) → 1 ≤ upto → ¬ IsVoid (numbers_of (told_by_prefix upto reported))
prefix_not_void upto reported h = not_void (told_by_prefix upto reported) (1, one_in upto h)
  where
    one_in : (u : ℕ) → 1 ≤ u → (one_to u 1 || false) ≡ true
    one_in u h = grind (arith, nat_tests)
