-- How far views and sets of pairs know a thread without a gap.
use Rattle.std.proofs.Common.{ℕ, suc, zero, ◌+◌, ◌<◌, ◌≤◌, ◌≡◌, ◌==◌, ◌⊎◌, if◌then◌else◌, max, nat_le, Bool, true, false, IsTrue, ◌↔◌, List, [], ◌∷◌, ◌||◌, ◌&&◌, length, take, Option, Some, None, All, refl, sym, ap, ◌∙◌, subst, arith, inl, inr}
use Rattle.std.specs.List.{slice_get}
use Rattle.std.proofs.lemmas.Bool.{and_parts, cases_lt, eqb-true, false≢true}
use Rattle.std.specs.Cmp.Derive.{both_true}
use Rattle.std.proofs.lemmas.Bool.Decides.{nat_tests}
use Rattle.pc_messages.specs.State.{state_of}
use Rattle.pc_messages.specs.declared.kind.Kind.{Kind}
use Rattle.pc_messages.specs.Run.{Run, kind_at}
use Rattle.pc_join.specs.Sets.{IsSameSet, IsWithin, as_members, has}
use Rattle.pc_join.specs.ByName.{known_in}
use Rattle.pc_join.specs.Ranges.{one_to}
use Rattle.pc_thread_view.specs.Told.{Told, is_early, numbers_of}
use Rattle.pc_view.specs.declared.view.View.{View}
use Rattle.pc_view.specs.Views.{IsOfRun, pairs_in, pairs_of, thread_of}
use Rattle.pc_view.specs.Prefixes.{upto_told, upto_of, state_told, reported_in, has_upto, top, upto_within, upto, reports}
use Rattle.pc_thread_view.specs.Histories.{Has}
use Rattle.pc_thread_view.proofs.Histories.{kind_after}
use Rattle.pc_view.proofs.Audits.{early_of_run}
use Rattle.pc_view.proofs.Runs.{state_of_run, within_run, has_prefix, missing_next}

le_both : {a b : ℕ} → a ≤ b → b ≤ a → a ≡ b
le_both h e = omega arith

-- all numbers up to one
last_or_less : (m n : ℕ) → m ≤ suc n → (m ≡ suc n) ⊎ (m ≤ n)
last_or_less m n h = grind arith

each_upto : (set : List (ℕ × ℕ)) (t n : ℕ) → has_upto set t n ≡ true → (m : ℕ) → 1 ≤ m → m ≤ n → IsTrue (has set t m)
each_upto set t zero h m low high = absurd (let none : ⊥ = omega arith in none)
each_upto set t (suc n) h m low high =
    let parts = and_parts (has set t (suc n)) (has_upto set t n) h in
    elim (last_or_less m n high) [
      | inl e ↦ subst (λ k. IsTrue (has set t k)) (sym e) parts.0
      | inr le ↦ each_upto set t n parts.1 m low le
    ]

all_upto : (set : List (ℕ × ℕ)) (t n : ℕ) → ((m : ℕ) → 1 ≤ m → m ≤ n → IsTrue (has set t m)) → has_upto set t n ≡ true
all_upto set t zero h = refl
all_upto set t (suc n) h = both_true {s = has set t (suc n)} {t = has_upto set t n} (h (suc n) (omega arith) (omega arith)) (all_upto set t n (λ m low high. h m low (omega arith)))

found : (b : Bool) (n k : ℕ) (P : ℕ → Type 0) → (b ≡ true → P n) → P k → P (if b then n else k)
found true n k P h p = h refl
found false n k P h p = p

within_has : (set : List (ℕ × ℕ)) (t n : ℕ) → has_upto set t (upto_within set t n) ≡ true
within_has set t zero = refl
within_has set t (suc n) = found (has_upto set t (suc n)) (suc n) (upto_within set t n) (λ k. has_upto set t k ≡ true) (λ e. e) (within_has set t n)

chosen : (b : Bool) (n k : ℕ) → b ≡ true → n ≤ (if b then n else k)
chosen true n k h = omega arith
chosen false n k h = absurd (false≢true h)

either_way : (b : Bool) (m n k : ℕ) → m ≤ n → m ≤ k → m ≤ (if b then n else k)
either_way true m n k h e = h
either_way false m n k h e = e

within_greatest : (set : List (ℕ × ℕ)) (t n k : ℕ) → n ≤ k → has_upto set t n ≡ true → n ≤ upto_within set t k
within_greatest set t n zero le h = le
within_greatest set t n (suc k) le h =
    elim (last_or_less n k le) [
      | inl e ↦ subst (λ m. m ≤ upto_within set t (suc k)) (sym e) (chosen (has_upto set t (suc k)) (suc k) (upto_within set t k) (subst (λ m. has_upto set t m ≡ true) e h))
      | inr less ↦ either_way (has_upto set t (suc k)) n (suc k) (upto_within set t k) le (within_greatest set t n k less h)
    ]

here_or_later : (a b : Bool) → (a || b) ≡ true → (a ≡ true) ⊎ (b ≡ true)
here_or_later true b h = inl refl
here_or_later false b h = inr h

max_left : (a b m : ℕ) → m ≤ a → m ≤ max a b
max_left a b m h = grind arith

max_right : (a b m : ℕ) → m ≤ b → m ≤ max a b
max_right a b m h = grind arith

at_most_top : (set : List (ℕ × ℕ)) (t m : ℕ) → has set t m ≡ true → m ≤ top set
at_most_top [] t m h = absurd (false≢true h)
at_most_top (p ∷ ps) t m h =
    elim (here_or_later ((p.0 == t) && (p.1 == m)) (has ps t m) h) [
      | inl here ↦
          let number : p.1 ≡ m = eqb-true p.1 m (and_parts (p.0 == t) (p.1 == m) here).1 in
          max_left p.1 (top ps) m (omega (arith, number))
      | inr later ↦ max_right p.1 (top ps) m (at_most_top ps t m later)
    ]

pub greatest : (set : List (ℕ × ℕ)) (t n : ℕ) → (n ≤ upto set t) ↔ ((m : ℕ) → 1 ≤ m → m ≤ n → IsTrue (has set t m))
greatest set t n = (λ le m low high. each_upto set t (upto set t) (within_has set t (top set)) m low (omega (arith, le, high)), λ all. reached n all)
  where
    reached : (n : ℕ) → ((m : ℕ) → 1 ≤ m → m ≤ n → IsTrue (has set t m)) → n ≤ upto set t
    reached zero all = omega arith
    reached (suc n) all = within_greatest set t (suc n) (top set) (at_most_top set t (suc n) (all (suc n) (omega arith) (omega arith))) (all_upto set t (suc n) all)

-- the set of a view
pub prefix_of : (view : View) (t n : ℕ) → 1 ≤ n → n ≤ upto_of view t → pairs_of view (t ∷ n ∷ []) ≡ true
prefix_of view t n low high = by_told (thread_of view t) refl high
  where
    by_told : (o : Option Told) → thread_of view t ≡ o → n ≤ upto_told o → pairs_of view (t ∷ n ∷ []) ≡ true
    by_told None e high = absurd (let none : ⊥ = omega (arith, low, high) in none)
    by_told (Some told) e high = has_prefix view t n told e low high

pub next_of : (run : Run) (view : View) (t : ℕ) → IsOfRun run view → pairs_of view (t ∷ (upto_of view t + 1) ∷ []) ≡ false
next_of run view t of_run = by_told (thread_of view t) refl
  where
    by_told : (o : Option Told) → thread_of view t ≡ o → pairs_of view (t ∷ (upto_told o + 1) ∷ []) ≡ false
    by_told None e = ap (λ o. known_in numbers_of o (1 ∷ [])) e
    by_told (Some told) e = missing_next run view t told of_run e

has_at : {A : Type 0} (xs : List A) (i : ℕ) (x : A) → slice_get xs i ≡ Some x → i < length xs
has_at [] i x e = cc
has_at (y ∷ xs) zero x e = omega arith
has_at (y ∷ xs) (suc i) x e = let less = has_at xs i x e in omega arith

in_history : (kinds : List Kind) (n : ℕ) (kind : Kind) → kind_at kinds n ≡ Some kind → (nat_le 1 n && nat_le n (length kinds)) ≡ true
in_history kinds zero kind e = cc
in_history kinds (suc n) kind e = within n (length kinds) (has_at kinds n kind (sym (kind_after kinds n) ∙ ap (kind_at kinds) (one n) ∙ e))
  where
    one : (n : ℕ) → n + 1 ≡ suc n
    one n = omega arith

    within : (n l : ℕ) → n < l → (nat_le 1 (suc n) && nat_le (suc n) l) ≡ true
    within n l h = grind (arith, nat_tests)

early_in : (kinds : List Kind) (early : List (ℕ × Kind)) (n : ℕ) → All (Has kinds) early → is_early early n ≡ true → (nat_le 1 n && nat_le n (length kinds)) ≡ true
early_in kinds [] n all h = absurd (false≢true h)
early_in kinds (e ∷ es) n all h =
    elim (here_or_later (e.0 == n) (is_early es n) h) [
      | inl here ↦ subst (λ m. (nat_le 1 m && nat_le m (length kinds)) ≡ true) (eqb-true e.0 n here) (in_history kinds e.0 e.1 (all 0 e (omega arith)))
      | inr later ↦ early_in kinds es n (λ k d less. all (suc k) d (omega arith)) later
    ]

prefix_in : (upto length n : ℕ) → upto ≤ length → one_to upto n ≡ true → (nat_le 1 n && nat_le n length) ≡ true
prefix_in upto length n h e = grind (arith, nat_tests)

pub within_of : (run : Run) (view : View) → IsOfRun run view → IsWithin (pairs_of view) (pairs_in run)
within_of run view of_run [] h = h
within_of run view of_run (t ∷ []) h = absurd (false≢true (sym (alone (thread_of view t)) ∙ h))
  where
    alone : (o : Option Told) → known_in numbers_of o [] ≡ false
    alone None = refl
    alone (Some told) = refl
within_of run view of_run (t ∷ n ∷ []) h = by_told (thread_of view t) refl h
  where
    by_told : (o : Option Told) → thread_of view t ≡ o → known_in numbers_of o (n ∷ []) ≡ true → (nat_le 1 n && nat_le n (length (run t))) ≡ true
    by_told None e h = absurd (false≢true h)
    by_told (Some told) e h =
        elim (here_or_later (one_to told.upto n) (is_early told.early n) h) [
          | inl here ↦ prefix_in told.upto (length (run t)) n (within_run run view t told of_run e) here
          | inr later ↦ early_in (run t) told.early n (early_of_run run view t told of_run e) later
        ]
within_of run view of_run (t ∷ n ∷ k ∷ m) h = absurd (false≢true (sym (long (thread_of view t)) ∙ h))
  where
    long : (o : Option Told) → known_in numbers_of o (n ∷ k ∷ m) ≡ false
    long None = refl
    long (Some told) = refl

-- a view of a run, and its set
pub upto_told_by : (run : Run) (set : List (ℕ × ℕ)) (view : View) (t : ℕ) → IsOfRun run view → IsSameSet (pairs_of view) (as_members set) → upto_of view t ≡ upto set t
upto_told_by run set view t of_run same = le_both
    ((greatest set t (upto_of view t)).1 (λ m low high. sym (same (t ∷ m ∷ [])) ∙ prefix_of view t m low high))
    (no_more (cases_lt (upto_of view t) (upto set t)))
  where
    no_more : (upto_of view t < upto set t) ⊎ (upto set t ≤ upto_of view t) → upto set t ≤ upto_of view t
    no_more (inr le) = le
    no_more (inl less) =
        let there : has set t (upto_of view t + 1) ≡ true = (greatest set t (upto set t)).0 (omega arith) (upto_of view t + 1) (omega arith) (omega (arith, less)) in
        absurd (false≢true (sym (next_of run view t of_run) ∙ same (t ∷ (upto_of view t + 1) ∷ []) ∙ there))

-- what a view of a run reports is the state of so much of the run
pub reported_of_run : (run : Run) (view : View) (t : ℕ) → IsOfRun run view → reported_in view t ≡ state_of (take (upto_of view t) (run t))
reported_of_run run view t of_run = by_told (thread_of view t) refl
  where
    by_told : (o : Option Told) → thread_of view t ≡ o → state_told o ≡ state_of (take (upto_told o) (run t))
    by_told None e = refl
    by_told (Some told) e = state_of_run run view t told of_run e

pub reports_told_by : (run : Run) (set : List (ℕ × ℕ)) (view : View) (t : ℕ) → IsOfRun run view → IsSameSet (pairs_of view) (as_members set) → reported_in view t ≡ reports run set t
reports_told_by run set view t of_run same = reported_of_run run view t of_run ∙ ap (λ n. state_of (take n (run t))) (upto_told_by run set view t of_run same)
