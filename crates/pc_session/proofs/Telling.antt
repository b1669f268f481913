-- The numbers that are told of a thread: the prefix, and the early ones above it.
use Rattle.std.proofs.Common.{◌≡◌, ℕ, zero, suc, length, add-one, All, ◌+◌, ◌≤◌, ◌<◌, ◌==◌, ◌||◌, true, false, List, [], ◌∷◌, map, refl, ◌∙◌, ap, inl, inr, arith}
use Rattle.std.specs.List.{list_any}
use Rattle.std.specs.List.{slice_index}
use Rattle.std.specs.List.Sorted.{IsStrictlyIncreasing}
use Rattle.std.proofs.lemmas.List.Elements.{All-weaker, All-nil, All-cons}
use Rattle.std.proofs.lemmas.Bool.Decides.{eqb_tells, nat_tests}
use Rattle.pc_messages.specs.declared.kind.Kind.{Kind}
use Rattle.pc_join.specs.ByName.{AscendFrom}
use Rattle.pc_join.specs.Ranges.{one_to}
use Rattle.pc_thread_view.specs.Told.{Told, tells, is_early, RiseAbove}
use Rattle.pc_messages.proofs.Bools.{or_else, or_left}

-- names that ascend are each below the next
next_above : {V : Type 0} (n : ℕ) (es : List (ℕ × V)) → AscendFrom n es → (k : ℕ) → suc k < length (map (λ e. e.0) es)
    → slice_index (map (λ e. e.0) es) k < slice_index (map (λ e. e.0) es) (suc k)
next_above n [] h k within = absurd (omega (arith, within))
next_above n (e ∷ []) h k within = absurd (omega (arith, within))
next_above n (e ∷ d ∷ es) h zero within = let low = h.1.0 in omega (arith, low)
next_above n (e ∷ d ∷ es) h (suc k) within = next_above (e.0 + 1) (d ∷ es) h.1 k (omega (arith, within))

pub names_rise : {V : Type 0} (n : ℕ) (es : List (ℕ × V)) → AscendFrom n es → IsStrictlyIncreasing (map (λ e. e.0) es)
names_rise n es h k within = rw add-one (next_above n es h k (omega (arith, within)))

-- the prefix ends where the set has no further number
above_early : (n m : ℕ) (early : List (ℕ × Kind)) → RiseAbove n early → m ≤ n → is_early early m ≡ false
above_early n m [] h le = refl
above_early n m (e ∷ es) h le =
    let low = h.0 in
    elim (eqb_tells e.0 m) [
      | inl same ↦ let s = same.1 in absurd (omega arith)
      | inr other ↦ ap (λ b. b || is_early es m) other.0 ∙ above_early e.0 m es h.1 (omega arith)
    ]

one_to_yes : (upto n : ℕ) → 1 ≤ n → n ≤ upto → one_to upto n ≡ true
one_to_yes upto n low high = grind (arith, nat_tests)

one_to_no : (upto n : ℕ) → upto < n → one_to upto n ≡ false
one_to_no upto n high = grind (arith, nat_tests)

pub told_prefix : (told : Told) (n : ℕ) → 1 ≤ n → n ≤ told.upto → tells told n ≡ true
told_prefix told n low high = or_left (one_to told.upto n) (is_early told.early n) (one_to_yes told.upto n low high)

pub told_early : (told : Told) (n : ℕ) → told.upto < n → tells told n ≡ is_early told.early n
told_early told n high = or_else (one_to told.upto n) (is_early told.early n) (one_to_no told.upto n high)

pub told_ends : (told : Told) → RiseAbove (told.upto + 1) told.early → tells told (told.upto + 1) ≡ false
told_ends told h = told_early told (told.upto + 1) (omega arith) ∙ above_early (told.upto + 1) (told.upto + 1) told.early h (omega arith)

-- the numbers of early messages
pub numbers_above : (n : ℕ) (early : List (ℕ × Kind)) → RiseAbove n early → All (λ m. n < m) (map (λ e. e.0) early)
numbers_above n [] h = All-nil (λ m. n < m)
numbers_above n (e ∷ es) h =
    let low = h.0 in
    All-cons (λ m. n < m) e.0 (map (λ d. d.0) es) low (All-weaker (λ m. e.0 < m) (λ m. n < m) (λ m above. omega (arith, low)) (map (λ d. d.0) es) (numbers_above e.0 es h.1))

early_ascend : (n : ℕ) (early : List (ℕ × Kind)) → RiseAbove n early → AscendFrom (n + 1) early
early_ascend n [] h = tt
early_ascend n (e ∷ es) h = let low = h.0 in (omega arith, early_ascend e.0 es h.1)

pub numbers_rise : (n : ℕ) (early : List (ℕ × Kind)) → RiseAbove n early → IsStrictlyIncreasing (map (λ e. e.0) early)
numbers_rise n early h = names_rise (n + 1) early (early_ascend n early h)

pub numbers_early : (early : List (ℕ × Kind)) (n : ℕ) → list_any (λ x. x == n) (map (λ e. e.0) early) ≡ is_early early n
numbers_early [] n = refl
numbers_early (e ∷ es) n = ap (λ b. (e.0 == n) || b) (numbers_early es n)
