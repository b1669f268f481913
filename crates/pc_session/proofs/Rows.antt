-- For every set in a run there are the rows that tell it.
use Rattle.std.proofs.Common.{◌≡◌, ℕ, zero, suc, add-one, length, ◌+◌, ◌≤◌, ◌<◌, ◌==◌, ◌&&◌, ◌||◌, ◌↔◌, max, Bool, true, false, IsTrue, List, [], ◌∷◌, map, filter, if◌then◌else◌, take, All, refl, sym, ◌∙◌, ap, subst, inl, inr, arith}
use Rattle.std.specs.List.{list_any, range_with_len, slice_index}
use Rattle.std.specs.List.Sorted.{IsStrictlyIncreasing}
use Rattle.std.proofs.Math.Nat.{le-max_left, le-max_right}
use Rattle.std.proofs.lemmas.Bool.{cases_lt, eq-eqb, eqb-true, false≢true}
use Rattle.std.proofs.lemmas.Bool.Decides.{eqb_tells}
use Rattle.std.proofs.lemmas.List.Elements.{All-weaker, All-nil, All-cons, All-map, All-filter}
use Rattle.std.proofs.lemmas.List.Kept.{IsStrictlyIncreasing-filter}
use Rattle.std.proofs.lemmas.Map.Views.{any-filter_same}
use Rattle.pc_messages.specs.Run.{Run}
use Rattle.pc_messages.specs.State.{state_of}
use Rattle.pc_join.specs.Sets.{has}
use Rattle.pc_view.specs.Prefixes.{top, upto}
use Rattle.pc_script.specs.declared.lists.ShownThread.{ShownThread}
use Rattle.pc_agent.specs.PlainAgent.{Set}
use Rattle.pc_session.specs.ShownViews.{IsPrefix, IsShown, IsShownThread}
use Rattle.pc_messages.proofs.Bools.{both, first_true, or_cases, or_else, or_left, or_right, second_true}

-- ---- ranges of numbers
range_next : (a n k : ℕ) → suc k < length (range_with_len a n) → slice_index (range_with_len a n) k < slice_index (range_with_len a n) (suc k)
range_next a zero k within = absurd (omega (arith, within))
range_next a (suc zero) k within = absurd (omega (arith, within))
range_next a (suc (suc n)) zero within = omega arith
range_next a (suc (suc n)) (suc k) within = range_next (a + 1) (suc n) k (omega (arith, within))

range_rises : (a n : ℕ) → IsStrictlyIncreasing (range_with_len a n)
range_rises a n k within = rw add-one (range_next a n k (omega (arith, within)))

range_above : (low a n : ℕ) → low < a → All (λ m. low < m) (range_with_len a n)
range_above low a zero h = All-nil (λ m. low < m)
range_above low a (suc n) h = All-cons (λ m. low < m) a (range_with_len (a + 1) n) h (range_above low (a + 1) n (omega arith))

in_range : (a n x : ℕ) → a ≤ x → x < a + n → list_any (λ y. y == x) (range_with_len a n) ≡ true
in_range a zero x low high = absurd (omega arith)
in_range a (suc n) x low high = elim (eqb_tells a x) [
  | inl same ↦ or_left (a == x) (list_any (λ y. y == x) (range_with_len (a + 1) n)) same.0
  | inr other ↦ let differ = other.1 in or_right (a == x) (list_any (λ y. y == x) (range_with_len (a + 1) n)) (in_range (a + 1) n x (omega (arith, differ)) (omega arith))
]

-- what a filter leaves of a list has the numbers of the list that pass it
kept : (p : ℕ → Bool) (x : ℕ) (xs : List ℕ) → list_any (λ y. y == x) (filter p xs) ≡ (p x && list_any (λ y. y == x) xs)
kept p x xs = any-filter_same (λ y. y == x) p (p x) (λ k e. ap p (eqb-true k x e)) xs

and_true : (a b : Bool) → b ≡ true → (a && b) ≡ a
and_true true b e = e
and_true false b e = refl

-- ---- the names and numbers of a set
abbrev is_told : Set → ℕ → Bool
is_told set t = list_any (λ p. p.0 == t) set

abbrev greatest : Set → ℕ
greatest [] = 0
greatest (p ∷ set) = max p.0 (greatest set)

pair_of : (set : Set) (t : ℕ) → is_told set t ≡ true → (n : ℕ) × (has set t n ≡ true)
pair_of [] t e = absurd (false≢true e)
pair_of (p ∷ set) t e = elim (eqb_tells p.0 t) [
  | inl same ↦ (p.1, or_left ((p.0 == t) && (p.1 == p.1)) (has set t p.1) (both (p.0 == t) (p.1 == p.1) same.0 (eq-eqb p.1 p.1 refl)))
  | inr other ↦
      let more = pair_of set t (sym (or_else (p.0 == t) (is_told set t) other.0) ∙ e) in
      (more.0, or_right ((p.0 == t) && (p.1 == more.0)) (has set t more.0) more.1)
]

told_of_pair : (set : Set) (t n : ℕ) → has set t n ≡ true → is_told set t ≡ true
told_of_pair [] t n e = absurd (false≢true e)
told_of_pair (p ∷ set) t n e = elim (or_cases ((p.0 == t) && (p.1 == n)) (has set t n) e) [
  | inl here ↦ or_left (p.0 == t) (is_told set t) (first_true (p.0 == t) (p.1 == n) here)
  | inr later ↦ or_right (p.0 == t) (is_told set t) (told_of_pair set t n later)
]

name_below : (set : Set) (t : ℕ) → is_told set t ≡ true → t ≤ greatest set
name_below [] t e = absurd (false≢true e)
name_below (p ∷ set) t e =
    let left : p.0 ≤ max p.0 (greatest set) = le-max_left p.0 (greatest set) in
    let right : greatest set ≤ max p.0 (greatest set) = le-max_right p.0 (greatest set) in
    elim (or_cases (p.0 == t) (is_told set t) e) [
      | inl here ↦ let same = eqb-true p.0 t here in omega (arith, left, same)
      | inr later ↦ let low = name_below set t later in omega (arith, right, low)
    ]

number_below : (set : Set) (t n : ℕ) → has set t n ≡ true → n ≤ top set
number_below [] t n e = absurd (false≢true e)
number_below (p ∷ set) t n e =
    let left : p.1 ≤ max p.1 (top set) = le-max_left p.1 (top set) in
    let right : top set ≤ max p.1 (top set) = le-max_right p.1 (top set) in
    elim (or_cases ((p.0 == t) && (p.1 == n)) (has set t n) e) [
      | inl here ↦ let same = eqb-true p.1 n (second_true (p.0 == t) (p.1 == n) here) in omega (arith, left, same)
      | inr later ↦ let low = number_below set t n later in omega (arith, right, low)
    ]

-- ---- the rows
abbrev names : Set → List ℕ
names set = filter (is_told set) (range_with_len 0 (suc (greatest set)))

abbrev early_of : Set → ℕ → List ℕ
early_of set t = filter (has set t) (range_with_len (upto set t + 1) (suc (top set)))

abbrev row_of : Run → Set → ℕ → ShownThread
row_of run set t = record { thread = t; upto = upto set t; reported = state_of (take (upto set t) (run t)); early = early_of set t }

names_of_rows : (run : Run) (set : Set) (ts : List ℕ) → map (λ (row : ShownThread). row.thread) (map (row_of run set) ts) ≡ ts
names_of_rows run set [] = refl
names_of_rows run set (t ∷ ts) = ap (λ xs. t ∷ xs) (names_of_rows run set ts)

row_for : (run : Run) (set : Set) (t : ℕ) (ts : List ℕ) → list_any (λ (row : ShownThread). row.thread == t) (map (row_of run set) ts) ≡ list_any (λ x. x == t) ts
row_for run set t [] = refl
row_for run set t (x ∷ ts) = ap (λ b. (x == t) || b) (row_for run set t ts)

kept_first : (p : ℕ → Bool) (x : ℕ) (xs : List ℕ) (b : Bool) → p x ≡ b → All (λ y. p y ≡ true) xs → All (λ y. p y ≡ true) (if b then x ∷ xs else xs)
kept_first p x xs true e all = All-cons (λ y. p y ≡ true) x xs e all
kept_first p x xs false e all = all

all_kept : (p : ℕ → Bool) (xs : List ℕ) → All (λ x. p x ≡ true) (filter p xs)
all_kept p [] = All-nil (λ x. p x ≡ true)
all_kept p (x ∷ xs) = kept_first p x (filter p xs) (p x) refl (all_kept p xs)

module _ (the_greatest : (set : Set) (t n : ℕ) → (n ≤ upto set t) ↔ ((m : ℕ) → 1 ≤ m → m ≤ n → IsTrue (has set t m))) where
  prefix_ends : (set : Set) (t : ℕ) (b : Bool) → has set t (upto set t + 1) ≡ b → has set t (upto set t + 1) ≡ false
  prefix_ends set t false e = e
  prefix_ends set t true e = absurd (omega (arith, too_far))
    where
      one_more : (m : ℕ) → 1 ≤ m → m ≤ upto set t + 1 → IsTrue (has set t m)
      one_more m low high = elim (cases_lt (upto set t) m) [
        | inl above ↦ let last : m ≡ upto set t + 1 = omega arith in subst (λ k. has set t k ≡ true) (sym last) e
        | inr below ↦ (the_greatest set t (upto set t)).0 (omega arith) m low below
      ]

      too_far : upto set t + 1 ≤ upto set t
      too_far = (the_greatest set t (upto set t + 1)).1 one_more

  is_prefix : (set : Set) (t : ℕ) → IsPrefix set t (upto set t)
  is_prefix set t =
      record {
        known = λ n low high. (the_greatest set t (upto set t)).0 (omega arith) n low high;
        ends = prefix_ends set t (has set t (upto set t + 1)) refl;
      }

  early_found : (set : Set) (t n : ℕ) → upto set t < n → (b : Bool) → has set t n ≡ b → list_any (λ x. x == n) (early_of set t) ≡ b
  early_found set t n above true e =
      let below = number_below set t n e in
      kept (has set t) n (range_with_len (upto set t + 1) (suc (top set))) ∙ ap (λ b. b && list_any (λ x. x == n) (range_with_len (upto set t + 1) (suc (top set)))) e
      ∙ in_range (upto set t + 1) (suc (top set)) n (omega arith) (omega (arith, below))
  early_found set t n above false e =
      kept (has set t) n (range_with_len (upto set t + 1) (suc (top set))) ∙ ap (λ b. b && list_any (λ x. x == n) (range_with_len (upto set t + 1) (suc (top set)))) e

  row_shown : (run : Run) (set : Set) (t : ℕ) → is_told set t ≡ true → IsShownThread run set (row_of run set t)
  row_shown run set t told =
      record {
        some = pair_of set t told;
        upto = is_prefix set t;
        state = refl;
        above = All-filter (has set t) (λ n. upto set t < n) (range_with_len (upto set t + 1) (suc (top set))) (range_above (upto set t) (upto set t + 1) (suc (top set)) (omega arith));
        ascending = IsStrictlyIncreasing-filter (has set t) (range_with_len (upto set t + 1) (suc (top set))) (range_rises (upto set t + 1) (suc (top set)));
        early = λ n above. early_found set t n above (has set t n) refl;
      }

  pub rows_of : (run : Run) (set : Set) → (rows : List ShownThread) × IsShown run set rows
  rows_of run set = (
    map (row_of run set) (names set),
    record {
      ascending = subst IsStrictlyIncreasing (sym (names_of_rows run set (names set)))
          (IsStrictlyIncreasing-filter (is_told set) (range_with_len 0 (suc (greatest set))) (range_rises 0 (suc (greatest set))));
      each = All-map (IsShownThread run set) (row_of run set) (names set)
          (All-weaker (λ t. is_told set t ≡ true) (λ t. IsShownThread run set (row_of run set t)) (row_shown run set) (names set)
          (all_kept (is_told set) (range_with_len 0 (suc (greatest set)))));
      every = λ t n e.
          let told = told_of_pair set t n e in
          let below = name_below set t told in
          row_for run set t (names set) ∙ kept (is_told set) t (range_with_len 0 (suc (greatest set)))
          ∙ ap (λ b. b && list_any (λ x. x == t) (range_with_len 0 (suc (greatest set)))) told
          ∙ in_range 0 (suc (greatest set)) t (omega arith) (omega (arith, below));
    },
  )
