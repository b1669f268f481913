-- Ranges that are apart are told by the numbers that they have.
use Rattle.std.specs.Prelude.{ℕ, ◌+◌, ◌<◌, ◌≤◌, ◌≡◌, ◌||◌, Bool, true, false, List, [], ◌∷◌, refl, ◌⊎◌}
use Rattle.std.proofs.Common.{sym, ap, subst, ◌∙◌, arith, inl, inr}
use Rattle.std.proofs.lemmas.Bool.{false≢true}
use Rattle.std.proofs.lemmas.Bool.Decides.{nat_tests}
use Rattle.pc_join.specs.Sets.{IsSameSet}
use Rattle.pc_join.specs.Ranges.{in_range, in_ranges, numbers_in, AreApart}

pub below_range : (r : ℕ × ℕ) (n : ℕ) → n < r.0 → in_range r n ≡ false
below_range r n h = grind (arith, nat_tests)

pub above_range : (r : ℕ × ℕ) (n : ℕ) → r.1 < n → in_range r n ≡ false
above_range r n h = grind (arith, nat_tests)

pub inside_range : (r : ℕ × ℕ) (n : ℕ) → r.0 ≤ n → n ≤ r.1 → in_range r n ≡ true
inside_range r n h e = grind (arith, nat_tests)

-- ranges above n lack each number up to n
pub lacks_below : (n : ℕ) (rs : List (ℕ × ℕ)) (m : ℕ) → AreApart n rs → m ≤ n → in_ranges rs m ≡ false
lacks_below n [] m h e = refl
lacks_below n (r ∷ rs) m h e =
    ap (λ b. b || in_ranges rs m) (below_range r m (omega arith)) ∙ lacks_below (r.1 + 1) rs m h.2 (omega arith)

pub has_first : (r : ℕ × ℕ) (rs : List (ℕ × ℕ)) (n : ℕ) → r.0 ≤ n → n ≤ r.1 → in_ranges (r ∷ rs) n ≡ true
has_first r rs n h e = ap (λ b. b || in_ranges rs n) (inside_range r n h e)

pub lacks_gap : (k : ℕ) (r : ℕ × ℕ) (rs : List (ℕ × ℕ)) → AreApart k (r ∷ rs) → in_ranges (r ∷ rs) (r.1 + 1) ≡ false
lacks_gap k r rs h =
    ap (λ b. b || in_ranges rs (r.1 + 1)) (above_range r (r.1 + 1) (omega arith))
    ∙ lacks_below (r.1 + 1) rs (r.1 + 1) h.2 (omega arith)

clash : (a b : Bool) → a ≡ true → b ≡ false → a ≡ b → ⊥
clash a b p q e = false≢true (sym q ∙ sym e ∙ p)

le_both : (a b : ℕ) → a ≤ b → b ≤ a → a ≡ b
le_both a b h e = omega arith

order_of : (a b : ℕ) → (a < b) ⊎ (b ≤ a)
order_of a b = grind arith

-- the first range of one starts no later than that of the other
starts_no_later : (k : ℕ) (r s : ℕ × ℕ) (rs ss : List (ℕ × ℕ)) → AreApart k (r ∷ rs) → AreApart k (s ∷ ss)
    → ((n : ℕ) → in_ranges (r ∷ rs) n ≡ in_ranges (s ∷ ss) n) → s.0 ≤ r.0
starts_no_later k r s rs ss h g same =
    elim (order_of r.0 s.0) [
      | inl lt ↦
          absurd (clash _ _ (has_first r rs r.0 (omega arith) h.1)
          (lacks_below r.0 (s ∷ ss) r.0 (lt, g.1, g.2) (omega arith)) (same r.0))
      | inr le ↦ le
    ]

ends_no_later : (k : ℕ) (r s : ℕ × ℕ) (rs ss : List (ℕ × ℕ)) → AreApart k (r ∷ rs) → AreApart k (s ∷ ss) → r.0 ≡ s.0
    → ((n : ℕ) → in_ranges (r ∷ rs) n ≡ in_ranges (s ∷ ss) n) → s.1 ≤ r.1
ends_no_later k r s rs ss h g e same =
    elim (order_of r.1 s.1) [
      | inl lt ↦
          absurd (clash _ _ (has_first s ss (r.1 + 1) (omega (arith, h.1)) (omega arith)) (lacks_gap k r rs h)
          (sym (same (r.1 + 1))))
      | inr le ↦ le
    ]

same_rest : (r : ℕ × ℕ) (rs ss : List (ℕ × ℕ)) (n : ℕ) → AreApart (r.1 + 1) rs → AreApart (r.1 + 1) ss
    → in_ranges (r ∷ rs) n ≡ in_ranges (r ∷ ss) n → in_ranges rs n ≡ in_ranges ss n
same_rest r rs ss n h g e =
    elim (order_of r.1 n) [
      | inl lt ↦
          sym (ap (λ b. b || in_ranges rs n) (above_range r n lt)) ∙ e
          ∙ ap (λ b. b || in_ranges ss n) (above_range r n lt)
      | inr le ↦ lacks_below (r.1 + 1) rs n h (omega arith) ∙ sym (lacks_below (r.1 + 1) ss n g (omega arith))
    ]

pub same_ranges : (k : ℕ) (xs ys : List (ℕ × ℕ)) → AreApart k xs → AreApart k ys
    → ((n : ℕ) → in_ranges xs n ≡ in_ranges ys n) → xs ≡ ys
same_ranges k [] [] h g same = refl
same_ranges k [] (s ∷ ss) h g same = absurd (clash _ _ (has_first s ss s.0 (omega arith) g.1) refl (sym (same s.0)))
same_ranges k (r ∷ rs) [] h g same = absurd (clash _ _ (has_first r rs r.0 (omega arith) h.1) refl (same r.0))
same_ranges k (r ∷ rs) (s ∷ ss) h g same =
    let back : (n : ℕ) → in_ranges (s ∷ ss) n ≡ in_ranges (r ∷ rs) n = λ n. sym (same n) in
    let start : r.0 ≡ s.0 =
    le_both r.0 s.0 (starts_no_later k s r ss rs g h back) (starts_no_later k r s rs ss h g same) in
    let end : r.1 ≡ s.1 =
    le_both r.1 s.1 (ends_no_later k s r ss rs g h (sym start) back) (ends_no_later k r s rs ss h g start same) in
    let first : r ≡ s = λ i. (start i, end i) in
    let ss_apart : AreApart (r.1 + 1) ss = subst (λ m. AreApart (m + 1) ss) (sym end) g.2 in
    let on : (n : ℕ) → in_ranges (r ∷ rs) n ≡ in_ranges (r ∷ ss) n =
    λ n. same n ∙ ap (λ q. in_range q n || in_ranges ss n) (sym first) in
    let rest : rs ≡ ss = same_ranges (r.1 + 1) rs ss h.2 ss_apart (λ n. same_rest r rs ss n h.2 ss_apart (on n)) in
    λ i. first i ∷ rest i

pub unique_ranges : (xs ys : List (ℕ × ℕ)) → AreApart 0 xs → AreApart 0 ys → IsSameSet (numbers_in xs) (numbers_in ys)
    → xs ≡ ys
unique_ranges xs ys h g same = same_ranges 0 xs ys h g (λ n. same (n ∷ []))
