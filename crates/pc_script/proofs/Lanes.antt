-- Bytes that are looked at together.
use Rattle.std.proofs.Common.{◌≡◌, ◌∙◌, ◌<◌, ◌≤◌, ◌^◌, ℕ, zero, suc, cond, eqb, Bool, false, Option, Some, None, List, [], ◌∷◌, take, map, get_or, length, inl, inr, w64, sym, subst, arith, zero-add}
use Rattle.std.proofs.Math.Nat.{pow-le-pow_right}
use Rattle.std.proofs.lemmas.Bool.{cases_lt, true≢false}
use Rattle.std.proofs.lemmas.List.{length-map, length-take-le}
use Rattle.std.proofs.lemmas.Nat.Bits.{bit_at-trailing_zeros}
use Rattle.std.proofs.lemmas.Simd.{bit_mask_l, mask_l-lt, none_from_empty_mask, run_in_chunk_fails, run_in_chunk_stops, trailing_mask_l}
use Rattle.std.specs.Int.Count.{count_trailing_zeros}
use Rattle.std.specs.Simd.Lanes.{mask_l}
use Rattle.memchr.specs.Find.{IsFirst, Nowhere, Passes, is_byte}

-- a bit that is set is that of an element
set_within : (ms : List Bool) (k : ℕ) → ◌≡◌ {A = ℕ} (cond (get_or ms k false) 1 0) 1 → k < length ms
set_within [] k e = absurd (omega (arith, e))
set_within (m ∷ ms) zero e = omega arith
set_within (m ∷ ms) (suc k) e = omega (arith, set_within ms k e)

-- a byte that is found in front, at the lowest bit that is set, is found there first
pub found_in_front : (text : List ℕ) (lanes byte : ℕ) → lanes ≤ length text → lanes ≤ 64 → 0 < mask_l (map (λ x. eqb x byte) (take lanes text))
    → IsFirst (Passes (is_byte byte) text) 0 (length text) (Some (count_trailing_zeros 64 (mask_l (map (λ x. eqb x byte) (take lanes text)))))
found_in_front text lanes byte long few some =
    let xs = take lanes text in
    let p : ℕ → Bool = λ x. eqb x byte in
    let whole : length xs ≡ lanes = length-take-le lanes text long in
    let m = mask_l (map p xs) in
    let narrow : m < 2 ^ lanes = subst (λ n. m < 2 ^ n) (length-map xs p ∙ whole) (mask_l-lt (map p xs)) in
    let most : 2 ^ lanes ≤ 2 ^ 64 = pow-le-pow_right {n = 2} (omega arith) {i = lanes} {j = 64} few in
    let below : m < 2 ^ 64 = omega (arith, narrow, most) in
    let set = bit_at-trailing_zeros w64 m some below in
    let r = count_trailing_zeros 64 m in
    let counted = trailing_mask_l p 64 xs (omega (arith, whole, few)) some in
    let within : r < lanes = omega (arith, set_within (map p xs) r (sym (bit_mask_l (map p xs) r) ∙ set.1), length-map xs p, whole) in
    let fails = run_in_chunk_fails p text 0 lanes r 0 (omega (arith, long)) counted in
    let stops = run_in_chunk_stops p text 0 lanes r 0 (omega (arith, long)) counted within in (
      record {
        low = omega arith;
        high = omega (arith, within, long);
        before = λ k low high is. true≢false (sym is ∙ fails k low (omega (arith, high)));
      },
      subst (Passes (is_byte byte) text) (zero-add r) stops,
    )

joined : (P : ℕ → Type 0) (n m : ℕ) → Nowhere P 0 n → Nowhere P n m → Nowhere P 0 m
joined P n m before after k low high is = elim (cases_lt k n) [ inl h ↦ before k low h is | inr h ↦ after k h high is ]

-- the first place from a place on is the first one, where there is none before that place
first_of_all : (P : ℕ → Type 0) (n m : ℕ) (found : Option ℕ) → Nowhere P 0 n → IsFirst P n m found → IsFirst P 0 m found
first_of_all P n m None before none = joined P n m before none
first_of_all P n m (Some k) before found = (record { low = omega arith; high = found.0.high; before = joined P n k before found.0.before }, found.1)

-- a byte that is not in front is found behind that
pub found_behind : (text : List ℕ) (lanes byte : ℕ) (found : Option ℕ) → lanes ≤ length text → mask_l (map (λ x. eqb x byte) (take lanes text)) ≡ 0
    → IsFirst (Passes (is_byte byte) text) lanes (length text) found → IsFirst (Passes (is_byte byte) text) 0 (length text) found
found_behind text lanes byte found long empty behind =
    let none = none_from_empty_mask (λ x. eqb x byte) text 0 lanes 0 (omega (arith, long)) empty in
    first_of_all (Passes (is_byte byte) text) lanes (length text) found (λ k low high is. true≢false (sym is ∙ none k low (omega (arith, high)))) behind
