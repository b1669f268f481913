-- The front of a text up to its first byte of a kind has no byte of that kind.
use Rattle.std.proofs.Common.{◌≡◌, ℕ, zero, suc, ◌≤◌, length, take, arith, List, [], ◌∷◌, true, false, Bool, not, ◌&&◌, refl, ap, ◌∙◌}
use Rattle.std.specs.List.{AllWithin, list_all}

-- the front of a text in which each byte passes a test
pub front_passes : (test : ℕ → Bool) (text : List ℕ) (end : ℕ) → AllWithin (λ b. test b ≡ true) text 0 end → end ≤ length text
    → list_all test (take end text) ≡ true
front_passes test text zero h within = refl
front_passes test [] (suc end) h within = absurd (omega (arith, within))
front_passes test (x ∷ xs) (suc end) h within =
    ap (λ b. b && list_all test (take end xs)) (h 0 0 (omega arith) (omega arith))
    ∙ front_passes test xs end (λ k d low high. h (suc k) d (omega arith) (omega (arith, high))) (omega (arith, within))

-- the front of a text in which no byte passes a test
pub front_without : (test : ℕ → Bool) (text : List ℕ) (end : ℕ) → AllWithin (λ b. test b ≡ false) text 0 end → end ≤ length text
    → list_all (λ b. not (test b)) (take end text) ≡ true
front_without test text end h within = front_passes (λ b. not (test b)) text end (λ k d low high. ap not (h k d low high)) within
