-- The bits of a word that another one lacks.
use Rattle.std.proofs.Common.{ℕ, zero, suc, ◌-◌, ◌*◌, ◌^◌, ◌%◌, ◌<◌, ◌≤◌, ◌≡◌, ◌==◌, ◌&&◌, ◌⊎◌, not, true, false, refl, sym, ap, ◌∙◌, arith, w64, bit_and, inl, inr, min}
use Rattle.std.specs.Int.{bit_at}
use Rattle.std.proofs.lemmas.Nat.Bits.{bit_at-lt, bit_at_and, bit_at_not, bit_at_mask_below, bit_at_mask_inside, ones_shl}
use Rattle.pc_join.specs.Inner.Blocks.{passes}

-- a bit that does not pass is not set in what is left, and one that is set passes
unset : (a b : ℕ) → a < 2 → b < 2 → min (min a (1 - b)) 1 ≡ 0 → ((a == 1) && not (b == 1)) ≡ false
unset zero b low_a low_b e = refl
unset (suc zero) zero low_a low_b e = absurd (omega (arith, e))
unset (suc zero) (suc zero) low_a low_b e = refl
unset (suc zero) (suc (suc b)) low_a low_b e = absurd (omega arith)
unset (suc (suc a)) b low_a low_b e = absurd (omega arith)

set : (a b m : ℕ) → a < 2 → b < 2 → min (min a (1 - b)) m ≡ 1 → ((a == 1) && not (b == 1)) ≡ true
set zero b m low_a low_b e = absurd (omega (arith, e))
set (suc zero) zero m low_a low_b e = refl
set (suc zero) (suc b) m low_a low_b e = absurd (omega (arith, e))
set (suc (suc a)) b m low_a low_b e = absurd (omega arith)

-- the word without the bits of the others, and without those below
abbrev pub left : ℕ → ℕ → ℕ → ℕ
left word others low = bit_and (bit_and word (2 ^ 64 - 1 - others)) ((2 ^ 64 - 1) * 2 ^ low % 2 ^ 64)

module _ (word others low : ℕ) (fits : others < 2 ^ 64) (within : low < 64) where
  bit_of : (i : ℕ) → i < 64 → bit_at (left word others low) i ≡ min (min (bit_at word i) (1 - bit_at others i)) (bit_at (2 ^ 64 - 2 ^ low) i)
  bit_of i b = bit_at_and _ _ i ∙ (λ j. min ((bit_at_and word _ i ∙ ap (min (bit_at word i)) (bit_at_not w64 others i fits b)) j) (bit_at (ones_shl 64 low (omega arith) j) i))

  pub lacks : (i : ℕ) → low ≤ i → i < 64 → bit_at (left word others low) i ≡ 0 → passes word others i ≡ false
  lacks i reached b e = unset (bit_at word i) (bit_at others i) (bit_at-lt word i) (bit_at-lt others i)
      (sym (ap (min (min (bit_at word i) (1 - bit_at others i))) (bit_at_mask_inside low 64 i reached b)) ∙ sym (bit_of i b) ∙ e)

  pub has : (i : ℕ) → i < 64 → bit_at (left word others low) i ≡ 1 → passes word others i ≡ true
  has i b e = set (bit_at word i) (bit_at others i) (bit_at (2 ^ 64 - 2 ^ low) i) (bit_at-lt word i) (bit_at-lt others i) (sym (bit_of i b) ∙ e)

  pub reached : (i : ℕ) → i < 64 → bit_at (left word others low) i ≡ 1 → low ≤ i
  reached i b e = elim (in_order i low) [
    | inl less ↦ absurd (omega (arith, bit_of i b, bit_at_mask_below low 64 i less, e))
    | inr more ↦ more
  ]
    where
      in_order : (a b : ℕ) → (a < b) ⊎ (b ≤ a)
      in_order a b = grind arith
