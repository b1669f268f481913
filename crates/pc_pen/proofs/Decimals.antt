-- A number in decimal is digits: it has no byte below them.
use Rattle.std.proofs.Common.{◌≡◌, ◌∙◌, ap, refl, ℕ, zero, suc, ◌+◌, ◌/◌, ◌%◌, ◌<◌, List, [], ◌∷◌, Bool, true, false, not, ◌&&◌, eqb, if◌then◌else◌, decimal, arith}
use Rattle.std.specs.Fmt.{digits, digits_onto, digit_glyph}
use Rattle.std.specs.List.{list_all}
use Rattle.std.proofs.lemmas.Bool.{ne_eqb, lt-ltb}

-- what each digit passes, a number in decimal passes
module _ (test : ℕ → Bool) (each : (d : ℕ) → d < 10 → test (48 + d) ≡ true) where
  abbrev Passes : List ℕ → Type 0
  Passes text = list_all test text ≡ true

  glyph_passes : (d : ℕ) → d < 10 → test (digit_glyph false d) ≡ true
  glyph_passes d less = rw (lt-ltb d 10 less) (each d less)

  either_passes : (b : Bool) (one other : List ℕ) → Passes one → Passes other → Passes (if b then one else other)
  either_passes true one other h k = h
  either_passes false one other h k = k

  onto_passes : (k n : ℕ) (acc : List ℕ) → Passes acc → Passes (digits_onto k 10 false n acc)
  onto_passes zero n acc h = h
  onto_passes (suc k) n acc h =
      let here : Passes (digit_glyph false (n % 10) ∷ acc) =
      ap (λ b. b && list_all test acc) (glyph_passes (n % 10) (omega arith)) ∙ h in
      either_passes (eqb (n / 10) 0) _ _ here (onto_passes k (n / 10) (digit_glyph false (n % 10) ∷ acc) here)

  pub decimal_passes : (n : ℕ) → Passes (decimal n)
  unfolding digits
  decimal_passes n = onto_passes 64 n [] refl

pub decimal_without : (byte : ℕ) → byte < 48 → (n : ℕ) → list_all (λ b. not (eqb b byte)) (decimal n) ≡ true
decimal_without byte low = decimal_passes (λ b. not (eqb b byte)) (λ d less. ap not (ne_eqb (48 + d) byte (λ e. omega (arith, e, low))))
