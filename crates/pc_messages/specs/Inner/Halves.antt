-- A mask is told by its two halves.
use Rattle.std.specs.Prelude.{ℕ, ◌≡◌, ◌^◌, ◌<◌, ◌+◌, ◌*◌, ◌/◌, ◌%◌, refl}
use Rattle.std.proofs.Common.{arith}
use Rattle.pc_messages.specs.declared.mask.Mask.TheInside.{Inside}

-- the lower half of a number
low_half : (low high : ℕ) → low < 2 ^ 32 → (low + high * 2 ^ 32) % 2 ^ 32 ≡ low
low_half low high small = omega arith

-- the upper half of a number
high_half : (low high : ℕ) → low < 2 ^ 32 → (low + high * 2 ^ 32) / 2 ^ 32 ≡ high
high_half low high small = omega arith

-- the halves of the number of a mask are the mask's
pub halves_of : (mask : Inside) → (mask.low < 2 ^ 32) × (mask.high < 2 ^ 32)
    → record { low = (mask.low + mask.high * 2 ^ 32) % 2 ^ 32; high = (mask.low + mask.high * 2 ^ 32) / 2 ^ 32 } ≡ mask
halves_of mask h = simp (low_half mask.low mask.high h.0, high_half mask.low mask.high h.0) refl
