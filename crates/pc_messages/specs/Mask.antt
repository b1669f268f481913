-- Which CPUs a mask allows.
use Rattle.std.specs.Prelude.{ℕ, Bool, ◌==◌}
use Rattle.std.specs.Int.{bit_at}

-- the mask has the CPU's bit
abbrev pub allows : ℕ → ℕ → Bool
allows mask cpu = bit_at mask cpu == 1
