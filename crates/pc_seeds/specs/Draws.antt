-- Whose step is next.
use Rattle.std.specs.Prelude.{ℕ, ◌≡◌, ◌<◌, slice_get}
use Rattle.pc_protocol.specs.Machine.{Machine}
use Rattle.pc_protocol.specs.Seats as seats
use Rattle.pc_seeds.specs.declared.draws.Turn.{Turn}
use Rattle.pc_seeds.specs.declared.draws.Turn.TheVariants.{Agent, Driver}

-- how many choices the agent of a CPU has
abbrev pub choices_at : Machine → ℕ → ℕ
choices_at machine c = seats.choices_of (slice_get machine.seats.items c)

-- neither the driver, which has so many choices, nor an agent of so many CPUs has one
pub record NobodyChooses (machine : Machine) (cpus many : ℕ) : Type 0 where
  pub driver : many ≡ 0
  pub agents : (c : ℕ) → c < cpus → choices_at machine c ≡ 0

-- the turn is one of the choices of the driver, which has so many, or of an agent of so many CPUs
abbrev pub IsChoice : Machine → (cpus many : ℕ) → Turn → Type 0
IsChoice machine cpus many (Driver n) = n < many
IsChoice machine cpus many (Agent c n) = (c < cpus) × (n < choices_at machine c)
