-- Runs that stall: threads wait, and no agent is up that would run one.
use Rattle.std.specs.Prelude.{◌≡◌, ℕ, ◌<◌, ◌⊎◌, true, false, length, IsSomeAnd}
use Rattle.pc_kernel.specs.Reads.{Reads, is_asleep, is_waiting, reported_of}
use Rattle.pc_load.specs.Loads.{Demand}
use Rattle.pc_messages.specs.declared.reported.Phase.TheVariants.{Dead}

-- the thread is dead
abbrev pub HasDied : Reads → ℕ → Type 0
HasDied kernel t = IsSomeAnd (reported_of kernel t) (λ state. state.phase ≡ Dead)

-- The thread is ready and on no CPU, and none of a lower name is
pub record IsFirstWaiting (kernel : Reads) (t : ℕ) : Type 0 where
  pub waits : is_waiting kernel t ≡ true
  pub first : (other : ℕ) → other < t → is_waiting kernel other ≡ false

-- A run of a load has stalled at a thread: all threads have come, each is dead or waits, all agents sleep, and this
-- thread is the first that waits. So no step can end, none is to be woken or created, and no agent is in a turn
pub record HasStalled (load : Demand) (kernel : Reads) (t : ℕ) : Type 0 where
  pub came : kernel.threads ≡ length load.threads
  pub each : (other : ℕ) → other < kernel.threads → HasDied kernel other ⊎ (is_waiting kernel other ≡ true)
  pub asleep : (c : ℕ) → c < kernel.limits.cpus → is_asleep kernel c ≡ true
  pub first : IsFirstWaiting kernel t
