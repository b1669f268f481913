-- Where the agent of a CPU stands.
use Rattle.std.specs.Prelude.{ℕ, ◌<◌, ◌≡◌, true, length}
use Rattle.pc_kernel.specs.Reads.{seen, is_cpu}
use Rattle.pc_world.specs.declared.parts.Parts.{Parts}

-- the CPU is there, and its agent stands at this place
pub record IsPlace (world : Parts) (c place : ℕ) : Type 0 where
  pub is : place ≡ c
  pub there : is_cpu (seen world.kernel) c ≡ true
  pub low : place < length world.agents.items
