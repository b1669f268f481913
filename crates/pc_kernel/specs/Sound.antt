-- What holds of every kernel.
use Rattle.std.specs.Prelude.{ℕ, ◌*◌, ◌≤◌, ◌<◌, ◌≡◌, length, Some, None, slice_get}
use Rattle.pc_messages.specs.Items.{AreItemsOf, AreTellable}
use Rattle.pc_messages.specs.Run.{IsBegun}
use Rattle.pc_messages.specs.State.{ran_of}
use Rattle.pc_messages.specs.declared.kind.TheConstants.{MOST_TICKS}
use Rattle.pc_calls.specs.Limits.{bad_field}
use Rattle.pc_calls.specs.declared.limits.Profile.TheVariants.{Two}
use Rattle.pc_kernel.specs.Rows.{ThreadRow, CpuRow, KernelRows}
use Rattle.pc_kernel.specs.Reads.{seen, kinds_read}

-- a thread's row: its home is there, its kinds begin with their only Created, and their ticks are at most what each
-- can tell
pub record IsThreadRow (k : KernelRows) (row : ThreadRow) : Type 0 where
  pub home : row.home < k.limits.cpus
  pub told : 1 ≤ length row.kinds
  pub numbers : length row.kinds ≤ k.limits.numbers
  pub begun : IsBegun row.kinds
  pub ran : ran_of row.kinds ≤ length row.kinds * MOST_TICKS

-- a CPU's row: its queue is within its limits, holds messages of the run that a delta can tell, and wakes an agent that
-- is there
pub record IsCpuRow (k : KernelRows) (row : CpuRow) : Type 0 where
  pub room : length row.content ≤ k.limits.room
  pub held : length row.content ≤ row.posts
  pub posts : row.posts ≤ k.limits.posts
  pub target : (c : ℕ) → row.target ≡ Some c → c < k.limits.cpus
  pub on : (t : ℕ) → row.on ≡ Some t → t < length k.threads
  pub of_run : AreItemsOf (kinds_read (seen k)) row.content
  pub tellable : AreTellable row.content

-- the limits keep the ranges of profile Two, which are the widest
pub record IsSound (k : KernelRows) : Type 0 where
  pub limits : bad_field Two k.limits ≡ None
  pub cpus : length k.cpus ≡ k.limits.cpus
  pub threads : length k.threads ≤ k.limits.threads
  pub thread : (t : ℕ) (row : ThreadRow) → slice_get k.threads t ≡ Some row → IsThreadRow k row
  pub cpu : (c : ℕ) (row : CpuRow) → slice_get k.cpus c ≡ Some row → IsCpuRow k row
