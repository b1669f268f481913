-- What can be read of a CPU's queue.
use Rattle.std.specs.Prelude.{ℕ, ◌≡◌, ◌≤◌, List, length}
use Rattle.pc_messages.specs.Items.{AreItemsOf, AreTellable}
use Rattle.pc_messages.specs.declared.message.Item.{Item}
use Rattle.pc_calls.specs.declared.limits.TheConstants.{MOST_ROOM}
use Rattle.pc_kernel.specs.Rows.{KernelRows}
use Rattle.pc_kernel.specs.Reads.{seen, kinds_read, content_read}

-- these are all items of the CPU's queue, the oldest first; they are of the kernel's run, a delta can tell them, and
-- they are at most the greatest room
pub record AreQueued (k : KernelRows) (cpu : ℕ) (items : List Item) : Type 0 where
  pub content : items ≡ content_read (seen k) cpu
  pub of_run : AreItemsOf (kinds_read (seen k)) items
  pub tellable : AreTellable items
  pub few : length items ≤ MOST_ROOM
