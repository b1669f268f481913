-- What the code keeps of each thread.
use Rattle.std.specs.Prelude.{ℕ, ◌+◌, ◌*◌, ◌≤◌, ◌≡◌, List, length, Some}
use Rattle.pc_messages.specs.State.{state_of, ran_of}
use Rattle.pc_messages.specs.declared.kind.Kind.{Kind}
use Rattle.pc_messages.specs.declared.kind.TheConstants.{MOST_TICKS}
use Rattle.pc_messages.specs.declared.message.TheConstants.{GREATEST_NUMBER}
use Rattle.pc_messages.specs.declared.message.Item.TheVariants as item
use Rattle.pc_messages.specs.declared.reported.Reported.{Reported}
use Rattle.pc_calls.specs.declared.call.Posted.{Posted}
use Rattle.pc_kernel.specs.declared.cpus.CpuEntry.{CpuEntry}
use Rattle.pc_kernel.specs.declared.cpus.Landing.{Landing}
use Rattle.pc_kernel.specs.Inner.Entries.{IsPosted}
use Rattle.pc_kernel.specs.Rows.{ThreadRow}

-- the state kept is that of the kinds, and its numbers fit
pub record IsEntry (kinds : List Kind) (reported : Reported) : Type 0 where
  pub state : state_of kinds ≡ Some reported
  pub few : length kinds ≤ GREATEST_NUMBER
  pub ran : ran_of kinds ≤ length kinds * MOST_TICKS

-- the thread's next message, of this kind, is posted to its home queue
pub record IsTold (old new : List CpuEntry) (row : ThreadRow) (t : ℕ) (kind : Kind) (posted : Posted) : Type 0 where
  pub landing : Landing
  pub lands : IsPosted old new row.home
      (item.Thread record { thread = t; number = length row.kinds + 1; kind = kind }) landing
  pub answer :
      posted
      ≡ record {
        thread = Some t;
        number = Some (length row.kinds + 1);
        queue = row.home;
        aseq = landing.aseq;
        woken = landing.woken;
      }
