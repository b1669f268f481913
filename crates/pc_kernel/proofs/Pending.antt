-- What the code finds at a CPU, in the words of what can be read.
use Rattle.std.proofs.Common.{◌≡◌, ◌∙◌, ℕ, ◌<◌, [], length, Option, Some, slice_get, sym, ap}
use Rattle.std.specs.List.{list_any}
use Rattle.std.specs.Option.{option_map, option_map_or}
use Rattle.pc_messages.specs.Items.{is_of}
use Rattle.pc_queue.specs.Queue as queue
use Rattle.pc_kernel.specs.declared.cpus.CpuEntry.{CpuEntry}
use Rattle.pc_kernel.specs.Rows.{CpuRow, KernelRows}
use Rattle.pc_kernel.specs.Reads.{seen, content_read}
use Rattle.pc_kernel.specs.Inner.Entries.{row_of}
use Rattle.pc_kernel.specs.Sound.{IsSound}

-- the queue holds a message of the thread
pub pending_seen : (k : KernelRows) (o : Option CpuEntry) (q t : ℕ) (e : CpuEntry) → option_map row_of o ≡ slice_get k.cpus q → o ≡ Some e → queue.is_pending t e.queue.items ≡ list_any (is_of t) (content_read (seen k) q)
pending_seen k o q t e there is =
    ap (λ (o : Option CpuRow). list_any (is_of t) (option_map_or (λ row. row.content) o [])) (sym (ap (option_map row_of) is) ∙ there)

-- the thread on a CPU is known
pub runs_known : (k : KernelRows) (o : Option CpuEntry) (c t : ℕ) (e : CpuEntry) → IsSound k → option_map row_of o ≡ slice_get k.cpus c → o ≡ Some e → e.running ≡ Some t → t < length k.threads
runs_known k o c t e sound there is runs = (sound.cpu c (row_of e) (sym there ∙ ap (option_map row_of) is)).on t runs
