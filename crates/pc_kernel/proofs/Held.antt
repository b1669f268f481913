-- What every queue of a sound kernel holds.
use Rattle.std.proofs.Common.{◌≡◌, ◌∙◌, ℕ, List, length, take, Some, slice_get, refl, sym, ap, subst, arith}
use Rattle.std.proofs.lemmas.List.{take_all}
use Rattle.pc_messages.specs.declared.message.Item.{Item}
use Rattle.pc_kernel.specs.Rows.{CpuRow, KernelRows}
use Rattle.pc_kernel.specs.Queued.{AreQueued}
use Rattle.pc_kernel.specs.Reads.{seen, content_read}
use Rattle.pc_kernel.specs.Inner.Entries.{row_of}
use Rattle.pc_kernel.specs.declared.cpus.CpuEntry.{CpuEntry}
use Rattle.pc_kernel.specs.Sound.{IsCpuRow, IsSound}
use Rattle.pc_kernel.proofs.Ranges.{ranges}

row_holds : (k : KernelRows) (c : ℕ) (row : CpuRow) → IsSound k → slice_get k.cpus c ≡ Some row → IsCpuRow k row → AreQueued k c row.content
row_holds k c row sound there h =
    let most = (ranges k.limits sound.limits).little_room in
    let room = h.room in
    let content : row.content ≡ content_read (seen k) c = rw there refl in
    record { content = content; of_run = h.of_run; tellable = h.tellable; few = omega arith }

-- what a CPU's queue holds
pub all_held : (k : KernelRows) (c : ℕ) (e : CpuEntry) (items : List Item) → IsSound k → Some (row_of e) ≡ slice_get k.cpus c → items ≡ e.queue.items → AreQueued k c items
all_held k c e items sound there all =
    let F : List Item → Type 0 = AreQueued k c in
    subst F (sym all) (row_holds k c (row_of e) sound (sym there) (sound.cpu c (row_of e) (sym there)))

-- what is read of a CPU's queue as far as its length
pub read_held : (k : KernelRows) (c n : ℕ) (e : CpuEntry) (items : List Item) → IsSound k → Some (row_of e) ≡ slice_get k.cpus c → n ≡ length e.queue.items → items ≡ take n e.queue.items → AreQueued k c items
read_held k c n e items sound there count read =
    let all : items ≡ e.queue.items = read ∙ ap (λ n. take n e.queue.items) count ∙ take_all (length e.queue.items) e.queue.items (omega arith) in
    all_held k c e items sound there all
