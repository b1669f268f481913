-- A CPU's tick: what the code does, and what it is to a plain kernel.
use Rattle.std.proofs.Common.{◌∙◌, ℕ, ◌<◌, List, [], length, Some, None, refl, sym, ap, subst, arith, if◌then◌else◌, nat_lt}
use Rattle.std.specs.Option.{option_map}
use Rattle.std.proofs.lemmas.List.{append-nil}
use Rattle.std.proofs.lemmas.Option.{slice_get-map}
use Rattle.pc_messages.specs.declared.kind.Kind.{Kind}
use Rattle.pc_messages.specs.declared.message.Item.TheVariants as item
use Rattle.pc_kernel.specs.declared.cpus.CpuEntry.{CpuEntry}
use Rattle.pc_kernel.specs.declared.cpus.Landing.{Landing}
use Rattle.pc_calls.specs.declared.limits.Limits.{Limits}
use Rattle.pc_kernel.specs.PlainKernel.{PlainKernel}
use Rattle.pc_kernel.specs.PlainKernel as plain
use Rattle.pc_kernel.specs.Rows.{ThreadRow}
use Rattle.pc_kernel.specs.Inner.Entries.{row_of, rows, IsKernel, IsPosted}
use Rattle.pc_kernel.specs.Inner.LastPosts.{KeptThread, thread_rows, AreTables}
use Rattle.pc_kernel.specs.Sound.{IsThreadRow}
use Rattle.pc_kernel.specs.Inner.Sends.{Sends, ticking}
use Rattle.pc_kernel.specs.Steps.{posted}
use Rattle.pc_kernel.proofs.Shown.{shows_from, shows_parts}
use Rattle.pc_kernel.proofs.Items.{tick_next}
use Rattle.pc_kernel.proofs.Grows.{Grows, kinds_in, kernel_posted}
use Rattle.pc_kernel.proofs.LastPosts.{kept_ticked}
use Rattle.pc_kernel.proofs.CpuPosting.{cpus_posted, landed}
use Rattle.pc_kernel.proofs.Posting.{IsQuiet, kinds_quiet, threads-posted_tick, aseq-posted_le}

same_grows : (threads : List ThreadRow) → Grows threads threads
same_grows threads = record { count = omega arith; each = λ t. ([], sym (append-nil (kinds_in threads t))); place = λ t c e. e }

kept_row : (limits : Limits) (threads : List ThreadRow) (old new : List CpuEntry) (row : ThreadRow) → IsThreadRow (rows limits threads old) row → IsThreadRow (rows limits threads new) row
kept_row limits threads old new row h = record { home = h.home; told = h.told; numbers = h.numbers; begun = h.begun; ran = h.ran }

-- what holds of every kernel holds after the tick
kernel_ticked : (limits : Limits) (threads : List ThreadRow) (old new : List CpuEntry) (c : ℕ) (landing : Landing) → IsKernel limits threads old → IsPosted old new c (item.Tick c) landing → IsKernel limits threads new
kernel_ticked limits threads old new c landing k h =
    kernel_posted limits threads threads old new c (item.Tick c) landing k h (same_grows threads) k.sound.threads (λ t row is. kept_row limits threads old new row (k.sound.thread t row is)) (tick_next (kinds_in threads) c)

pub tables_ticked : (limits : Limits) (threads : List KeptThread) (old new : List CpuEntry) (c : ℕ) (landing : Landing) → AreTables limits threads old → IsPosted old new c (item.Tick c) landing → AreTables limits threads new
tables_ticked limits threads old new c landing k h = record {
  kernel = kernel_ticked limits (thread_rows threads) old new c landing k.kernel h;
  last_posts = kept_ticked old new threads c c landing h (k.kernel.sound.cpu c (row_of h.entry) (slice_get-map row_of old c ∙ ap (option_map row_of) h.there)).held k.last_posts;
}

tick_quiet : (t c : ℕ) → IsQuiet t (item.Tick c)
tick_quiet t c = record { kind = refl; message = refl; not_of = refl }

-- the code's step for a tick is the plain kernel's
pub tick_sends : (limits : Limits) (threads : List ThreadRow) (old new : List CpuEntry) (c : ℕ) (landing : Landing) → IsKernel limits threads old → IsPosted old new c (item.Tick c) landing
    → Sends (λ P. ticking P c) record { thread = None; number = None; queue = c; aseq = landing.aseq; woken = landing.woken } (rows limits threads old) (rows limits threads new)
tick_sends limits threads old new c landing k h P shows =
    let parts = shows_parts (rows limits threads old) P shows in
    let lands = landed old new P c (item.Tick c) landing h parts.cpu (λ d is. subst (λ (l : Limits). d < l.cpus) parts.limits ((k.sound.cpu c (row_of h.entry) (slice_get-map row_of old c ∙ ap (option_map row_of) h.there)).target d is)) in (
      (λ i. record { thread = None; number = None; queue = c; aseq = lands.0 i; woken = lands.1 i }),
      shows_from (rows limits threads new) (posted P c (item.Tick c)) record {
        limits = parts.limits;
        count = parts.count ∙ sym (threads-posted_tick P c c);
        thread = λ t. parts.thread t ∙ sym (ap (λ (ks : List Kind). if nat_lt 0 (length ks) then Some record { home = P.home t; kinds = ks; on = plain.place_of P t } else None) (kinds_quiet P c (item.Tick c) t (tick_quiet t c)));
        cpu = cpus_posted old new P c (item.Tick c) landing h parts.cpu parts.eaten;
        eaten = λ q. let before = parts.eaten q in let more = aseq-posted_le P c q (item.Tick c) in omega arith;
      },
    )
