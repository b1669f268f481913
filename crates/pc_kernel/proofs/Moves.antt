-- What holds of every kernel still holds after another row of a thread or of a CPU.
use Rattle.std.proofs.Common.{◌≡◌, ◌∙◌, ℕ, suc, zero, ◌<◌, ◌-◌, Bool, List, [], ◌∷◌, length, set, drop, Option, Some, slice_get, Contains, refl, sym, ap, subst, arith, inl, inr, length-set}
use Rattle.std.specs.Option.{option_map, option_map_or, option_and_then}
use Rattle.std.proofs.lemmas.Bool.Decides.{eqb_tells}
use Rattle.std.proofs.lemmas.List.{length-map, length-drop}
use Rattle.std.proofs.lemmas.Option.{same_Some, slice_get-map}
use Rattle.std.proofs.lemmas.List.Elements.{All-drop}
use Rattle.pc_messages.specs.Items.{IsItemOf}
use Rattle.pc_messages.specs.declared.message.Item.TheVariants as item
use Rattle.pc_queue.specs.Queue.{Queue}
use Rattle.pc_kernel.specs.declared.cpus.CpuEntry.{CpuEntry}
use Rattle.pc_calls.specs.declared.limits.Limits.{Limits}
use Rattle.pc_kernel.specs.Rows.{ThreadRow, CpuRow, KernelRows}
use Rattle.pc_kernel.specs.Reads.{seen, kinds_read}
use Rattle.pc_kernel.specs.Inner.Entries.{row_of, rows, place_in, IsKernel}
use Rattle.pc_kernel.specs.Sound.{IsThreadRow, IsCpuRow}
use Rattle.pc_kernel.proofs.Items.{items_of_same}
use Rattle.pc_kernel.proofs.Slots.{slice_get_set_same, slice_get_set_other, slice_get_map_some}

-- a row's facts, where the limits and the histories are the same
thread_row_kept : (old new : KernelRows) (row : ThreadRow) → new.limits ≡ old.limits → IsThreadRow old row → IsThreadRow new row
thread_row_kept old new row same h = record { home = rw same h.home; told = h.told; numbers = rw same h.numbers; begun = h.begun; ran = h.ran }

cpu_row_kept : (old new : KernelRows) (row : CpuRow) → new.limits ≡ old.limits → length new.threads ≡ length old.threads → ((t : ℕ) → kinds_read (seen new) t ≡ kinds_read (seen old) t) → IsCpuRow old row → IsCpuRow new row
cpu_row_kept old new row limits count same h = record {
  room = rw limits h.room;
  held = h.held;
  posts = rw limits h.posts;
  target = rw limits h.target;
  on = rw count h.on;
  of_run = items_of_same (kinds_read (seen old)) (kinds_read (seen new)) row.content same h.of_run;
  tellable = h.tellable;
}

-- a row of a CPU that has a row of the list
pub cpu_of : (limits : Limits) (threads : List ThreadRow) (cpus : List CpuEntry) (c : ℕ) (e : CpuEntry) → IsKernel limits threads cpus → slice_get cpus c ≡ Some e → IsCpuRow (rows limits threads cpus) (row_of e)
cpu_of limits threads cpus c e k there = k.sound.cpu c (row_of e) (slice_get-map row_of cpus c ∙ ap (option_map row_of) there)

-- another row of a thread, with the same history
pub kinds_kept : (threads : List ThreadRow) (t : ℕ) (row new : ThreadRow) → slice_get threads t ≡ Some row → new.kinds ≡ row.kinds → (s : ℕ)
    → option_map_or (λ (row : ThreadRow). row.kinds) (slice_get (set threads t new) s) [] ≡ option_map_or (λ (row : ThreadRow). row.kinds) (slice_get threads s) []
kinds_kept threads t row new there same s = elim (eqb_tells s t) [
  | inl at ↦
      ap (λ (o : Option ThreadRow). option_map_or (λ (row : ThreadRow). row.kinds) o []) (ap (slice_get (set threads t new)) at.1 ∙ slice_get_set_same threads t new row there)
      ∙ same
      ∙ sym (ap (λ (o : Option ThreadRow). option_map_or (λ (row : ThreadRow). row.kinds) o []) (ap (slice_get threads) at.1 ∙ there))
  | inr at ↦ ap (λ (o : Option ThreadRow). option_map_or (λ (row : ThreadRow). row.kinds) o []) (slice_get_set_other threads t new row s there at.0)
]

pub kernel_thread : (limits : Limits) (threads : List ThreadRow) (cpus : List CpuEntry) (t : ℕ) (row new : ThreadRow) → IsKernel limits threads cpus → slice_get threads t ≡ Some row → new.kinds ≡ row.kinds → new.home < limits.cpus
    → ((c : ℕ) (e : CpuEntry) → slice_get cpus c ≡ Some e → e.running ≡ Some t → new.on ≡ Some c) → IsKernel limits (set threads t new) cpus
kernel_thread limits threads cpus t row new k there same home on =
    let old = rows limits threads cpus in
    let after = rows limits (set threads t new) cpus in
    let before = k.sound.thread t row there in
    let count : length (set threads t new) ≡ length threads = length-set threads t new in
    record {
      sound = record {
        limits = k.sound.limits;
        cpus = k.sound.cpus;
        threads = rw count k.sound.threads;
        thread = λ s other is. elim (eqb_tells s t) [
          | inl at ↦
              let e : new ≡ other = same_Some new other (sym (slice_get_set_same threads t new row there) ∙ ap (slice_get (set threads t new)) (sym at.1) ∙ is) in
              let F : ThreadRow → Type 0 = IsThreadRow after in
              subst F e record { home = home; told = rw same before.told; numbers = rw same before.numbers; begun = rw same before.begun; ran = rw same before.ran }
          | inr at ↦ thread_row_kept old after other refl (k.sound.thread s other (sym (slice_get_set_other threads t new row s there at.0) ∙ is))
        ];
        cpu = λ c row' is. cpu_row_kept old after row' refl count (kinds_kept threads t row new there same) (k.sound.cpu c row' is);
      };
      queues = k.queues;
      placed = λ c s e is runs. elim (eqb_tells s t) [
        | inl at ↦ ap (option_and_then (λ (row : ThreadRow). row.on)) (ap (slice_get (set threads t new)) at.1 ∙ slice_get_set_same threads t new row there) ∙ on c e is (runs ∙ ap (λ n. Some n) at.1)
        | inr at ↦ ap (option_and_then (λ (row : ThreadRow). row.on)) (slice_get_set_other threads t new row s there at.0) ∙ k.placed c s e is runs
      ];
    }

-- another row of a CPU
pub kernel_cpu : (limits : Limits) (threads : List ThreadRow) (cpus : List CpuEntry) (c : ℕ) (e new : CpuEntry) → IsKernel limits threads cpus → slice_get cpus c ≡ Some e → IsCpuRow (rows limits threads cpus) (row_of new)
    → new.queue.room ≡ e.queue.room → new.queue.most ≡ e.queue.most → ((t : ℕ) → new.running ≡ Some t → place_in threads t ≡ Some c) → IsKernel limits threads (set cpus c new)
kernel_cpu limits threads cpus c e new k there is room most on =
    let old = rows limits threads cpus in
    let after = rows limits threads (set cpus c new) in
    let at_c : (d : ℕ) (f : CpuEntry) → d ≡ c → slice_get (set cpus c new) d ≡ Some f → new ≡ f =
    λ d f at get. same_Some new f (sym (slice_get_set_same cpus c new e there) ∙ ap (slice_get (set cpus c new)) (sym at) ∙ get) in
    record {
      sound = record {
        limits = k.sound.limits;
        cpus = length-map (set cpus c new) row_of ∙ length-set cpus c new ∙ sym (length-map cpus row_of) ∙ k.sound.cpus;
        threads = k.sound.threads;
        thread = λ t row get. thread_row_kept old after row refl (k.sound.thread t row get);
        cpu = λ d row get.
            let from = slice_get_map_some row_of (set cpus c new) d row get in
            let F : CpuRow → Type 0 = IsCpuRow after in
            subst F from.2 (elim (eqb_tells d c) [
              | inl at ↦ let G : CpuEntry → Type 0 = λ f. IsCpuRow after (row_of f) in subst G (at_c d from.0 at.1 from.1) (cpu_row_kept old after (row_of new) refl refl (λ t. refl) is)
              | inr at ↦ cpu_row_kept old after (row_of from.0) refl refl (λ t. refl) (cpu_of limits threads cpus d from.0 k (sym (slice_get_set_other cpus c new e d there at.0) ∙ from.1))
            ]);
      };
      queues = λ d f get. elim (eqb_tells d c) [
        | inl at ↦
            let has = k.queues c e there in
            let G : CpuEntry → Type 0 = λ f. (f.queue.room ≡ limits.room) × (f.queue.most ≡ limits.posts) in
            subst G (at_c d f at.1 get) (room ∙ has.0, most ∙ has.1)
        | inr at ↦ k.queues d f (sym (slice_get_set_other cpus c new e d there at.0) ∙ get)
      ];
      placed = λ d t f get runs. elim (eqb_tells d c) [
        | inl at ↦ on t (ap (λ (e : CpuEntry). e.running) (at_c d f at.1 get) ∙ runs) ∙ ap (λ n. Some n) (sym at.1)
        | inr at ↦ k.placed d t f (sym (slice_get_set_other cpus c new e d there at.0) ∙ get) runs
      ];
    }

-- the rest of a list has elements of the list
contains_drop : {X : Type 0} (n : ℕ) (xs : List X) (x : X) → Contains (drop n xs) x → Contains xs x
contains_drop zero xs x h = h
contains_drop (suc n) [] x h = h
contains_drop (suc n) (y ∷ ys) x h = let from = contains_drop n ys x h in (suc from.0, (let l = from.1 in omega arith), from.2)

-- a CPU's row with another mark, or with fewer items
pub marked_row : (k : KernelRows) (e : CpuEntry) (asleep : Bool) → IsCpuRow k (row_of e) → IsCpuRow k (row_of (record e { asleep = asleep }))
marked_row k e asleep h = record { room = h.room; held = h.held; posts = h.posts; target = h.target; on = h.on; of_run = h.of_run; tellable = h.tellable }

pub aimed_row : (k : KernelRows) (e : CpuEntry) (target : Option ℕ) → IsCpuRow k (row_of e) → ((c : ℕ) → target ≡ Some c → c < k.limits.cpus) → IsCpuRow k (row_of (record e { target = target }))
aimed_row k e target h there = record { room = h.room; held = h.held; posts = h.posts; target = there; on = h.on; of_run = h.of_run; tellable = h.tellable }

pub running_row : (k : KernelRows) (e : CpuEntry) (running : Option ℕ) → IsCpuRow k (row_of e) → ((t : ℕ) → running ≡ Some t → t < length k.threads) → IsCpuRow k (row_of (record e { running = running }))
running_row k e running h known = record { room = h.room; held = h.held; posts = h.posts; target = h.target; on = known; of_run = h.of_run; tellable = h.tellable }

-- the queue without its first items
abbrev pub cut_queue : Queue → ℕ → Queue
cut_queue queue n = record queue { items = drop n queue.items }

pub cut_row : (k : KernelRows) (e : CpuEntry) (n : ℕ) → IsCpuRow k (row_of e) → IsCpuRow k (row_of (record e { queue = cut_queue e.queue n }))
cut_row k e n h =
    let l : length (drop n e.queue.items) ≡ length e.queue.items - n = length-drop n e.queue.items in
    let room = h.room in
    let held = h.held in
    record {
      room = omega arith;
      held = omega arith;
      posts = h.posts;
      target = h.target;
      on = h.on;
      of_run = All-drop (IsItemOf (kinds_read (seen k))) n e.queue.items h.of_run;
      tellable = record {
        well_formed = λ m there. h.tellable.well_formed m (contains_drop n e.queue.items (item.Thread m) there);
        alike = λ one other a b. h.tellable.alike one other (contains_drop n e.queue.items (item.Thread one) a) (contains_drop n e.queue.items (item.Thread other) b);
      };
    }
