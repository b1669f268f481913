-- The code's changes of single rows: that what holds of every kernel still holds, and what they are to a plain kernel.
use Rattle.std.proofs.Common.{◌≡◌, ◌∙◌, ℕ, ◌+◌, ◌<◌, ◌≤◌, Bool, false, nat_lt, List, length, set, Option, Some, None, is_some, slice_get, get_or, Result, Ok, Err, OnOk, IsErr, ◌↔◌, refl, sym, ap, subst, arith, inl, inr, length-set}
use Rattle.std.specs.List.{list_any}
use Rattle.std.specs.Option.{option_map, option_map_or, option_and_then, ForSome}
use Rattle.std.proofs.lemmas.Bool.Decides.{eqb_tells, nat_tests}
use Rattle.std.proofs.lemmas.List.{length-map, map-set}
use Rattle.std.proofs.lemmas.Option.{same_Some, slice_get-map, slice_get_read}
use Rattle.pc_messages.specs.Items.{is_of}
use Rattle.pc_messages.specs.declared.message.Item.{Item}
use Rattle.pc_queue.specs.Queue.{Queue}
use Rattle.pc_queue.specs.declared.fault.TooMany.{TooMany}
use Rattle.pc_kernel.specs.declared.cpus.CpuEntry.{CpuEntry}
use Rattle.pc_calls.specs.declared.limits.Limits.{Limits}
use Rattle.pc_kernel.specs.PlainKernel.{PlainKernel}
use Rattle.pc_kernel.specs.Rows.{ThreadRow, CpuRow, KernelRows}
use Rattle.pc_kernel.specs.Reads.{seen, on, place, home, content_read, is_pending}
use Rattle.pc_kernel.specs.Inner.Entries.{row_of, rows, place_in, IsKernel}
use Rattle.pc_kernel.specs.Inner.LastPosts.{KeptThread, thread_row_of, thread_rows, last_place, KeepLastPosts, AreTables}
use Rattle.pc_kernel.specs.Inner.Sends.{Becomes}
use Rattle.pc_kernel.specs.Steps.{at}
use Rattle.pc_kernel.proofs.Slots.{slice_get_set_same, slice_get_set_other}
use Rattle.pc_kernel.proofs.Moves.{cpu_of, kernel_thread, kernel_cpu, marked_row, aimed_row, running_row, cut_row, cut_queue}
use Rattle.pc_kernel.proofs.LastPosts.{Stands, thread_read, row_read, kept_at, kept_on, kept_moved, stands_cut, pending_placed}
use Rattle.pc_kernel.proofs.Becoming.{becomes_off, becomes_on, becomes_housed, becomes_marked, becomes_aimed, becomes_cut}

-- these rows are a kernel's, and the old ones have become them by this change
abbrev RowsMoved : (PlainKernel → PlainKernel) → KernelRows → Limits → List ThreadRow → List CpuEntry → Type 0
RowsMoved change old limits threads cpus = IsKernel limits threads cpus × Becomes change old (rows limits threads cpus)

-- the same of what the code keeps
abbrev pub Moved : (PlainKernel → PlainKernel) → KernelRows → Limits → List KeptThread → List CpuEntry → Type 0
Moved change old limits threads cpus = AreTables limits threads cpus × Becomes change old (rows limits (thread_rows threads) cpus)

-- what is kept of a CPU, where the code reads it
pub cpu_read : (limits : Limits) (threads : List ThreadRow) (cpus : List CpuEntry) (i c : ℕ) (e : CpuEntry) → IsKernel limits threads cpus → i ≡ c → c < limits.cpus → e ≡ get_or cpus i e → slice_get cpus c ≡ Some e
cpu_read limits threads cpus i c e k index there read =
    let n : length cpus ≡ limits.cpus = sym (length-map cpus row_of) ∙ k.sound.cpus in
    slice_get_read cpus (length cpus) c e refl (omega arith) (rw (← index) read)

-- a change of the row of one CPU, of one thread, or of both
cpu_moved : (change : PlainKernel → PlainKernel) (limits : Limits) (threads : List KeptThread) (cpus : List CpuEntry) (i c : ℕ) (e new : CpuEntry) (old : KernelRows) → AreTables limits threads cpus → rows limits (thread_rows threads) cpus ≡ old → i ≡ c
    → c < old.limits.cpus → e ≡ get_or cpus i e → (slice_get cpus c ≡ Some e → RowsMoved change (rows limits (thread_rows threads) cpus) limits (thread_rows threads) (set cpus c new) × ((t : ℕ) → Stands threads t c new.queue))
    → Moved change old limits threads (set cpus i new)
cpu_moved change limits threads cpus i c e new old k is index there read body =
    let within : c < limits.cpus = subst (λ (k : KernelRows). c < k.limits.cpus) (sym is) there in
    let cpu : slice_get cpus c ≡ Some e = cpu_read limits (thread_rows threads) cpus i c e k.kernel index within read in
    let b = body cpu in
    let after : Moved change (rows limits (thread_rows threads) cpus) limits threads (set cpus c new) = (record { kernel = b.0.0; last_posts = kept_at threads cpus c e new cpu b.1 k.last_posts }, b.0.1) in
    subst (λ (old : KernelRows). Moved change old limits threads (set cpus i new)) is (rw index after)

thread_moved : (change : PlainKernel → PlainKernel) (limits : Limits) (threads : List KeptThread) (cpus : List CpuEntry) (i t : ℕ) (thread new : KeptThread) (old : KernelRows) → rows limits (thread_rows threads) cpus ≡ old → i ≡ t
    → t < length old.threads → thread ≡ get_or threads i thread
    → (slice_get threads t ≡ Some thread → RowsMoved change (rows limits (thread_rows threads) cpus) limits (set (thread_rows threads) t (thread_row_of new)) cpus × KeepLastPosts (set threads t new) cpus) → Moved change old limits (set threads i new) cpus
thread_moved change limits threads cpus i t thread new old is index known read body =
    let b = body (thread_read limits threads cpus i t thread old is index known read) in
    let F : List ThreadRow → Type 0 = λ list. RowsMoved change (rows limits (thread_rows threads) cpus) limits list cpus in
    let moved = subst F (sym (map-set thread_row_of threads t new)) b.0 in
    let after : Moved change (rows limits (thread_rows threads) cpus) limits (set threads t new) cpus = (record { kernel = moved.0; last_posts = b.1 }, moved.1) in
    subst (λ (old : KernelRows). Moved change old limits (set threads i new) cpus) is (rw index after)

both_moved : (change : PlainKernel → PlainKernel) (limits : Limits) (threads : List KeptThread) (cpus : List CpuEntry) (i t : ℕ) (thread : KeptThread) (on : Option ℕ) (j c : ℕ) (e : CpuEntry) (running : Option ℕ) (old : KernelRows) → AreTables limits threads cpus
    → rows limits (thread_rows threads) cpus ≡ old → i ≡ t → t < length old.threads → thread ≡ get_or threads i thread → j ≡ c → c < old.limits.cpus → e ≡ get_or cpus j e
    → (slice_get (thread_rows threads) t ≡ Some (thread_row_of thread) → slice_get cpus c ≡ Some e → RowsMoved change (rows limits (thread_rows threads) cpus) limits (set (thread_rows threads) t (record (thread_row_of thread) { on = on })) (set cpus c (record e { running = running })))
    → Moved change old limits (set threads i (record thread { on = on })) (set cpus j (record e { running = running }))
both_moved change limits threads cpus i t thread on j c e running old k is index known read at_c there read_c body =
    let within : c < limits.cpus = subst (λ (k : KernelRows). c < k.limits.cpus) (sym is) there in
    let cpu : slice_get cpus c ≡ Some e = cpu_read limits (thread_rows threads) cpus j c e k.kernel at_c within read_c in
    let at : slice_get threads t ≡ Some thread = thread_read limits threads cpus i t thread old is index known read in
    let new : KeptThread = record thread { on = on } in
    let fresh : CpuEntry = record e { running = running } in
    let F : List ThreadRow → Type 0 = λ list. RowsMoved change (rows limits (thread_rows threads) cpus) limits list (set cpus c fresh) in
    let moved = subst F (sym (map-set thread_row_of threads t new)) (body (row_read threads t thread at) cpu) in
    let kept = kept_on threads (set cpus c fresh) t thread on at (kept_at threads cpus c e fresh cpu (λ s. k.last_posts s c e cpu) k.last_posts) in
    let after : Moved change (rows limits (thread_rows threads) cpus) limits (set threads t new) (set cpus c fresh) = (record { kernel = moved.0; last_posts = kept }, moved.1) in
    subst (λ (old : KernelRows). Moved change old limits (set threads i new) (set cpus j fresh)) is (rw (index, at_c) after)

-- what the rows say of the thread on a CPU, and of the CPU that a thread is on
seen_on : (limits : Limits) (threads : List ThreadRow) (cpus : List CpuEntry) (c : ℕ) (e : CpuEntry) → slice_get cpus c ≡ Some e → on (seen (rows limits threads cpus)) c ≡ e.running
seen_on limits threads cpus c e there = ap (option_and_then (λ (row : CpuRow). row.on)) (slice_get-map row_of cpus c ∙ ap (option_map row_of) there)

pub seen_content : (limits : Limits) (threads : List ThreadRow) (cpus : List CpuEntry) (c : ℕ) (e : CpuEntry) → slice_get cpus c ≡ Some e → content_read (seen (rows limits threads cpus)) c ≡ e.queue.items
seen_content limits threads cpus c e there = rw (slice_get-map, there) refl

-- the thread on a CPU leaves it
off_at : (limits : Limits) (threads : List ThreadRow) (cpus : List CpuEntry) (t c : ℕ) (row : ThreadRow) (e : CpuEntry) → IsKernel limits threads cpus → slice_get threads t ≡ Some row → slice_get cpus c ≡ Some e → e.running ≡ Some t
    → RowsMoved (λ P. record P { on = at P.on c None }) (rows limits threads cpus) limits (set threads t (record row { on = None })) (set cpus c (record e { running = None }))
off_at limits threads cpus t c row e k there cpu runs =
    let idle : CpuEntry = record e { running = None } in
    let left = kernel_cpu limits threads cpus c e idle k cpu (running_row (rows limits threads cpus) e None (cpu_of limits threads cpus c e k cpu) (λ s is. cc)) refl refl (λ s is. cc) in (
      kernel_thread limits threads (set cpus c idle) t row (record row { on = None }) left there refl (k.sound.thread t row there).home (λ d f get on_it. elim (eqb_tells d c) [
        | inl h ↦
            let same : idle ≡ f = same_Some idle f (sym (slice_get_set_same cpus c idle e cpu) ∙ ap (slice_get (set cpus c idle)) (sym h.1) ∙ get) in
            let bad : None ≡ Some t = ap (λ (e : CpuEntry). e.running) same ∙ on_it in
            cc
        | inr h ↦
            let before : place_in threads t ≡ Some d = k.placed d t f (sym (slice_get_set_other cpus c idle e d cpu h.0) ∙ get) on_it in
            absurd (h.1 (same_Some d c (sym before ∙ k.placed c t e cpu runs)))
      ]),
      becomes_off limits threads cpus c t row e k there cpu runs,
    )

pub taken_off : (limits : Limits) (threads : List KeptThread) (cpus : List CpuEntry) (i t : ℕ) (thread new : KeptThread) (j c : ℕ) (e : CpuEntry) (old : KernelRows) → AreTables limits threads cpus → rows limits (thread_rows threads) cpus ≡ old
    → i ≡ t → t < length old.threads → thread ≡ get_or threads i thread → new ≡ record thread { on = None } → j ≡ c → c < old.limits.cpus → e ≡ get_or cpus j e → on (seen old) c ≡ Some t
    → Moved (λ P. record P { on = at P.on c None }) old limits (set threads i new) (set cpus j (record e { running = None }))
taken_off limits threads cpus i t thread new j c e old k is index known read set_on at_c there read_c runs =
    let runs_it : on (seen (rows limits (thread_rows threads) cpus)) c ≡ Some t = subst (λ (k : KernelRows). on (seen k) c ≡ Some t) (sym is) runs in
    rw set_on (both_moved (λ P. record P { on = at P.on c None }) limits threads cpus i t thread None j c e None old k is index known read at_c there read_c
    (λ row cpu. off_at limits (thread_rows threads) cpus t c (thread_row_of thread) e k.kernel row cpu (sym (seen_on limits (thread_rows threads) cpus c e cpu) ∙ runs_it)))

-- a thread that is nowhere comes to a CPU that is free
on_at : (limits : Limits) (threads : List ThreadRow) (cpus : List CpuEntry) (t c : ℕ) (row : ThreadRow) (e : CpuEntry) → IsKernel limits threads cpus → t < length threads → slice_get threads t ≡ Some row → slice_get cpus c ≡ Some e → row.on ≡ None → e.running ≡ None
    → RowsMoved (λ P. record P { on = at P.on c (Some t) }) (rows limits threads cpus) limits (set threads t (record row { on = Some c })) (set cpus c (record e { running = Some t }))
on_at limits threads cpus t c row e k known there cpu nowhere idle =
    let place : place_in threads t ≡ None = ap (option_and_then (λ (row : ThreadRow). row.on)) there ∙ nowhere in
    let busy : CpuEntry = record e { running = Some t } in
    let new : ThreadRow = record row { on = Some c } in
    let count : length (set threads t new) ≡ length threads = length-set threads t new in
    let come = kernel_thread limits threads cpus t row new k there refl (k.sound.thread t row there).home (λ d f get on_it. let bad : None ≡ Some d = sym place ∙ k.placed d t f get on_it in cc) in
    let here : (s : ℕ) → busy.running ≡ Some s → t ≡ s = λ s on_it. same_Some t s on_it in (
      kernel_cpu limits (set threads t new) cpus c e busy come cpu
          (running_row (rows limits (set threads t new) cpus) e (Some t) (cpu_of limits (set threads t new) cpus c e come cpu) (λ s on_it. rw (← here s on_it) (omega arith)))
          refl refl
          (λ s on_it. subst (λ (s : ℕ). place_in (set threads t new) s ≡ Some c) (here s on_it) (ap (option_and_then (λ (row : ThreadRow). row.on)) (slice_get_set_same threads t new row there))),
      becomes_on limits threads cpus c t row e k there cpu nowhere idle,
    )

pub come_on : (limits : Limits) (threads : List KeptThread) (cpus : List CpuEntry) (i t : ℕ) (thread new : KeptThread) (j c : ℕ) (e : CpuEntry) (old : KernelRows) → AreTables limits threads cpus → rows limits (thread_rows threads) cpus ≡ old
    → i ≡ t → t < length old.threads → thread ≡ get_or threads i thread → new ≡ record thread { on = Some c } → j ≡ c → c < old.limits.cpus → e ≡ get_or cpus j e → place (seen old) t ≡ None → on (seen old) c ≡ None
    → Moved (λ P. record P { on = at P.on c (Some t) }) old limits (set threads i new) (set cpus j (record e { running = Some t }))
come_on limits threads cpus i t thread new j c e old k is index known read set_on at_c there read_c nowhere idle =
    let before = rows limits (thread_rows threads) cpus in
    let is_nowhere : place (seen before) t ≡ None = subst (λ (k : KernelRows). place (seen k) t ≡ None) (sym is) nowhere in
    let is_idle : on (seen before) c ≡ None = subst (λ (k : KernelRows). on (seen k) c ≡ None) (sym is) idle in
    let within : t < length (thread_rows threads) = subst (λ (k : KernelRows). t < length k.threads) (sym is) known in
    rw set_on (both_moved (λ P. record P { on = at P.on c (Some t) }) limits threads cpus i t thread (Some c) j c e (Some t) old k is index known read at_c there read_c
    (λ row cpu. on_at limits (thread_rows threads) cpus t c (thread_row_of thread) e k.kernel within row cpu (sym (ap (option_and_then (λ (row : ThreadRow). row.on)) row) ∙ is_nowhere) (sym (seen_on limits (thread_rows threads) cpus c e cpu) ∙ is_idle)))

-- another home queue
not_pending : (limits : Limits) (threads : List KeptThread) (cpus : List CpuEntry) (t : ℕ) (thread : KeptThread) (e : CpuEntry) → slice_get threads t ≡ Some thread → slice_get cpus thread.home ≡ Some e
    → is_pending (seen (rows limits (thread_rows threads) cpus)) t ≡ false → last_place t e.queue.items ≡ 0
not_pending limits threads cpus t thread e there cpu none =
    let before = rows limits (thread_rows threads) cpus in
    let lives : home (seen before) t ≡ thread.home = ap (λ (o : Option ThreadRow). option_map_or (λ row. row.home) o 0) (row_read threads t thread there) in
    let held : content_read (seen before) (home (seen before) t) ≡ e.queue.items = ap (content_read (seen before)) lives ∙ seen_content limits (thread_rows threads) cpus thread.home e cpu in
    nowhere (last_place t e.queue.items) (sym (pending_placed t e.queue.items) ∙ sym (ap (list_any (is_of t)) held) ∙ none)
  where
    nowhere : (n : ℕ) → nat_lt 0 n ≡ false → n ≡ 0
    nowhere n e = grind (arith, nat_tests)

pub housed : (limits : Limits) (threads : List KeptThread) (cpus : List CpuEntry) (i t q : ℕ) (thread new : KeptThread) (old : KernelRows) → AreTables limits threads cpus → rows limits (thread_rows threads) cpus ≡ old
    → i ≡ t → t < length old.threads → thread ≡ get_or threads i thread → new ≡ record thread { home = q; last_post = 0 } → q < old.limits.cpus → is_pending (seen old) t ≡ false
    → Moved (λ P. record P { home = at P.home t q }) old limits (set threads i new) cpus
housed limits threads cpus i t q thread new old k is index known read moved there none =
    let list = thread_rows threads in
    let row = thread_row_of thread in
    let within : q < limits.cpus = subst (λ (k : KernelRows). q < k.limits.cpus) (sym is) there in
    let none_before : is_pending (seen (rows limits list cpus)) t ≡ false = subst (λ (k : KernelRows). is_pending (seen k) t ≡ false) (sym is) none in
    rw moved (thread_moved (λ P. record P { home = at P.home t q }) limits threads cpus i t thread (record thread { home = q; last_post = 0 }) old is index known read (λ at_t.
    let at_row = row_read threads t thread at_t in (
      (
        kernel_thread limits list cpus t row (record row { home = q }) k.kernel at_row refl within (λ c e get runs. sym (ap (option_and_then (λ (row : ThreadRow). row.on)) at_row) ∙ k.kernel.placed c t e get runs),
        becomes_housed limits list cpus t q row at_row,
      ),
      kept_moved threads cpus t q thread at_t (λ e cpu. not_pending limits threads cpus t thread e at_t cpu none_before) k.last_posts,
    )))

-- an agent sleeps, or wakes
pub marked : (limits : Limits) (threads : List KeptThread) (cpus : List CpuEntry) (i c : ℕ) (e : CpuEntry) (old : KernelRows) (slept : Option ℕ) (asleep : Bool) → is_some slept ≡ asleep → AreTables limits threads cpus → rows limits (thread_rows threads) cpus ≡ old
    → i ≡ c → c < old.limits.cpus → e ≡ get_or cpus i e → Moved (λ P. record P { slept = at P.slept c slept }) old limits threads (set cpus i (record e { asleep = asleep }))
marked limits threads cpus i c e old slept asleep says k is index there read =
    cpu_moved (λ P. record P { slept = at P.slept c slept }) limits threads cpus i c e (record e { asleep = asleep }) old k is index there read (λ cpu.
    let list = thread_rows threads in (
      (
        kernel_cpu limits list cpus c e (record e { asleep = asleep }) k.kernel cpu (marked_row (rows limits list cpus) e asleep (cpu_of limits list cpus c e k.kernel cpu)) refl refl (λ t runs. k.kernel.placed c t e cpu runs),
        becomes_marked limits list cpus c e slept asleep says cpu,
      ),
      λ t. k.last_posts t c e cpu,
    ))

-- whom a queue wakes
for_some : (o : Option ℕ) (n c : ℕ) → ForSome o (λ d. d < n) → o ≡ Some c → c < n
for_some None n c h is = cc
for_some (Some d) n c h is = let same : d ≡ c = same_Some d c is in omega (arith, h)

pub aimed : (limits : Limits) (threads : List KeptThread) (cpus : List CpuEntry) (i c : ℕ) (e : CpuEntry) (old : KernelRows) (target : Option ℕ) → AreTables limits threads cpus → rows limits (thread_rows threads) cpus ≡ old
    → i ≡ c → c < old.limits.cpus → e ≡ get_or cpus i e → ForSome target (λ d. d < old.limits.cpus) → Moved (λ P. record P { target = at P.target c target }) old limits threads (set cpus i (record e { target = target }))
aimed limits threads cpus i c e old target k is index there read target_there =
    let within : ForSome target (λ d. d < limits.cpus) = subst (λ (k : KernelRows). ForSome target (λ d. d < k.limits.cpus)) (sym is) target_there in
    cpu_moved (λ P. record P { target = at P.target c target }) limits threads cpus i c e (record e { target = target }) old k is index there read (λ cpu.
    let list = thread_rows threads in (
      (
        kernel_cpu limits list cpus c e (record e { target = target }) k.kernel cpu (aimed_row (rows limits list cpus) e target (cpu_of limits list cpus c e k.kernel cpu) (λ d is. for_some target limits.cpus d within is)) refl refl (λ t runs. k.kernel.placed c t e cpu runs),
        becomes_aimed limits list cpus c e target cpu,
      ),
      λ t. k.last_posts t c e cpu,
    ))

-- the first items go
pub cut : (r : Result (Unit {0}) TooMany) (limits : Limits) (threads : List KeptThread) (cpus : List CpuEntry) (i c n : ℕ) (e : CpuEntry) (queue : Queue) (old : KernelRows) → AreTables limits threads cpus → rows limits (thread_rows threads) cpus ≡ old
    → i ≡ c → c < old.limits.cpus → e ≡ get_or cpus i e → n ≤ length (content_read (seen old) c) → (IsErr r ↔ (length e.queue.items < n)) → OnOk r (queue ≡ cut_queue e.queue n)
    → Moved (λ P. record P { eaten = at P.eaten c (P.eaten c + n) }) old limits threads (set cpus i (record e { queue = queue }))
cut r limits threads cpus i c n e queue old k is index there read few too_many ok =
    let list = thread_rows threads in
    let within : c < limits.cpus = subst (λ (k : KernelRows). c < k.limits.cpus) (sym is) there in
    let get : slice_get cpus c ≡ Some e = cpu_read limits list cpus i c e k.kernel index within read in
    let few_here : n ≤ length (content_read (seen (rows limits list cpus)) c) = subst (λ (k : KernelRows). n ≤ length (content_read (seen k) c)) (sym is) few in
    let held : n ≤ length e.queue.items = subst (λ (items : List Item). n ≤ length items) (seen_content limits list cpus c e get) few_here in
    let row = cpu_of limits list cpus c e k.kernel get in
    rw (done r held too_many ok)
    (cpu_moved (λ P. record P { eaten = at P.eaten c (P.eaten c + n) }) limits threads cpus i c e (record e { queue = cut_queue e.queue n }) old k is index there read (λ cpu. (
      (
        kernel_cpu limits list cpus c e (record e { queue = cut_queue e.queue n }) k.kernel cpu (cut_row (rows limits list cpus) e n row) refl refl (λ t runs. k.kernel.placed c t e cpu runs),
        becomes_cut limits list cpus c n e cpu held,
      ),
      λ t. stands_cut threads t c n e.queue held row.held (k.last_posts t c e cpu),
    )))
  where
    done : (r : Result (Unit {0}) TooMany) → n ≤ length e.queue.items → (IsErr r ↔ (length e.queue.items < n)) → OnOk r (queue ≡ cut_queue e.queue n) → queue ≡ cut_queue e.queue n
    done (Ok unit) held too_many ok = ok
    done (Err error) held too_many ok = let l : length e.queue.items < n = too_many.0 refl in absurd (omega arith)
