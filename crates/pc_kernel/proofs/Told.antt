-- A thread's next message: what the code does, and what it is to a plain kernel.
use Rattle.std.proofs.Common.{◌≡◌, ◌∙◌, ℕ, suc, zero, ◌+◌, ◌<◌, ◌≤◌, true, false, cond, nat_lt, List, [], ◌∷◌, ◌++◌, length, set, get_or, Option, Some, None, slice_get, IsFalse, Result, Ok, Err, IfOk, OnErr, refl, sym, ap, subst, arith, inl, inr, length-set, if◌then◌else◌}
use Rattle.std.specs.Option.{option_map, option_map_or, option_and_then}
use Rattle.std.proofs.lemmas.Bool.{lt-ltb}
use Rattle.std.proofs.lemmas.Bool.Decides.{eqb_tells}
use Rattle.std.proofs.lemmas.List.{length_push, append-nil, map-set}
use Rattle.std.proofs.lemmas.List.Elements.{All-push}
use Rattle.std.proofs.lemmas.List.Sums.{sum_by_push}
use Rattle.std.proofs.lemmas.Option.{same_Some, slice_get-map}
use Rattle.std.specs.declared.alloc.AllocError.{AllocError}
use Rattle.pc_messages.specs.State.{ran_given, ran_of}
use Rattle.pc_messages.specs.Run.{is_created, IsBegun, Extends}
use Rattle.pc_messages.specs.declared.kind.Kind.{Kind}
use Rattle.pc_messages.specs.declared.kind.TheConstants.{MOST_TICKS}
use Rattle.pc_messages.specs.declared.message.TheConstants.{GREATEST_NUMBER}
use Rattle.pc_messages.specs.declared.message.Message.{Message}
use Rattle.pc_messages.specs.declared.message.Item.TheVariants as item
use Rattle.pc_calls.specs.declared.call.Posted.{Posted}
use Rattle.pc_kernel.specs.declared.cpus.CpuEntry.{CpuEntry}
use Rattle.pc_calls.specs.declared.limits.Limits.{Limits}
use Rattle.pc_kernel.specs.PlainKernel.{PlainKernel}
use Rattle.pc_kernel.specs.PlainKernel as plain
use Rattle.pc_kernel.specs.Rows.{ThreadRow, CpuRow, KernelRows}
use Rattle.pc_kernel.specs.Reads.{thread_row, shown, seen, kinds_read, number_read, on}
use Rattle.pc_kernel.specs.Inner.Entries.{row_of, rows, roused_entry, given_entry, place_in, IsKernel}
use Rattle.pc_kernel.specs.Inner.LastPosts.{KeptThread, thread_row_of, thread_rows, AreTables}
use Rattle.pc_kernel.specs.Inner.ThreadEntry.{IsTold}
use Rattle.pc_kernel.specs.Sound.{IsThreadRow}
use Rattle.pc_kernel.specs.Answers.{Shows}
use Rattle.pc_kernel.specs.Inner.Sends.{Sends}
use Rattle.pc_kernel.specs.Steps.{posted, telling, receipt}
use Rattle.pc_kernel.proofs.Items.{IsNext, message_next}
use Rattle.pc_kernel.proofs.Ranges.{ranges}
use Rattle.pc_kernel.proofs.Slots.{slice_get_set, slice_get_set_same, slice_get_set_other}
use Rattle.pc_kernel.proofs.Shown.{ShowsParts, shows_from, shows_parts}
use Rattle.pc_kernel.proofs.Grows.{Grows, kinds_in, kind_at_last, running_kept, kernel_posted}
use Rattle.pc_kernel.proofs.LastPosts.{thread_read, row_read, kept_told}
use Rattle.pc_kernel.proofs.CpuPosting.{cpus_posted, landed}
use Rattle.pc_kernel.proofs.Posting.{telling_same, quiet_other, kinds_told, kinds_quiet, threads-posted_known, aseq-posted_le}

-- the row with one more message
abbrev pub told_row : ThreadRow → Kind → ThreadRow
told_row row kind = record row { kinds = row.kinds ++ kind ∷ [] }

grows_at : (threads : List ThreadRow) (t : ℕ) (row : ThreadRow) (kind : Kind) → slice_get threads t ≡ Some row → (s : ℕ) → (more : List Kind) × (kinds_in (set threads t (told_row row kind)) s ≡ kinds_in threads s ++ more)
grows_at threads t row kind there s = elim (eqb_tells s t) [
  | inl at ↦ (
    kind ∷ [],
    ap (λ (o : Option ThreadRow). option_map_or (λ row. row.kinds) o []) (slice_get_set threads t (told_row row kind) row s there ∙ ap (λ b. cond b (Some (told_row row kind)) (slice_get threads s)) at.0)
        ∙ sym (ap (λ (o : Option ThreadRow). option_map_or (λ row. row.kinds) o [] ++ kind ∷ []) (ap (slice_get threads) at.1 ∙ there)),
  )
  | inr at ↦ (
    [],
    ap (λ (o : Option ThreadRow). option_map_or (λ row. row.kinds) o []) (slice_get_set threads t (told_row row kind) row s there ∙ ap (λ b. cond b (Some (told_row row kind)) (slice_get threads s)) at.0)
        ∙ sym (append-nil (kinds_in threads s)),
  )
]

place_told : (threads : List ThreadRow) (t : ℕ) (row : ThreadRow) (kind : Kind) → slice_get threads t ≡ Some row → (s c : ℕ) → place_in threads s ≡ Some c → place_in (set threads t (told_row row kind)) s ≡ Some c
place_told threads t row kind there s c is = elim (eqb_tells s t) [
  | inl at ↦
      ap (option_and_then (λ (row : ThreadRow). row.on)) (ap (slice_get (set threads t (told_row row kind))) at.1 ∙ slice_get_set_same threads t (told_row row kind) row there)
      ∙ sym (ap (option_and_then (λ (row : ThreadRow). row.on)) (ap (slice_get threads) at.1 ∙ there))
      ∙ is
  | inr at ↦ ap (option_and_then (λ (row : ThreadRow). row.on)) (slice_get_set_other threads t (told_row row kind) row s there at.0) ∙ is
]

pub grows : (threads : List ThreadRow) (t : ℕ) (row : ThreadRow) (kind : Kind) → slice_get threads t ≡ Some row → Grows threads (set threads t (told_row row kind))
grows threads t row kind there = record { count = let l = length-set threads t (told_row row kind) in omega arith; each = grows_at threads t row kind there; place = place_told threads t row kind there }

-- a history goes on with any kind but a Created
begun_more : (ks : List Kind) (kind : Kind) → IsBegun ks → 1 ≤ length ks → is_created kind ≡ false → IsBegun (ks ++ kind ∷ [])
begun_more [] kind h one e = absurd (omega arith)
begun_more (k ∷ ks) kind h one e = (h.0, All-push (λ k. IsFalse (is_created k)) ks kind h.1 e)

told_row_sound : (k new : KernelRows) (row : ThreadRow) (kind : Kind) → new.limits ≡ k.limits → IsThreadRow k row → length row.kinds < k.limits.numbers → is_created kind ≡ false → ran_given kind ≤ MOST_TICKS → IsThreadRow new (told_row row kind)
told_row_sound k new row kind same h spare e small =
    let n : length (row.kinds ++ kind ∷ []) ≡ length row.kinds + 1 = length_push row.kinds kind in
    let s : ran_of (row.kinds ++ kind ∷ []) ≡ ran_of row.kinds + ran_given kind = sum_by_push ran_given row.kinds kind in
    let home = h.home in
    let ran = h.ran in
    record {
      home = rw same h.home;
      told = omega arith;
      numbers = rw same (omega arith);
      begun = begun_more row.kinds kind h.begun h.told e;
      ran = rw (s, n) (omega arith);
    }

kept_row_sound : (k new : KernelRows) (row : ThreadRow) → new.limits ≡ k.limits → IsThreadRow k row → IsThreadRow new row
kept_row_sound k new row same h = record { home = rw same h.home; told = h.told; numbers = rw same h.numbers; begun = h.begun; ran = h.ran }

-- the message is the run's next
told_next : (threads : List ThreadRow) (t : ℕ) (row : ThreadRow) (kind : Kind) → slice_get threads t ≡ Some row → is_created kind ≡ false → 1 ≤ length row.kinds → length row.kinds + 1 ≤ GREATEST_NUMBER
    → IsNext (kinds_in (set threads t (told_row row kind))) (item.Thread record { thread = t; number = length row.kinds + 1; kind = kind })
told_next threads t row kind there e one few =
    message_next (kinds_in (set threads t (told_row row kind))) record { thread = t; number = length row.kinds + 1; kind = kind }
    (rw (slice_get_set_same threads t (told_row row kind) row there) (kind_at_last row.kinds kind (length row.kinds + 1) refl))
    record {
      from_one = omega arith;
      greatest = few;
      created = (λ yes. let bad : true ≡ false = sym yes ∙ e in cc, λ is. absurd (omega arith));
    }

-- what holds of every kernel holds after the message
pub kernel_told : (limits : Limits) (threads : List ThreadRow) (old new : List CpuEntry) (t : ℕ) (row : ThreadRow) (kind : Kind) (answer : Posted) → IsKernel limits threads old → slice_get threads t ≡ Some row → IsTold old new row t kind answer
    → length row.kinds < limits.numbers → is_created kind ≡ false → ran_given kind ≤ MOST_TICKS → IsKernel limits (set threads t (told_row row kind)) new
kernel_told limits threads old new t row kind answer k there h spare e small =
    let before = k.sound.thread t row there in
    let n = (ranges limits k.sound.limits).few_numbers in
    kernel_posted limits threads (set threads t (told_row row kind)) old new row.home (item.Thread record { thread = t; number = length row.kinds + 1; kind = kind }) h.landing k h.lands
    (grows threads t row kind there)
    (let l = length-set threads t (told_row row kind) in let f = k.sound.threads in omega arith)
    (λ s other is. elim (eqb_tells s t) [
      | inl at ↦
          let same : told_row row kind ≡ other = same_Some (told_row row kind) other (sym (slice_get_set_same threads t (told_row row kind) row there) ∙ ap (slice_get (set threads t (told_row row kind))) (sym at.1) ∙ is) in
          let P : ThreadRow → Type 0 = IsThreadRow (rows limits (set threads t (told_row row kind)) new) in
          subst P same (told_row_sound (rows limits threads old) (rows limits (set threads t (told_row row kind)) new) row kind refl before spare e small)
      | inr at ↦ kept_row_sound (rows limits threads old) (rows limits (set threads t (told_row row kind)) new) other refl (k.sound.thread s other (sym (slice_get_set_other threads t (told_row row kind) row s there at.0) ∙ is))
    ])
    (told_next threads t row kind there e before.told (omega arith))

-- a thread's row, as a plain kernel has it
pub thread_shown : (threads : List ThreadRow) (P : PlainKernel) (t : ℕ) (row : ThreadRow) → slice_get threads t ≡ (shown P).thread t → slice_get threads t ≡ Some row → (plain.is_known P t ≡ true) × (row ≡ thread_row P t)
thread_shown threads P t row shows there =
    elim (plain.is_known P t) as (λ b. Some row ≡ (if b then Some (thread_row P t) else None) → (b ≡ true) × (row ≡ thread_row P t)) [
      | true ↦ λ h. (refl, same_Some row (thread_row P t) h)
      | false ↦ λ h. cc
    ] (sym there ∙ shows)

-- what is shown of a thread with these kinds
abbrev shown_with : PlainKernel → ℕ → List Kind → Option ThreadRow
shown_with P s ks = if nat_lt 0 (length ks) then Some record { home = P.home s; kinds = ks; on = plain.place_of P s } else None

-- the rows of threads after the message
thread_told : (threads : List ThreadRow) (P : PlainKernel) (t q : ℕ) (kind : Kind) (n : ℕ) → ((s : ℕ) → slice_get threads s ≡ (shown P).thread s) → slice_get threads t ≡ Some (thread_row P t)
    → (s : ℕ) → slice_get (set threads t (told_row (thread_row P t) kind)) s ≡ (shown (posted P q (item.Thread record { thread = t; number = n; kind = kind }))).thread s
thread_told threads P t q kind n shows there s =
    let m : Message = record { thread = t; number = n; kind = kind } in
    let row = told_row (thread_row P t) kind in
    elim (eqb_tells s t) [
      | inl at ↦
          let F : ℕ → Type 0 = λ s. slice_get (set threads t row) s ≡ (shown (posted P q (item.Thread m))).thread s in
          let some : nat_lt 0 (length (plain.kinds P t ++ kind ∷ [])) ≡ true = lt-ltb 0 _ (let l = length_push (plain.kinds P t) kind in omega arith) in
          subst F (sym at.1) (
          slice_get_set_same threads t row (thread_row P t) there
          ∙ sym (ap (shown_with P t) (kinds_told P q (item.Thread m) t m (telling_same m)) ∙ ap (λ b. if b then Some row else None) some))
      | inr at ↦
          slice_get_set_other threads t row (thread_row P t) s there at.0
          ∙ shows s
          ∙ sym (ap (shown_with P s) (kinds_quiet P q (item.Thread m) s (quiet_other s m (λ e. at.1 (sym e)))))
    ]

told_at : (limits : Limits) (threads : List ThreadRow) (old new : List CpuEntry) (t : ℕ) (kind : Kind) (answer : Posted) (P : PlainKernel) → IsKernel limits threads old → ShowsParts (rows limits threads old) P → plain.is_known P t ≡ true
    → slice_get threads t ≡ Some (thread_row P t) → IsTold old new (thread_row P t) t kind answer
    → (answer ≡ receipt (telling P t kind)) × Shows (rows limits (set threads t (told_row (thread_row P t) kind)) new) (let p = telling P t kind in posted p.before p.queue p.item)
told_at limits threads old new t kind answer P k shows known there h =
    let m : Message = record { thread = t; number = plain.number P t + 1; kind = kind } in
    let lands = landed old new P (P.home t) (item.Thread m) h.landing h.lands shows.cpu (λ c is. subst (λ (l : Limits). c < l.cpus) shows.limits ((k.sound.cpu (P.home t) (row_of h.lands.entry) (slice_get-map row_of old (P.home t) ∙ ap (option_map row_of) h.lands.there)).target c is)) in (
      h.answer ∙ (λ i. record { thread = Some t; number = Some (plain.number P t + 1); queue = P.home t; aseq = lands.0 i; woken = lands.1 i }),
      shows_from (rows limits (set threads t (told_row (thread_row P t) kind)) new) (posted P (P.home t) (item.Thread m)) record {
        limits = shows.limits;
        count = length-set threads t (told_row (thread_row P t) kind) ∙ shows.count ∙ sym (threads-posted_known P (P.home t) m known);
        thread = thread_told threads P t (P.home t) kind (plain.number P t + 1) shows.thread there;
        cpu = cpus_posted old new P (P.home t) (item.Thread m) h.landing h.lands shows.cpu shows.eaten;
        eaten = λ q. let before = shows.eaten q in let more = aseq-posted_le P (P.home t) q (item.Thread m) in omega arith;
      },
    )

-- the code's step for a thread's message is the plain kernel's
pub told_sends : (limits : Limits) (threads : List ThreadRow) (old new : List CpuEntry) (t : ℕ) (row : ThreadRow) (kind : Kind) (answer : Posted) → IsKernel limits threads old → slice_get threads t ≡ Some row → IsTold old new row t kind answer
    → Sends (λ P. telling P t kind) answer (rows limits threads old) (rows limits (set threads t (told_row row kind)) new)
told_sends limits threads old new t row kind answer k there h P shows =
    let parts = shows_parts (rows limits threads old) P shows in
    let as_shown = thread_shown threads P t row (parts.thread t) there in
    let F : ThreadRow → Type 0 = λ row. slice_get threads t ≡ Some row → IsTold old new row t kind answer
    → (answer ≡ receipt (telling P t kind)) × Shows (rows limits (set threads t (told_row row kind)) new) (let p = telling P t kind in posted p.before p.queue p.item) in
    subst F (sym as_shown.1) (told_at limits threads old new t kind answer P k parts as_shown.0) there h

-- however the code's step ended
keep : {X : Type 0} (xs : List X) (i : ℕ) (x : X) → slice_get xs i ≡ Some x → set xs i x ≡ xs
keep [] i x e = refl
keep (y ∷ xs) zero x e = ap (λ y. y ∷ xs) (same_Some x y (sym e))
keep (y ∷ xs) (suc i) x e = ap (λ l. y ∷ l) (keep xs i x e)

-- the thread with one more message, its last post
abbrev pub told_thread : KeptThread → Kind → ℕ → KeptThread
told_thread thread kind post = record thread { kinds = thread.kinds ++ kind ∷ []; last_post = post }

pub tables_tell : (r : Result Posted AllocError) (limits : Limits) (threads : List KeptThread) (old new : List CpuEntry) (i t : ℕ) (thread after : KeptThread) (kind : Kind) (before : KernelRows) → AreTables limits threads old → rows limits (thread_rows threads) old ≡ before
    → i ≡ t → t < length before.threads → thread ≡ get_or threads i thread → IfOk r (λ answer. after ≡ told_thread thread kind answer.aseq) → IfOk r (λ answer. IsTold old new (thread_row_of thread) t kind answer) → OnErr r (after ≡ thread) → OnErr r (new ≡ old)
    → number_read (seen before) t < before.limits.numbers → is_created kind ≡ false → ran_given kind ≤ MOST_TICKS → AreTables limits (set threads i after) new
tables_tell (Ok answer) limits threads old new i t thread after kind before k view at known read is told same kept spare e small =
    let there : slice_get threads t ≡ Some thread = thread_read limits threads old i t thread before view at known read in
    let row : slice_get (thread_rows threads) t ≡ Some (thread_row_of thread) = row_read threads t thread there in
    let next = told_thread thread kind answer.aseq in
    let few : length thread.kinds < limits.numbers =
    subst (λ (o : Option ThreadRow). length (option_map_or (λ row. row.kinds) o []) < limits.numbers) row (subst (λ (k : KernelRows). number_read (seen k) t < k.limits.numbers) (sym view) spare) in
    let held = (k.kernel.sound.cpu thread.home (row_of told.lands.entry) (slice_get-map row_of old thread.home ∙ ap (option_map row_of) told.lands.there)).held in
    rw (at, is) record {
      kernel = rw (map-set thread_row_of threads t next) (kernel_told limits (thread_rows threads) old new t (thread_row_of thread) kind answer k.kernel row told few e small);
      last_posts = kept_told old new threads t thread next _ told.landing told.lands held there refl refl (ap (λ (p : Posted). p.aseq) told.answer) k.last_posts;
    }
tables_tell (Err error) limits threads old new i t thread after kind before k view at known read is told same kept spare e small =
    rw (at, same, keep threads t thread (thread_read limits threads old i t thread before view at known read), kept) k

pub extends_tell : (r : Result Posted AllocError) (limits : Limits) (threads : List KeptThread) (old : List CpuEntry) (i t : ℕ) (thread after : KeptThread) (kind : Kind) (before : KernelRows) → rows limits (thread_rows threads) old ≡ before
    → i ≡ t → t < length before.threads → thread ≡ get_or threads i thread → IfOk r (λ answer. after ≡ told_thread thread kind answer.aseq) → OnErr r (after ≡ thread) → Extends (kinds_in (thread_rows (set threads i after))) (kinds_read (seen before))
extends_tell (Ok answer) limits threads old i t thread after kind before view at known read is same =
    let there : slice_get threads t ≡ Some thread = thread_read limits threads old i t thread before view at known read in
    subst (λ (k : KernelRows). Extends (kinds_in (thread_rows (set threads i after))) (kinds_read (seen k))) view
    (rw (at, is, map-set thread_row_of threads t (told_thread thread kind answer.aseq)) (grows_at (thread_rows threads) t (thread_row_of thread) kind (row_read threads t thread there)))
extends_tell (Err error) limits threads old i t thread after kind before view at known read is same =
    let there : slice_get threads t ≡ Some thread = thread_read limits threads old i t thread before view at known read in
    subst (λ (k : KernelRows). Extends (kinds_in (thread_rows (set threads i after))) (kinds_read (seen k))) view
    (rw (at, same, keep threads t thread there) (λ s. ([], sym (append-nil (kinds_in (thread_rows threads) s)))))

pub sends_tell : (r : Result Posted AllocError) (limits : Limits) (threads : List KeptThread) (old new : List CpuEntry) (i t : ℕ) (thread after : KeptThread) (kind : Kind) (before : KernelRows) → AreTables limits threads old → rows limits (thread_rows threads) old ≡ before
    → i ≡ t → t < length before.threads → thread ≡ get_or threads i thread → IfOk r (λ answer. after ≡ told_thread thread kind answer.aseq) → IfOk r (λ answer. IsTold old new (thread_row_of thread) t kind answer)
    → IfOk r (λ answer. Sends (λ P. telling P t kind) answer before (rows limits (thread_rows (set threads i after)) new))
sends_tell (Ok answer) limits threads old new i t thread after kind before k view at known read is told =
    let there : slice_get threads t ≡ Some thread = thread_read limits threads old i t thread before view at known read in
    subst (λ (before : KernelRows). Sends (λ P. telling P t kind) answer before (rows limits (thread_rows (set threads i after)) new)) view
    (rw (at, is, map-set thread_row_of threads t (told_thread thread kind answer.aseq)) (told_sends limits (thread_rows threads) old new t (thread_row_of thread) kind answer k.kernel (row_read threads t thread there) told))
sends_tell (Err error) limits threads old new i t thread after kind before k view at known read is told = tt

-- no thread comes to a CPU or leaves one
pub on_told : (r : Result Posted AllocError) (limits : Limits) (threads others : List ThreadRow) (old new : List CpuEntry) (row : ThreadRow) (t : ℕ) (kind : Kind) → IfOk r (λ answer. IsTold old new row t kind answer) → OnErr r (new ≡ old)
    → (c : ℕ) → on (seen (rows limits others new)) c ≡ on (seen (rows limits threads old)) c
on_told (Ok answer) limits threads others old new row t kind h kept c =
    ap (option_and_then (λ (row : CpuRow). row.on)) (slice_get-map row_of new c ∙ ap (option_map row_of) (h.lands.each c))
    ∙ same (slice_get old c)
    ∙ ap (option_and_then (λ (row : CpuRow). row.on)) (sym (slice_get-map row_of old c))
  where
    same : (o : Option CpuEntry)
        → option_and_then (λ (row : CpuRow). row.on) (option_map row_of (option_map (λ e. roused_entry h.lands.entry.target c (given_entry row.home (item.Thread record { thread = t; number = length row.kinds + 1; kind = kind }) c e)) o)) ≡ option_and_then (λ (row : CpuRow). row.on) (option_map row_of o)
    same None = refl
    same (Some e) = sym (running_kept h.lands.entry.target row.home (item.Thread record { thread = t; number = length row.kinds + 1; kind = kind }) c e)
on_told (Err error) limits threads others old new row t kind h kept c = rw kept refl
