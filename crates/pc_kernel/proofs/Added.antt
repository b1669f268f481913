-- The first message of a new thread: what the code does, and what it is to a plain kernel.
use Rattle.std.proofs.Common.{◌≡◌, ◌∙◌, ℕ, suc, zero, ◌+◌, ◌<◌, ◌≤◌, ◌==◌, Bool, true, false, nat_lt, find, List, [], ◌∷◌, ◌++◌, length, Option, Some, None, slice_get, refl, sym, ap, subst, arith, inl, inr, zero-add, if◌then◌else◌}
use Rattle.std.specs.List.{range_with_len}
use Rattle.std.specs.Option.{option_map, option_map_or, option_and_then}
use Rattle.std.proofs.lemmas.Bool.Decides.{eqb_tells, nat_tests}
use Rattle.std.proofs.lemmas.List.{length_push, length-map, map_push, append-nil}
use Rattle.std.proofs.lemmas.Option.{same_Some, slice_get-map, slice_get_past, slice_get_cases}
use Rattle.pc_messages.specs.State.{ran_given, ran_of}
use Rattle.pc_messages.specs.Run.{is_created, Extends}
use Rattle.pc_messages.specs.declared.kind.Kind.{Kind}
use Rattle.pc_messages.specs.declared.kind.Kind.TheVariants.{Created, Blocked, Preempted, Yield, Dead, Wakeup, Affinity, Priority}
use Rattle.pc_messages.specs.declared.message.Message.{Message}
use Rattle.pc_messages.specs.declared.message.Item.TheVariants as item
use Rattle.pc_calls.specs.declared.call.Posted.{Posted}
use Rattle.pc_kernel.specs.declared.cpus.CpuEntry.{CpuEntry}
use Rattle.pc_kernel.specs.declared.cpus.Landing.{Landing}
use Rattle.pc_calls.specs.declared.limits.Limits.{Limits}
use Rattle.pc_kernel.specs.PlainKernel.{PlainKernel, is_named}
use Rattle.pc_kernel.specs.PlainKernel as plain
use Rattle.pc_kernel.specs.Rows.{ThreadRow, CpuRow, KernelRows}
use Rattle.pc_kernel.specs.Reads.{thread_row, shown, seen, kinds_read}
use Rattle.pc_kernel.specs.Inner.Entries.{row_of, rows, place_in, IsKernel, IsPosted}
use Rattle.pc_kernel.specs.Inner.LastPosts.{KeptThread, thread_row_of, thread_rows, AreTables}
use Rattle.pc_kernel.specs.Sound.{IsThreadRow}
use Rattle.pc_kernel.specs.Answers.{Shows}
use Rattle.pc_kernel.specs.Inner.Sends.{Sends, adding}
use Rattle.pc_kernel.specs.Steps.{at, posted, receipt}
use Rattle.pc_kernel.proofs.Items.{message_next}
use Rattle.pc_kernel.proofs.Ranges.{ranges}
use Rattle.pc_kernel.proofs.Slots.{slice_get_push}
use Rattle.pc_kernel.proofs.Shown.{ShowsParts, shows_from, shows_parts}
use Rattle.pc_kernel.proofs.ShownReads.{unknown_kinds}
use Rattle.pc_kernel.proofs.Grows.{kinds_in, slice_get_append, kernel_posted}
use Rattle.pc_kernel.proofs.LastPosts.{kept_added}
use Rattle.pc_kernel.proofs.CpuPosting.{cpu_shown, cpus_posted, landed}
use Rattle.pc_kernel.proofs.Posting.{telling_same, quiet_other, kinds_told, kinds_quiet, threads-posted_new, aseq-posted_le}

-- the row of a new thread
abbrev pub first_row : ℕ → Kind → ThreadRow
first_row queue kind = record { home = queue; kinds = kind ∷ []; on = None }

abbrev pub first_message : ℕ → Kind → Message
first_message t kind = record { thread = t; number = 1; kind = kind }

push_same : (threads : List ThreadRow) (row : ThreadRow) → slice_get (threads ++ row ∷ []) (length threads) ≡ Some row
push_same [] row = refl
push_same (r ∷ threads) row = push_same threads row

push_other : (threads : List ThreadRow) (row : ThreadRow) (s : ℕ) → (s == length threads) ≡ false → slice_get (threads ++ row ∷ []) s ≡ slice_get threads s
push_other threads row s e = slice_get_push threads row s ∙ rw e refl

added_grows : (threads : List ThreadRow) (row : ThreadRow) (s : ℕ) → (more : List Kind) × (kinds_in (threads ++ row ∷ []) s ≡ kinds_in threads s ++ more)
added_grows threads row s = elim (eqb_tells s (length threads)) [
  | inl at ↦ (
    row.kinds,
    ap (λ (o : Option ThreadRow). option_map_or (λ row. row.kinds) o []) (ap (slice_get (threads ++ row ∷ [])) at.1 ∙ push_same threads row)
        ∙ sym (ap (λ (o : Option ThreadRow). option_map_or (λ row. row.kinds) o [] ++ row.kinds) (slice_get_past threads s (omega arith))),
  )
  | inr at ↦
      ([], ap (λ (o : Option ThreadRow). option_map_or (λ row. row.kinds) o []) (push_other threads row s at.0) ∙ sym (append-nil (kinds_in threads s)))
]

place_pushed : (threads : List ThreadRow) (row : ThreadRow) (s c : ℕ) → place_in threads s ≡ Some c → place_in (threads ++ row ∷ []) s ≡ Some c
place_pushed threads row s c is =
    go (slice_get threads s) (slice_get (threads ++ row ∷ []) s) (λ r there. slice_get_append threads (row ∷ []) s r there) is
  where
    go : (o p : Option ThreadRow) → ((r : ThreadRow) → o ≡ Some r → p ≡ Some r) → option_and_then (λ row. row.on) o ≡ Some c → option_and_then (λ row. row.on) p ≡ Some c
    go None p h e = cc
    go (Some r) p h e = ap (option_and_then (λ (row : ThreadRow). row.on)) (h r refl) ∙ e

created_ran : (kind : Kind) → is_created kind ≡ true → ran_given kind ≡ 0
created_ran (Created ready mask) e = refl
created_ran (Blocked ran) e = cc
created_ran (Preempted ran) e = cc
created_ran (Yield ran) e = cc
created_ran (Dead ran) e = cc
created_ran Wakeup e = refl
created_ran (Affinity mask) e = refl
created_ran (Priority level) e = refl

first_row_sound : (k new : KernelRows) (queue : ℕ) (kind : Kind) → new.limits ≡ k.limits → queue < k.limits.cpus → 1 ≤ k.limits.numbers → is_created kind ≡ true → IsThreadRow new (first_row queue kind)
first_row_sound k new queue kind same there some e =
    let ran : ran_of (kind ∷ []) ≡ 0 = zero-add (ran_given kind) ∙ created_ran kind e in
    record {
      home = rw same there;
      told = omega arith;
      numbers = rw same some;
      begun = (e, λ i d l. absurd (omega arith));
      ran = rw ran (omega arith);
    }

kept_row_sound : (k new : KernelRows) (row : ThreadRow) → new.limits ≡ k.limits → IsThreadRow k row → IsThreadRow new row
kept_row_sound k new row same h = record { home = rw same h.home; told = h.told; numbers = rw same h.numbers; begun = h.begun; ran = h.ran }

-- what holds of every kernel holds after the message
kernel_added : (limits : Limits) (threads : List ThreadRow) (old new : List CpuEntry) (queue : ℕ) (kind : Kind) (landing : Landing) → IsKernel limits threads old
    → IsPosted old new queue (item.Thread (first_message (length threads) kind)) landing → queue < limits.cpus → length threads < limits.threads → is_created kind ≡ true → IsKernel limits (threads ++ first_row queue kind ∷ []) new
kernel_added limits threads old new queue kind landing k h there few e =
    let row = first_row queue kind in
    let l : length (threads ++ row ∷ []) ≡ length threads + 1 = length_push threads row in
    kernel_posted limits threads (threads ++ row ∷ []) old new queue (item.Thread (first_message (length threads) kind)) landing k h
    record { count = omega arith; each = added_grows threads row; place = place_pushed threads row }
    (omega arith)
    (λ s other is. elim (eqb_tells s (length threads)) [
      | inl at ↦
          let same : row ≡ other = same_Some row other (sym (push_same threads row) ∙ ap (slice_get (threads ++ row ∷ [])) (sym at.1) ∙ is) in
          let P : ThreadRow → Type 0 = IsThreadRow (rows limits (threads ++ row ∷ []) new) in
          subst P same (first_row_sound (rows limits threads old) (rows limits (threads ++ row ∷ []) new) queue kind refl there (ranges limits k.sound.limits).some_numbers e)
      | inr at ↦ kept_row_sound (rows limits threads old) (rows limits (threads ++ row ∷ []) new) other refl (k.sound.thread s other (sym (push_other threads row s at.0) ∙ is))
    ])
    (message_next (kinds_in (threads ++ row ∷ [])) (first_message (length threads) kind) (rw (push_same threads row) refl)
    record { from_one = omega arith; greatest = omega arith; created = (λ yes. refl, λ one. e) })

-- nothing is found where nothing passes
pub find_none : (p : ℕ → Bool) (a n : ℕ) → ((c : ℕ) → a ≤ c → c < a + n → p c ≡ false) → find p (range_with_len a n) ≡ None
find_none p a zero h = refl
find_none p a (suc n) h = rw (h a (omega arith) (omega arith)) (find_none p (a + 1) n (λ c l m. h c (omega arith) (omega arith)))

is_on_none : (o : Option ℕ) (t : ℕ) → ((s : ℕ) → o ≡ Some s → s < t) → is_named o t ≡ false
is_on_none None t h = refl
is_on_none (Some s) t h = let l = h s refl in grind (arith, nat_tests)

-- no CPU has a thread on it that is not known
place_none : (limits : Limits) (threads : List ThreadRow) (old : List CpuEntry) (P : PlainKernel) → IsKernel limits threads old → ShowsParts (rows limits threads old) P → plain.place_of P (length threads) ≡ None
place_none limits threads old P k shows =
    find_none (λ c. is_named (P.on c) (length threads)) 0 P.limits.cpus (λ c low high.
    let n : length old ≡ limits.cpus = sym (length-map old row_of) ∙ k.sound.cpus in
    let same : limits.cpus ≡ P.limits.cpus = ap (λ (l : Limits). l.cpus) shows.limits in
    elim (slice_get_cases old c).1 [
      | inl there ↦
          let at = (cpu_shown old P shows.cpu c there.0 there.2).1 in
          is_on_none (P.on c) (length threads) (λ s is. (k.sound.cpu c (row_of there.0) (slice_get-map row_of old c ∙ ap (option_map row_of) there.2)).on s (ap (λ (row : CpuRow). row.on) at ∙ is))
      | inr past ↦ absurd (omega (arith, past.0))
    ])

unknown : (threads : List ThreadRow) (P : PlainKernel) (t : ℕ) → slice_get threads t ≡ (shown P).thread t → length threads ≤ t → plain.is_known P t ≡ false
unknown threads P t shows past =
    elim (plain.is_known P t) as (λ b. None ≡ (if b then Some (thread_row P t) else None) → b ≡ false) [ true ↦ λ h. cc | false ↦ λ h. refl ] (sym (slice_get_past threads t past) ∙ shows)

-- the plain kernel with the new thread's home
abbrev housed : PlainKernel → ℕ → ℕ → PlainKernel
housed P n queue = record P { home = at P.home n queue }

-- what is shown of a thread with this home, these kinds and this place
abbrev shown_with : ℕ → List Kind → Option ℕ → Option ThreadRow
shown_with home ks on = if nat_lt 0 (length ks) then Some record { home = home; kinds = ks; on = on } else None

thread_added : (threads : List ThreadRow) (P : PlainKernel) (queue : ℕ) (kind : Kind) (n : ℕ) → length threads ≡ n → ((s : ℕ) → slice_get threads s ≡ (shown P).thread s) → plain.is_known P n ≡ false → plain.place_of P n ≡ None
    → (s : ℕ) → slice_get (threads ++ first_row queue kind ∷ []) s ≡ (shown (posted (housed P n queue) queue (item.Thread (first_message n kind)))).thread s
thread_added threads P queue kind n len shows new nowhere s =
    let m = first_message n kind in
    let row = first_row queue kind in
    elim (eqb_tells s n) [
      | inl here ↦
          let kinds : plain.kinds (posted (housed P n queue) queue (item.Thread m)) s ≡ kind ∷ [] =
          ap (plain.kinds (posted (housed P n queue) queue (item.Thread m))) here.1
          ∙ kinds_told (housed P n queue) queue (item.Thread m) n m (telling_same m)
          ∙ ap (λ ks. ks ++ kind ∷ []) (unknown_kinds P n new) in
          ap (slice_get (threads ++ row ∷ [])) (here.1 ∙ sym len)
          ∙ push_same threads row
          ∙ sym (λ i. shown_with (home here.0 i) (kinds i) ((ap (plain.place_of P) here.1 ∙ nowhere) i))
      | inr other ↦
          push_other threads row s (rw len other.0)
          ∙ shows s
          ∙ sym (λ i. shown_with (elsewhere other.0 i) (kinds_quiet (housed P n queue) queue (item.Thread m) s (quiet_other s m (λ e. other.1 (sym e))) i) (plain.place_of P s))
    ]
  where
    home : (s == n) ≡ true → at P.home n queue s ≡ queue
    home e = rw e refl

    elsewhere : (s == n) ≡ false → at P.home n queue s ≡ P.home s
    elsewhere e = rw e refl

added_at : (limits : Limits) (threads : List ThreadRow) (old new : List CpuEntry) (queue : ℕ) (kind : Kind) (landing : Landing) (answer : Posted) (P : PlainKernel) (n : ℕ) → IsKernel limits threads old → ShowsParts (rows limits threads old) P
    → n ≡ plain.threads P → length threads ≡ n → IsPosted old new queue (item.Thread (first_message n kind)) landing
    → answer ≡ record { thread = Some n; number = Some 1; queue = queue; aseq = landing.aseq; woken = landing.woken }
    → (answer ≡ receipt record { before = housed P n queue; queue = queue; item = item.Thread (first_message n kind) }) × Shows (rows limits (threads ++ first_row queue kind ∷ []) new) (posted (housed P n queue) queue (item.Thread (first_message n kind)))
added_at limits threads old new queue kind landing answer P n k shows count len h is =
    let m = first_message n kind in
    let H = housed P n queue in
    let lands = landed old new H queue (item.Thread m) landing h shows.cpu (λ c is. subst (λ (l : Limits). c < l.cpus) shows.limits ((k.sound.cpu queue (row_of h.entry) (slice_get-map row_of old queue ∙ ap (option_map row_of) h.there)).target c is)) in
    let new_name : plain.is_known P n ≡ false = unknown threads P n (shows.thread n) (omega arith) in (
      is ∙ (λ i. record { thread = Some n; number = Some 1; queue = queue; aseq = lands.0 i; woken = lands.1 i }),
      shows_from (rows limits (threads ++ first_row queue kind ∷ []) new) (posted H queue (item.Thread m)) record {
        limits = shows.limits;
        count = length_push threads (first_row queue kind) ∙ ap (λ n. n + 1) shows.count ∙ sym (threads-posted_new H queue m new_name);
        thread = thread_added threads P queue kind n len shows.thread new_name (ap (plain.place_of P) (sym len) ∙ place_none limits threads old P k shows);
        cpu = cpus_posted old new H queue (item.Thread m) landing h shows.cpu shows.eaten;
        eaten = λ q. let before = shows.eaten q in let more = aseq-posted_le H queue q (item.Thread m) in omega arith;
      },
    )

-- the code's step for a new thread is the plain kernel's
added_sends : (limits : Limits) (threads : List ThreadRow) (old new : List CpuEntry) (queue : ℕ) (kind : Kind) (landing : Landing) → IsKernel limits threads old
    → IsPosted old new queue (item.Thread (first_message (length threads) kind)) landing
    → Sends (λ P. adding P queue kind) record { thread = Some (length threads); number = Some 1; queue = queue; aseq = landing.aseq; woken = landing.woken } (rows limits threads old) (rows limits (threads ++ first_row queue kind ∷ []) new)
added_sends limits threads old new queue kind landing k h P shows =
    let parts = shows_parts (rows limits threads old) P shows in
    let n : ℕ = plain.threads P in
    let answer : Posted = record { thread = Some (length threads); number = Some 1; queue = queue; aseq = landing.aseq; woken = landing.woken } in
    let home : at P.home n queue n ≡ queue = let same : (n == n) ≡ true = grind (arith, nat_tests) in rw same refl in
    let unseen : plain.is_known P n ≡ false = unknown threads P n (parts.thread n) (let c = parts.count in omega arith) in
    let one : plain.number P n + 1 ≡ 1 = ap (λ (ks : List Kind). length ks + 1) (unknown_kinds P n unseen) in
    let F : ℕ → ℕ → Type 0 = λ q number. let it = item.Thread record { thread = n; number = number; kind = kind } in
    (answer ≡ receipt record { before = housed P n queue; queue = q; item = it }) × Shows (rows limits (threads ++ first_row queue kind ∷ []) new) (posted (housed P n queue) q it) in
    let base : F queue 1 =
    added_at limits threads old new queue kind landing answer P n k parts refl parts.count
    (subst (λ (n : ℕ). IsPosted old new queue (item.Thread (first_message n kind)) landing) parts.count h)
    (ap (λ (n : ℕ). record { thread = Some n; number = Some 1; queue = queue; aseq = landing.aseq; woken = landing.woken }) parts.count) in
    subst (λ (q : ℕ). F q (plain.number P n + 1)) (sym home) (subst (F queue) (sym one) base)

-- the same of what the code keeps
abbrev pub first_thread : ℕ → Kind → ℕ → KeptThread
first_thread queue kind post = record { home = queue; kinds = kind ∷ []; on = None; last_post = post }

first_pushed : (threads : List KeptThread) (queue : ℕ) (kind : Kind) (post : ℕ) → thread_rows (threads ++ first_thread queue kind post ∷ []) ≡ thread_rows threads ++ first_row queue kind ∷ []
first_pushed threads queue kind post = map_push thread_row_of threads (first_thread queue kind post)

-- the code's list, where the row of the new thread notes its post and comes to the end
pub pushed_thread : (threads grown after : List KeptThread) (queue : ℕ) (kind : Kind) (post : ℕ) (entry new : KeptThread) → grown ≡ threads → entry ≡ first_thread queue kind 0 → new ≡ record entry { last_post = post } → after ≡ grown ++ new ∷ []
    → after ≡ threads ++ first_thread queue kind post ∷ []
pushed_thread threads grown after queue kind post entry new same first noted pushed =
    pushed ∙ (λ i. same i ++ (noted ∙ ap (λ (entry : KeptThread). record entry { last_post = post }) first) i ∷ [])

-- the message of the next name, by the count of rows
named : (threads : List KeptThread) (old new : List CpuEntry) (queue n : ℕ) (kind : Kind) (landing : Landing) → n ≡ length threads → IsPosted old new queue (item.Thread (first_message n kind)) landing
    → IsPosted old new queue (item.Thread (first_message (length (thread_rows threads)) kind)) landing
named threads old new queue n kind landing count h = subst (λ (n : ℕ). IsPosted old new queue (item.Thread (first_message n kind)) landing) (count ∙ sym (length-map threads thread_row_of)) h

pub tables_add : (limits : Limits) (threads after : List KeptThread) (old new : List CpuEntry) (queue n : ℕ) (kind : Kind) (landing : Landing) (before : KernelRows) → AreTables limits threads old → rows limits (thread_rows threads) old ≡ before → n ≡ length threads
    → after ≡ threads ++ first_thread queue kind landing.aseq ∷ [] → IsPosted old new queue (item.Thread (first_message n kind)) landing → queue < before.limits.cpus → length before.threads < before.limits.threads → is_created kind ≡ true → AreTables limits after new
tables_add limits threads after old new queue n kind landing before k view count is h there names e =
    let within : queue < limits.cpus = subst (λ (k : KernelRows). queue < k.limits.cpus) (sym view) there in
    let few : length (thread_rows threads) < limits.threads = subst (λ (k : KernelRows). length k.threads < k.limits.threads) (sym view) names in
    let held = (k.kernel.sound.cpu queue (row_of h.entry) (slice_get-map row_of old queue ∙ ap (option_map row_of) h.there)).held in
    rw is record {
      kernel = rw (first_pushed threads queue kind landing.aseq) (kernel_added limits (thread_rows threads) old new queue kind landing k.kernel (named threads old new queue n kind landing count h) within few e);
      last_posts = kept_added old new threads (first_thread queue kind landing.aseq) (first_message n kind) landing h held count refl k.last_posts;
    }

pub sends_add : (limits : Limits) (threads after : List KeptThread) (old new : List CpuEntry) (queue n : ℕ) (kind : Kind) (landing : Landing) (before : KernelRows) → AreTables limits threads old → rows limits (thread_rows threads) old ≡ before → n ≡ length threads
    → after ≡ threads ++ first_thread queue kind landing.aseq ∷ [] → IsPosted old new queue (item.Thread (first_message n kind)) landing
    → Sends (λ P. adding P queue kind) record { thread = Some n; number = Some 1; queue = queue; aseq = landing.aseq; woken = landing.woken } before (rows limits (thread_rows after) new)
sends_add limits threads after old new queue n kind landing before k view count is h =
    let answer : ℕ → Posted = λ n. record { thread = Some n; number = Some 1; queue = queue; aseq = landing.aseq; woken = landing.woken } in
    let next = rows limits (thread_rows after) new in
    let list : thread_rows threads ++ first_row queue kind ∷ [] ≡ thread_rows after = sym (ap thread_rows is ∙ first_pushed threads queue kind landing.aseq) in
    let sends = added_sends limits (thread_rows threads) old new queue kind landing k.kernel (named threads old new queue n kind landing count h) in
    let named = subst (λ (n : ℕ). Sends (λ P. adding P queue kind) (answer n) (rows limits (thread_rows threads) old) (rows limits (thread_rows threads ++ first_row queue kind ∷ []) new)) (length-map threads thread_row_of ∙ sym count) sends in
    subst (λ (before : KernelRows). Sends (λ P. adding P queue kind) (answer n) before next) view
    (subst (λ (list : List ThreadRow). Sends (λ P. adding P queue kind) (answer n) (rows limits (thread_rows threads) old) (rows limits list new)) list named)

pub extends_add : (limits : Limits) (threads after : List KeptThread) (old : List CpuEntry) (queue : ℕ) (kind : Kind) (post : ℕ) (before : KernelRows) → rows limits (thread_rows threads) old ≡ before → after ≡ threads ++ first_thread queue kind post ∷ []
    → Extends (kinds_in (thread_rows after)) (kinds_read (seen before))
extends_add limits threads after old queue kind post before view is =
    subst (λ (k : KernelRows). Extends (kinds_in (thread_rows after)) (kinds_read (seen k))) view
    (subst (λ (list : List ThreadRow). Extends (kinds_in list) (kinds_in (thread_rows threads))) (sym (ap thread_rows is ∙ first_pushed threads queue kind post)) (added_grows (thread_rows threads) (first_row queue kind)))
