-- Where the last item of a thread stands in a queue, and that the code keeps it.
use Rattle.std.proofs.Common.{◌≡◌, ◌∙◌, ℕ, suc, zero, ◌+◌, ◌-◌, ◌<◌, ◌≤◌, ◌==◌, Bool, true, false, nat_lt, cond, List, [], ◌∷◌, ◌++◌, length, get_or, set, drop, ◌||◌, ◌&&◌, Option, Some, slice_get, refl, sym, ap, subst, arith, inl, inr, if◌then◌else◌}
use Rattle.std.specs.List.{list_any}
use Rattle.std.specs.Option.{option_map, option_map_or}
use Rattle.std.proofs.lemmas.Bool.Decides.{eqb_tells, nat_tests}
use Rattle.std.proofs.lemmas.List.{length_push, length-drop, length-map, map-set}
use Rattle.std.proofs.lemmas.Option.{same_Some, slice_get-map, slice_get_past, slice_get_read}
use Rattle.pc_messages.specs.Items.{is_of}
use Rattle.pc_messages.specs.declared.message.Item.{Item}
use Rattle.pc_messages.specs.declared.message.Item.TheVariants.{Thread, Tick}
use Rattle.pc_messages.specs.declared.message.Message.{Message}
use Rattle.pc_queue.specs.Queue.{Queue}
use Rattle.pc_kernel.specs.declared.cpus.CpuEntry.{CpuEntry}
use Rattle.pc_kernel.specs.declared.cpus.Landing.{Landing}
use Rattle.pc_calls.specs.declared.limits.Limits.{Limits}
use Rattle.pc_kernel.specs.Rows.{KernelRows}
use Rattle.pc_kernel.specs.Reads.{seen, kinds_read}
use Rattle.pc_kernel.specs.Inner.Entries.{rows, given, IsPosted}
use Rattle.pc_kernel.specs.Inner.LastPosts.{KeptThread, thread_row_of, thread_rows, last_place, gone, last_post_to, KeepLastPosts}
use Rattle.pc_kernel.proofs.Slots.{slice_get_set, slice_get_set_same, slice_get_set_other, slice_get_push}
use Rattle.pc_kernel.proofs.Grows.{kinds_in, posted_at}
use Rattle.pc_kernel.proofs.Moves.{kinds_kept, cut_queue}

-- what is kept of a thread, where the code reads it
pub thread_read : (limits : Limits) (threads : List KeptThread) (cpus : List CpuEntry) (i t : ℕ) (thread : KeptThread) (old : KernelRows) → rows limits (thread_rows threads) cpus ≡ old → i ≡ t
    → t < length old.threads → thread ≡ get_or threads i thread → slice_get threads t ≡ Some thread
thread_read limits threads cpus i t thread old is index known read =
    let within : t < length threads = subst (λ n. t < n) (length-map threads thread_row_of) (subst (λ (k : KernelRows). t < length k.threads) (sym is) known) in
    slice_get_read threads (length threads) t thread refl within (rw (← index) read)

pub row_read : (threads : List KeptThread) (t : ℕ) (thread : KeptThread) → slice_get threads t ≡ Some thread → slice_get (thread_rows threads) t ≡ Some (thread_row_of thread)
row_read threads t thread there = slice_get-map thread_row_of threads t ∙ ap (option_map thread_row_of) there

-- another home or place of a thread, with the same history
pub kinds_stay : (limits : Limits) (threads : List KeptThread) (cpus : List CpuEntry) (i t : ℕ) (thread new : KeptThread) (old : KernelRows) → rows limits (thread_rows threads) cpus ≡ old → i ≡ t
    → t < length old.threads → thread ≡ get_or threads i thread → new.kinds ≡ thread.kinds → (s : ℕ) → kinds_in (thread_rows (set threads i new)) s ≡ kinds_read (seen old) s
kinds_stay limits threads cpus i t thread new old is index known read same s =
    let there = row_read threads t thread (thread_read limits threads cpus i t thread old is index known read) in
    subst (λ (old : KernelRows). kinds_in (thread_rows (set threads i new)) s ≡ kinds_read (seen old) s) is
    (rw (index, map-set thread_row_of threads t new) (kinds_kept (thread_rows threads) t (thread_row_of thread) (thread_row_of new) there same s))

-- the place after an item in front, which is of the thread or not
abbrev behind : Bool → ℕ → ℕ
behind b n = if nat_lt 0 n then n + 1 else if b then 1 else 0

behind_some : (b : Bool) (n : ℕ) → behind b (n + 1) ≡ suc n + 1
behind_some b n = grind (arith, nat_tests)

ahead : (b : Bool) (n : ℕ) → n ≡ behind b n - 1
ahead true n = grind (arith, nat_tests)
ahead false n = grind (arith, nat_tests)

-- an item at the end
pub last_place_push : (t : ℕ) (items : List Item) (item : Item) → last_place t (items ++ item ∷ []) ≡ (if is_of t item then length items + 1 else last_place t items)
last_place_push t [] item = refl
last_place_push t (x ∷ items) item =
    ap (behind (is_of t x)) (last_place_push t items item)
    ∙ elim (is_of t item) as (λ b. behind (is_of t x) (if b then length items + 1 else last_place t items) ≡ (if b then length (x ∷ items) + 1 else last_place t (x ∷ items))) [
      | true ↦ behind_some (is_of t x) (length items)
      | false ↦ refl
    ]

-- the first items go
pub last_place_drop : (t n : ℕ) (items : List Item) → last_place t (drop n items) ≡ last_place t items - n
last_place_drop t zero items = omega arith
last_place_drop t (suc n) [] = omega arith
last_place_drop t (suc n) (x ∷ items) =
    let rest = last_place_drop t n items in
    let first = ahead (is_of t x) (last_place t items) in
    omega arith

-- an item of the thread is held where its last one has a place
pub pending_placed : (t : ℕ) (items : List Item) → list_any (is_of t) items ≡ nat_lt 0 (last_place t items)
pending_placed t [] = refl
pending_placed t (x ∷ items) = ap (λ b. is_of t x || b) (pending_placed t items) ∙ both (is_of t x) (last_place t items)
  where
    both : (b : Bool) (n : ℕ) → (b || nat_lt 0 n) ≡ nat_lt 0 (behind b n)
    both true n = grind (arith, nat_tests)
    both false n = grind (arith, nat_tests)

-- a thread's last item stands where the code has it
abbrev pub Stands : List KeptThread → ℕ → ℕ → Queue → Type 0
Stands threads t q queue = last_place t queue.items ≡ last_post_to threads t q - gone queue

-- another row of a CPU
pub kept_at : (threads : List KeptThread) (cpus : List CpuEntry) (c : ℕ) (e new : CpuEntry) → slice_get cpus c ≡ Some e → ((t : ℕ) → Stands threads t c new.queue) → KeepLastPosts threads cpus → KeepLastPosts threads (set cpus c new)
kept_at threads cpus c e new there stands k t q f get = elim (eqb_tells q c) [
  | inl at ↦
      let is : new ≡ f = same_Some new f (sym (slice_get_set_same cpus c new e there) ∙ ap (slice_get (set cpus c new)) (sym at.1) ∙ get) in
      subst (λ (f : CpuEntry). Stands threads t q f.queue) is (subst (λ (q : ℕ). Stands threads t q new.queue) (sym at.1) (stands t))
  | inr at ↦ k t q f (sym (slice_get_set_other cpus c new e q there at.0) ∙ get)
]

-- its queue without its first items
pub stands_cut : (threads : List KeptThread) (t q n : ℕ) (queue : Queue) → n ≤ length queue.items → length queue.items ≤ queue.posts → Stands threads t q queue → Stands threads t q (cut_queue queue n)
stands_cut threads t q n queue few held stands =
    let cut = last_place_drop t n queue.items in
    let rest = length-drop n queue.items in
    omega arith

-- another row of a thread
pub last_post_set : (threads : List KeptThread) (t : ℕ) (thread new : KeptThread) → slice_get threads t ≡ Some thread → (s q : ℕ)
    → last_post_to (set threads t new) s q ≡ (if s == t then (if q == new.home then new.last_post else 0) else last_post_to threads s q)
last_post_set threads t thread new there s q =
    ap (λ (o : Option KeptThread). option_map_or (λ thread. if q == thread.home then thread.last_post else 0) o 0) (slice_get_set threads t new thread s there)
    ∙ elim (s == t) as (λ b. option_map_or (λ (thread : KeptThread). if q == thread.home then thread.last_post else 0) (cond b (Some new) (slice_get threads s)) 0 ≡ (if b then (if q == new.home then new.last_post else 0) else last_post_to threads s q)) [
      | true ↦ refl
      | false ↦ refl
    ]

pub last_post_of : (threads : List KeptThread) (t q : ℕ) (thread : KeptThread) → slice_get threads t ≡ Some thread → last_post_to threads t q ≡ (if q == thread.home then thread.last_post else 0)
last_post_of threads t q thread there = ap (λ (o : Option KeptThread). option_map_or (λ thread. if q == thread.home then thread.last_post else 0) o 0) there

-- at the same home, after the same post
pub kept_on : (threads : List KeptThread) (cpus : List CpuEntry) (t : ℕ) (thread : KeptThread) (on : Option ℕ) → slice_get threads t ≡ Some thread → KeepLastPosts threads cpus → KeepLastPosts (set threads t (record thread { on = on })) cpus
kept_on threads cpus t thread on there k s q e get =
    let same : last_post_to (set threads t (record thread { on = on })) s q ≡ last_post_to threads s q =
    last_post_set threads t thread (record thread { on = on }) there s q
    ∙ elim (eqb_tells s t) [
      | inl at ↦ rw at.0 (sym (ap (λ s. last_post_to threads s q) at.1 ∙ last_post_of threads t q thread there))
      | inr at ↦ rw at.0 refl
    ] in
    rw same (k s q e get)

-- at another home, where none of its items is left at the old one
pub kept_moved : (threads : List KeptThread) (cpus : List CpuEntry) (t home : ℕ) (thread : KeptThread) → slice_get threads t ≡ Some thread
    → ((e : CpuEntry) → slice_get cpus thread.home ≡ Some e → last_place t e.queue.items ≡ 0) → KeepLastPosts threads cpus → KeepLastPosts (set threads t (record thread { home = home; last_post = 0 })) cpus
kept_moved threads cpus t home thread there none k s q e get =
    let new : KeptThread = record thread { home = home; last_post = 0 } in
    let before = k s q e get in
    rw (last_post_set threads t thread new there s q) (elim (eqb_tells s t) [
      | inl at ↦
          let here : last_place t e.queue.items ≡ 0 = elim (eqb_tells q thread.home) [
            | inl home ↦ none e (ap (slice_get cpus) (sym home.1) ∙ get)
            | inr away ↦
                let is : last_post_to threads t q ≡ 0 = last_post_of threads t q thread there ∙ rw away.0 refl in
                let was : last_place t e.queue.items ≡ last_post_to threads t q - gone e.queue = k t q e get in
                omega arith
          ] in
          rw (at.0, at.1, here) (nothing (q == home) (gone e.queue))
      | inr at ↦ rw at.0 before
    ])
  where
    nothing : (b : Bool) (n : ℕ) → 0 ≡ (if b then 0 else 0) - n
    nothing true n = omega arith
    nothing false n = omega arith

-- a post to a queue
stands_given : (after : List KeptThread) (t q : ℕ) (queue : Queue) (item : Item) (was : ℕ) → length queue.items ≤ queue.posts → last_place t queue.items ≡ was - gone queue
    → last_post_to after t q ≡ (if is_of t item then queue.posts + 1 else was) → Stands after t q (given queue item)
stands_given after t q queue item was held stands is =
    let long = length_push queue.items item in
    rw (last_place_push t queue.items item, is) (elim (is_of t item) as (λ b. (if b then length queue.items + 1 else last_place t queue.items) ≡ (if b then queue.posts + 1 else was) - gone (given queue item)) [
      | true ↦ omega arith
      | false ↦ omega arith
    ])

pub kept_posted : (old new : List CpuEntry) (before after : List KeptThread) (q : ℕ) (item : Item) (landing : Landing) (h : IsPosted old new q item landing) → length h.entry.queue.items ≤ h.entry.queue.posts
    → ((t c : ℕ) → last_post_to after t c ≡ (if (c == q) && is_of t item then landing.aseq else last_post_to before t c)) → KeepLastPosts before old → KeepLastPosts after new
kept_posted old new before after q item landing h held is k t c f get =
    let from = posted_at old new q item landing h c f get in
    let e : CpuEntry = from.0 in
    let posts : ℕ → ℕ = λ aseq. if is_of t item then aseq else last_post_to before t c in
    subst (λ (f : CpuEntry). Stands after t c f.queue) from.2 (elim (eqb_tells c q) [
      | inl at ↦
          let same : h.entry ≡ e = same_Some h.entry e (sym h.there ∙ ap (slice_get old) (sym at.1) ∙ from.1) in
          let aseq : landing.aseq ≡ e.queue.posts + 1 = h.aseq ∙ ap (λ (e : CpuEntry). e.queue.posts + 1) same in
          let fits : length e.queue.items ≤ e.queue.posts = subst (λ (e : CpuEntry). length e.queue.items ≤ e.queue.posts) same held in
          let now : last_post_to after t c ≡ posts (e.queue.posts + 1) = is t c ∙ ap (λ b. if b && is_of t item then landing.aseq else last_post_to before t c) at.0 ∙ ap posts aseq in
          rw at.0 (stands_given after t c e.queue item (last_post_to before t c) fits (k t c e from.1) now)
      | inr at ↦
          let now : last_post_to after t c ≡ last_post_to before t c = is t c ∙ ap (λ b. if b && is_of t item then landing.aseq else last_post_to before t c) at.0 in
          rw at.0 (k t c e from.1 ∙ ap (λ n. n - gone e.queue) (sym now))
    ])

-- a tick is of no thread
pub kept_ticked : (old new : List CpuEntry) (threads : List KeptThread) (q cpu : ℕ) (landing : Landing) (h : IsPosted old new q (Tick cpu) landing) → length h.entry.queue.items ≤ h.entry.queue.posts
    → KeepLastPosts threads old → KeepLastPosts threads new
kept_ticked old new threads q cpu landing h held =
    kept_posted old new threads threads q (Tick cpu) landing h held (λ t c. elim (c == q) as (λ b. last_post_to threads t c ≡ (if b && false then landing.aseq else last_post_to threads t c)) [ true ↦ refl | false ↦ refl ])

-- a message is its thread's last post, at its home
pub kept_told : (old new : List CpuEntry) (threads : List KeptThread) (t : ℕ) (thread next : KeptThread) (message : Message) (landing : Landing) (h : IsPosted old new thread.home (Thread message) landing)
    → length h.entry.queue.items ≤ h.entry.queue.posts → slice_get threads t ≡ Some thread → message.thread ≡ t → next.home ≡ thread.home → next.last_post ≡ landing.aseq
    → KeepLastPosts threads old → KeepLastPosts (set threads t next) new
kept_told old new threads t thread next message landing h held there of home post =
    kept_posted old new threads (set threads t next) thread.home (Thread message) landing h held (λ s c.
    last_post_set threads t thread next there s c ∙ elim (eqb_tells s t) [
      | inl at ↦
          let is : (message.thread == s) ≡ true = ap (λ n. n == s) (of ∙ sym at.1) ∙ self s in
          let was : last_post_to threads s c ≡ (if c == thread.home then thread.last_post else 0) = ap (λ s. last_post_to threads s c) at.1 ∙ last_post_of threads t c thread there in
          rw (at.0, is, home, post, was) (elim (c == thread.home) as (λ b. (if b then landing.aseq else 0) ≡ (if b && true then landing.aseq else if b then thread.last_post else 0)) [ true ↦ refl | false ↦ refl ])
      | inr at ↦
          let not : (message.thread == s) ≡ false = elim (eqb_tells message.thread s) [ inl e ↦ absurd (at.1 (sym e.1 ∙ of)) | inr e ↦ e.0 ] in
          rw (at.0, not) (elim (c == thread.home) as (λ b. last_post_to threads s c ≡ (if b && false then landing.aseq else last_post_to threads s c)) [ true ↦ refl | false ↦ refl ])
    ])
  where
    self : (s : ℕ) → (s == s) ≡ true
    self s = grind (arith, nat_tests)

-- the first message of a new thread
pub kept_added : (old new : List CpuEntry) (threads : List KeptThread) (next : KeptThread) (message : Message) (landing : Landing) (h : IsPosted old new next.home (Thread message) landing)
    → length h.entry.queue.items ≤ h.entry.queue.posts → message.thread ≡ length threads → next.last_post ≡ landing.aseq → KeepLastPosts threads old → KeepLastPosts (threads ++ next ∷ []) new
kept_added old new threads next message landing h held of post =
    kept_posted old new threads (threads ++ next ∷ []) next.home (Thread message) landing h held (λ s c.
    let F : Option KeptThread → ℕ = λ o. option_map_or (λ thread. if c == thread.home then thread.last_post else 0) o 0 in
    ap F (slice_get_push threads next s) ∙ elim (eqb_tells s (length threads)) [
      | inl at ↦
          let is : (message.thread == s) ≡ true = ap (λ n. n == s) (of ∙ sym at.1) ∙ self s in
          let past : length threads ≤ s = omega arith in
          let was : last_post_to threads s c ≡ 0 = ap F (slice_get_past threads s past) in
          rw (at.0, is, post, was) (elim (c == next.home) as (λ b. (if b then landing.aseq else 0) ≡ (if b && true then landing.aseq else 0)) [ true ↦ refl | false ↦ refl ])
      | inr at ↦
          let not : (message.thread == s) ≡ false = elim (eqb_tells message.thread s) [ inl e ↦ absurd (at.1 (sym e.1 ∙ of)) | inr e ↦ e.0 ] in
          rw (at.0, not) (elim (c == next.home) as (λ b. last_post_to threads s c ≡ (if b && false then landing.aseq else last_post_to threads s c)) [ true ↦ refl | false ↦ refl ])
    ])
  where
    self : (s : ℕ) → (s == s) ≡ true
    self s = grind (arith, nat_tests)
