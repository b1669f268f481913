-- What the code's changes of one row are to a plain kernel that the kernel shows.
use Rattle.std.proofs.Common.{◌≡◌, ◌≢◌, ◌∙◌, ℕ, suc, zero, ◌+◌, ◌-◌, ◌<◌, ◌≤◌, ◌==◌, Bool, true, false, nat_lt, find, List, [], ◌∷◌, length, map, set, drop, Option, Some, None, is_some, slice_get, refl, sym, ap, subst, arith, inl, inr, length-set, if◌then◌else◌}
use Rattle.std.specs.List.{range_with_len}
use Rattle.std.specs.Option.{option_map, option_and_then}
use Rattle.std.proofs.lemmas.Bool.Decides.{eqb_tells}
use Rattle.std.proofs.lemmas.List.{length-map, length-drop}
use Rattle.std.proofs.lemmas.Option.{same_Some, slice_get-map, slice_get_within, slice_get_cases}
use Rattle.pc_messages.specs.declared.message.Item.{Item}
use Rattle.pc_kernel.specs.declared.cpus.CpuEntry.{CpuEntry}
use Rattle.pc_calls.specs.declared.limits.Limits.{Limits}
use Rattle.pc_kernel.specs.PlainKernel.{PlainKernel, is_named}
use Rattle.pc_kernel.specs.PlainKernel as plain
use Rattle.pc_kernel.specs.Rows.{ThreadRow, CpuRow}
use Rattle.pc_kernel.specs.Reads.{thread_row, cpu_row, shown}
use Rattle.pc_kernel.specs.Inner.Entries.{row_of, rows, place_in, IsKernel}
use Rattle.pc_kernel.specs.Inner.Sends.{Becomes}
use Rattle.pc_kernel.specs.Steps.{at}
use Rattle.pc_kernel.proofs.Slots.{slice_get_set_same, slice_get_set_other}
use Rattle.pc_kernel.proofs.Shown.{ShowsParts, shows_from, shows_parts}
use Rattle.pc_kernel.proofs.CpuPosting.{ShowsCpus, cpu_shown}
use Rattle.pc_kernel.proofs.Told.{thread_shown}
use Rattle.pc_kernel.proofs.Added.{find_none}
use Rattle.pc_kernel.proofs.Moves.{cut_queue}

-- the rows of threads are the plain kernel's
abbrev ShowsThreads : List ThreadRow → PlainKernel → Type 0
ShowsThreads threads P = (t : ℕ) → slice_get threads t ≡ (shown P).thread t

at_place : {X : Type 0} (f : ℕ → X) (c : ℕ) (v : X) → at f c v c ≡ v
at_place f c v = elim (eqb_tells c c) [ inl h ↦ rw h.0 refl | inr h ↦ absurd (h.1 refl) ]

at_other : {X : Type 0} (f : ℕ → X) (c d : ℕ) (v : X) → (d == c) ≡ false → at f c v d ≡ f d
at_other f c d v e = rw e refl

-- the plain kernel with other homes and places
abbrev moved : PlainKernel → (ℕ → ℕ) → (ℕ → Option ℕ) → PlainKernel
moved P home on = record P { home = home; on = on }

threads_moved : (threads : List ThreadRow) (P : PlainKernel) (home : ℕ → ℕ) (on : ℕ → Option ℕ) (t : ℕ) (row new : ThreadRow) → ShowsThreads threads P → slice_get threads t ≡ Some row → new ≡ thread_row (moved P home on) t
    → ((s : ℕ) → (s == t) ≡ false → thread_row (moved P home on) s ≡ thread_row P s) → ShowsThreads (set threads t new) (moved P home on)
threads_moved threads P home on t row new shows there is others s =
    let M = moved P home on in
    let known = (thread_shown threads P t row (shows t) there).0 in
    let F : ℕ → Type 0 = λ s. slice_get (set threads t new) s ≡ (shown M).thread s in
    elim (eqb_tells s t) [
      | inl here ↦ subst F (sym here.1) (slice_get_set_same threads t new row there ∙ ap (λ row. Some row) is ∙ sym (ap (λ b. if b then Some (thread_row M t) else None) known))
      | inr other ↦ slice_get_set_other threads t new row s there other.0 ∙ shows s ∙ sym (ap (λ row. if plain.is_known P s then Some row else None) (others s other.0))
    ]

cpus_moved : (cpus : List CpuEntry) (P Q : PlainKernel) (c : ℕ) (e new : CpuEntry) → Q.limits ≡ P.limits → ShowsCpus cpus P → slice_get cpus c ≡ Some e → row_of new ≡ cpu_row Q c
    → ((d : ℕ) → (d == c) ≡ false → cpu_row Q d ≡ cpu_row P d) → ShowsCpus (set cpus c new) Q
cpus_moved cpus P Q c e new same shows there is others d =
    let within : nat_lt c Q.limits.cpus ≡ true = ap (λ (l : Limits). nat_lt c l.cpus) same ∙ (cpu_shown cpus P shows c e there).0 in
    let F : ℕ → Type 0 = λ d. slice_get (map row_of (set cpus c new)) d ≡ (shown Q).cpu d in
    elim (eqb_tells d c) [
      | inl here ↦
          subst F (sym here.1) (
          slice_get-map row_of (set cpus c new) c
          ∙ ap (option_map row_of) (slice_get_set_same cpus c new e there)
          ∙ ap (λ row. Some row) is
          ∙ sym (ap (λ b. if b then Some (cpu_row Q c) else None) within))
      | inr other ↦
          slice_get-map row_of (set cpus c new) d
          ∙ ap (option_map row_of) (slice_get_set_other cpus c new e d there other.0)
          ∙ sym (slice_get-map row_of cpus d)
          ∙ shows d
          ∙ sym (λ i. if nat_lt d (same i).cpus then Some (others d other.0 i) else None)
    ]

-- where a thread is found
is_on_none : (o : Option ℕ) (t : ℕ) → (o ≡ Some t → ⊥) → is_named o t ≡ false
is_on_none None t n = refl
is_on_none (Some s) t n = elim (eqb_tells s t) [ inl h ↦ absurd (n (ap (λ n. Some n) h.1)) | inr h ↦ h.0 ]

is_on_same : (t : ℕ) → is_named (Some t) t ≡ true
is_on_same t = elim (eqb_tells t t) [ inl h ↦ h.0 | inr h ↦ absurd (h.1 refl) ]

find_only : (p : ℕ → Bool) (a n k : ℕ) → p k ≡ true → ((c : ℕ) → (c == k) ≡ false → a ≤ c → c < a + n → p c ≡ false) → a ≤ k → k < a + n → find p (range_with_len a n) ≡ Some k
find_only p a zero k passes others low high = absurd (omega arith)
find_only p a (suc n) k passes others low high = elim (eqb_tells a k) [
  | inl h ↦ let e : p a ≡ true = ap p h.1 ∙ passes in rw e (ap (λ n. Some n) h.1)
  | inr h ↦
      let e : p a ≡ false = others a h.0 (omega arith) (omega arith) in
      let far = h.1 in
      rw e (find_only p (a + 1) n k passes (λ c ne l m. others c ne (omega arith) (omega arith)) (let ne : a ≢ k = far in omega arith) (omega arith))
]

-- a thread that a CPU runs has that CPU in its row
runs_in : (limits : Limits) (threads : List ThreadRow) (cpus : List CpuEntry) (P : PlainKernel) → IsKernel limits threads cpus → ShowsParts (rows limits threads cpus) P
    → (c t : ℕ) → c < P.limits.cpus → P.on c ≡ Some t → place_in threads t ≡ Some c
runs_in limits threads cpus P k shows c t within runs =
    let n : length cpus ≡ limits.cpus = sym (length-map cpus row_of) ∙ k.sound.cpus in
    let same : limits.cpus ≡ P.limits.cpus = ap (λ (l : Limits). l.cpus) shows.limits in
    elim (slice_get_cases cpus c).1 [
      | inl there ↦ k.placed c t there.0 there.2 (ap (λ (row : CpuRow). row.on) (cpu_shown cpus P shows.cpu c there.0 there.2).1 ∙ runs)
      | inr past ↦ absurd (omega (arith, past.0))
    ]

-- the thread on a CPU has left it: it is nowhere, and every other thread is where it was
gone : (limits : Limits) (threads : List ThreadRow) (cpus : List CpuEntry) (P : PlainKernel) (c t : ℕ) → IsKernel limits threads cpus → ShowsParts (rows limits threads cpus) P → place_in threads t ≡ Some c
    → plain.place_of (record P { on = at P.on c None }) t ≡ None
gone limits threads cpus P c t k shows here =
    find_none (λ d. is_named (at P.on c None d) t) 0 P.limits.cpus (λ d low high. elim (eqb_tells d c) [
      | inl h ↦ rw h.0 refl
      | inr h ↦ rw h.0 (is_on_none (P.on d) t (λ runs. h.1 (same_Some d c (sym (runs_in limits threads cpus P k shows d t (omega (arith, high)) runs) ∙ here))))
    ])

other_stays : (P : PlainKernel) (c t s : ℕ) (o : Option ℕ) → is_named (P.on c) s ≡ false → is_named o s ≡ false → plain.place_of (record P { on = at P.on c o }) s ≡ plain.place_of P s
other_stays P c t s o before after = λ i. find (λ d. each d i) (range_with_len 0 P.limits.cpus)
  where
    each : (d : ℕ) → is_named (at P.on c o d) s ≡ is_named (P.on d) s
    each d = elim (eqb_tells d c) [ inl h ↦ rw (h.0, h.1) (after ∙ sym before) | inr h ↦ rw h.0 refl ]

-- the thread is on the CPU and nowhere else
come : (limits : Limits) (threads : List ThreadRow) (cpus : List CpuEntry) (P : PlainKernel) (c t : ℕ) → IsKernel limits threads cpus → ShowsParts (rows limits threads cpus) P → place_in threads t ≡ None → c < P.limits.cpus
    → plain.place_of (record P { on = at P.on c (Some t) }) t ≡ Some c
come limits threads cpus P c t k shows nowhere within =
    find_only (λ d. is_named (at P.on c (Some t) d) t) 0 P.limits.cpus c (ap (λ o. is_named o t) (at_place P.on c (Some t)) ∙ is_on_same t)
    (λ d ne low high. ap (λ o. is_named o t) (at_other P.on c d (Some t) ne) ∙ is_on_none (P.on d) t (λ runs. let bad : None ≡ Some d = sym nowhere ∙ runs_in limits threads cpus P k shows d t (omega (arith, high)) runs in cc))
    (omega arith) (omega (arith, within))

not_same : (s t : ℕ) → (s == t) ≡ false → Some t ≢ Some s
not_same s t e is = elim (eqb_tells s t) [ inl h ↦ let bad : true ≡ false = sym h.0 ∙ e in cc | inr h ↦ h.1 (sym (same_Some t s is)) ]

abbrev off_row : ThreadRow → ThreadRow
off_row row = record row { on = None }

pub becomes_off : (limits : Limits) (threads : List ThreadRow) (cpus : List CpuEntry) (c t : ℕ) (row : ThreadRow) (e : CpuEntry) → IsKernel limits threads cpus → slice_get threads t ≡ Some row → slice_get cpus c ≡ Some e → e.running ≡ Some t
    → Becomes (λ P. record P { on = at P.on c None }) (rows limits threads cpus) (rows limits (set threads t (record row { on = None })) (set cpus c (record e { running = None })))
becomes_off limits threads cpus c t row e k there cpu runs P shows =
    let parts = shows_parts (rows limits threads cpus) P shows in
    let Q : PlainKernel = record P { on = at P.on c None } in
    let as_thread = thread_shown threads P t row (parts.thread t) there in
    let as_cpu = cpu_shown cpus P parts.cpu c e cpu in
    let on_it : P.on c ≡ Some t = sym (ap (λ (row : CpuRow). row.on) as_cpu.1) ∙ runs in
    shows_from (rows limits (set threads t (record row { on = None })) (set cpus c (record e { running = None }))) Q record {
      limits = parts.limits;
      count = length-set threads t (record row { on = None }) ∙ parts.count;
      thread =
          threads_moved threads P P.home (at P.on c None) t row (record row { on = None }) parts.thread there
          (ap off_row as_thread.1 ∙ (λ i. record (thread_row P t) { on = sym (gone limits threads cpus P c t k parts (k.placed c t e cpu runs)) i }))
          (λ s ne i. record (thread_row P s) { on = other_stays P c t s None (ap (λ o. is_named o s) on_it ∙ is_on_none (Some t) s (not_same s t ne)) refl i });
      cpu =
          cpus_moved cpus P Q c e (record e { running = None }) refl parts.cpu cpu
          (ap (λ (row : CpuRow). record row { on = None }) as_cpu.1 ∙ (λ i. record (cpu_row P c) { on = sym (at_place P.on c None) i }))
          (λ d ne i. record (cpu_row P d) { on = at_other P.on c d None ne i });
      eaten = parts.eaten;
    }

pub becomes_on : (limits : Limits) (threads : List ThreadRow) (cpus : List CpuEntry) (c t : ℕ) (row : ThreadRow) (e : CpuEntry) → IsKernel limits threads cpus → slice_get threads t ≡ Some row → slice_get cpus c ≡ Some e → row.on ≡ None → e.running ≡ None
    → Becomes (λ P. record P { on = at P.on c (Some t) }) (rows limits threads cpus) (rows limits (set threads t (record row { on = Some c })) (set cpus c (record e { running = Some t })))
becomes_on limits threads cpus c t row e k there cpu nowhere idle P shows =
    let parts = shows_parts (rows limits threads cpus) P shows in
    let Q : PlainKernel = record P { on = at P.on c (Some t) } in
    let as_thread = thread_shown threads P t row (parts.thread t) there in
    let as_cpu = cpu_shown cpus P parts.cpu c e cpu in
    let idle_there : P.on c ≡ None = sym (ap (λ (row : CpuRow). row.on) as_cpu.1) ∙ idle in
    let place : place_in threads t ≡ None = ap (option_and_then (λ (row : ThreadRow). row.on)) there ∙ nowhere in
    let within : c < P.limits.cpus = let w = slice_get_within cpus c e cpu in let n : length cpus ≡ limits.cpus = sym (length-map cpus row_of) ∙ k.sound.cpus in let same : limits.cpus ≡ P.limits.cpus = ap (λ (l : Limits). l.cpus) parts.limits in omega arith in
    shows_from (rows limits (set threads t (record row { on = Some c })) (set cpus c (record e { running = Some t }))) Q record {
      limits = parts.limits;
      count = length-set threads t (record row { on = Some c }) ∙ parts.count;
      thread =
          threads_moved threads P P.home (at P.on c (Some t)) t row (record row { on = Some c }) parts.thread there
          (ap (λ (row : ThreadRow). record row { on = Some c }) as_thread.1 ∙ (λ i. record (thread_row P t) { on = sym (come limits threads cpus P c t k parts place within) i }))
          (λ s ne i. record (thread_row P s) { on = other_stays P c t s (Some t) (ap (λ o. is_named o s) idle_there) (is_on_none (Some t) s (not_same s t ne)) i });
      cpu =
          cpus_moved cpus P Q c e (record e { running = Some t }) refl parts.cpu cpu
          (ap (λ (row : CpuRow). record row { on = Some t }) as_cpu.1 ∙ (λ i. record (cpu_row P c) { on = sym (at_place P.on c (Some t)) i }))
          (λ d ne i. record (cpu_row P d) { on = at_other P.on c d (Some t) ne i });
      eaten = parts.eaten;
    }

-- another home
pub becomes_housed : (limits : Limits) (threads : List ThreadRow) (cpus : List CpuEntry) (t q : ℕ) (row : ThreadRow) → slice_get threads t ≡ Some row
    → Becomes (λ P. record P { home = at P.home t q }) (rows limits threads cpus) (rows limits (set threads t (record row { home = q })) cpus)
becomes_housed limits threads cpus t q row there P shows =
    let parts = shows_parts (rows limits threads cpus) P shows in
    let as_thread = thread_shown threads P t row (parts.thread t) there in
    shows_from (rows limits (set threads t (record row { home = q })) cpus) (record P { home = at P.home t q }) record {
      limits = parts.limits;
      count = length-set threads t (record row { home = q }) ∙ parts.count;
      thread =
          threads_moved threads P (at P.home t q) P.on t row (record row { home = q }) parts.thread there
          (ap (λ (row : ThreadRow). record row { home = q }) as_thread.1 ∙ (λ i. record (thread_row P t) { home = sym (at_place P.home t q) i }))
          (λ s ne i. record (thread_row P s) { home = at_other P.home t s q ne i });
      cpu = parts.cpu;
      eaten = parts.eaten;
    }

-- the agent sleeps, or wakes
pub becomes_marked : (limits : Limits) (threads : List ThreadRow) (cpus : List CpuEntry) (c : ℕ) (e : CpuEntry) (slept : Option ℕ) (asleep : Bool) → is_some slept ≡ asleep → slice_get cpus c ≡ Some e
    → Becomes (λ P. record P { slept = at P.slept c slept }) (rows limits threads cpus) (rows limits threads (set cpus c (record e { asleep = asleep })))
becomes_marked limits threads cpus c e slept asleep is cpu P shows =
    let parts = shows_parts (rows limits threads cpus) P shows in
    let Q : PlainKernel = record P { slept = at P.slept c slept } in
    let as_cpu = cpu_shown cpus P parts.cpu c e cpu in
    shows_from (rows limits threads (set cpus c (record e { asleep = asleep }))) Q record {
      limits = parts.limits;
      count = parts.count;
      thread = parts.thread;
      cpu =
          cpus_moved cpus P Q c e (record e { asleep = asleep }) refl parts.cpu cpu
          (ap (λ (row : CpuRow). record row { asleep = asleep }) as_cpu.1 ∙ (λ i. record (cpu_row P c) { asleep = sym (ap (λ (o : Option ℕ). is_some o) (at_place P.slept c slept) ∙ is) i }))
          (λ d ne i. record (cpu_row P d) { asleep = is_some (at_other P.slept c d slept ne i) });
      eaten = parts.eaten;
    }

-- the queue wakes another agent, or none
pub becomes_aimed : (limits : Limits) (threads : List ThreadRow) (cpus : List CpuEntry) (c : ℕ) (e : CpuEntry) (target : Option ℕ) → slice_get cpus c ≡ Some e
    → Becomes (λ P. record P { target = at P.target c target }) (rows limits threads cpus) (rows limits threads (set cpus c (record e { target = target })))
becomes_aimed limits threads cpus c e target cpu P shows =
    let parts = shows_parts (rows limits threads cpus) P shows in
    let Q : PlainKernel = record P { target = at P.target c target } in
    let as_cpu = cpu_shown cpus P parts.cpu c e cpu in
    shows_from (rows limits threads (set cpus c (record e { target = target }))) Q record {
      limits = parts.limits;
      count = parts.count;
      thread = parts.thread;
      cpu =
          cpus_moved cpus P Q c e (record e { target = target }) refl parts.cpu cpu
          (ap (λ (row : CpuRow). record row { target = target }) as_cpu.1 ∙ (λ i. record (cpu_row P c) { target = sym (at_place P.target c target) i }))
          (λ d ne i. record (cpu_row P d) { target = at_other P.target c d target ne i });
      eaten = parts.eaten;
    }

-- the first items are consumed
drop_nil : (n : ℕ) → ◌≡◌ {A = List Item} (drop n []) []
drop_nil zero = refl
drop_nil (suc n) = refl

drop_more : (a n : ℕ) (xs : List Item) → drop n (drop a xs) ≡ drop (a + n) xs
drop_more zero n xs = ap (λ m. drop m xs) (let e : n ≡ 0 + n = omega arith in e)
drop_more (suc a) n [] = drop_nil n ∙ sym (drop_nil (suc a + n))
drop_more (suc a) n (x ∷ xs) = drop_more a n xs ∙ ap (λ m. drop m (x ∷ xs)) (let e : suc (a + n) ≡ suc a + n = omega arith in e)

pub becomes_cut : (limits : Limits) (threads : List ThreadRow) (cpus : List CpuEntry) (c n : ℕ) (e : CpuEntry) → slice_get cpus c ≡ Some e → n ≤ length e.queue.items
    → Becomes (λ P. record P { eaten = at P.eaten c (P.eaten c + n) }) (rows limits threads cpus) (rows limits threads (set cpus c (record e { queue = cut_queue e.queue n })))
becomes_cut limits threads cpus c n e cpu few P shows =
    let parts = shows_parts (rows limits threads cpus) P shows in
    let Q : PlainKernel = record P { eaten = at P.eaten c (P.eaten c + n) } in
    let as_cpu = cpu_shown cpus P parts.cpu c e cpu in
    shows_from (rows limits threads (set cpus c (record e { queue = cut_queue e.queue n }))) Q record {
      limits = parts.limits;
      count = parts.count;
      thread = parts.thread;
      cpu =
          cpus_moved cpus P Q c e (record e { queue = cut_queue e.queue n }) refl parts.cpu cpu
          (ap (λ (row : CpuRow). record row { content = drop n row.content }) as_cpu.1
          ∙ (λ i. record (cpu_row P c) { content = (drop_more (P.eaten c) n (plain.items_to P c) ∙ sym (ap (λ m. drop m (plain.items_to P c)) (at_place P.eaten c (P.eaten c + n)))) i }))
          (λ d ne i. record (cpu_row P d) { content = drop (at_other P.eaten c d (P.eaten c + n) ne i) (plain.items_to P d) });
      eaten = λ q. elim (eqb_tells q c) [
        | inl h ↦
            let items : length e.queue.items ≡ length (plain.content P c) = ap (λ (row : CpuRow). length row.content) as_cpu.1 in
            let l : length (plain.content P c) ≡ plain.aseq P c - P.eaten c = length-drop (P.eaten c) (plain.items_to P c) in
            let before = parts.eaten c in
            rw (h.0, h.1) (omega arith)
        | inr h ↦ rw h.0 (parts.eaten q)
      ];
    }
