-- A post to one of the kernel's CPUs, as the code makes it.
use Rattle.std.proofs.Common.{◌≡◌, ◌∙◌, ℕ, ◌+◌, ◌<◌, ◌==◌, true, false, cond, List, [], ◌∷◌, ◌++◌, length, get_or, set, Option, Some, None, refl, ap, slice_get, inl, inr, length-set, if◌then◌else◌}
use Rattle.std.specs.Option.{option_map, option_map_or}
use Rattle.std.proofs.lemmas.Bool.Decides.{eqb_tells}
use Rattle.std.proofs.lemmas.Option.{slice_get_read}
use Rattle.pc_messages.specs.declared.message.Item.{Item}
use Rattle.pc_queue.specs.Queue.{Queue}
use Rattle.pc_kernel.specs.declared.cpus.CpuEntry.{CpuEntry}
use Rattle.pc_kernel.specs.declared.cpus.Landing.{Landing}
use Rattle.pc_kernel.specs.Inner.Entries.{roused_entry, given_entry, sleeps_in, IsPosted}
use Rattle.pc_kernel.specs.Steps.{woken_of}
use Rattle.pc_kernel.proofs.Slots.{slice_get_set}

-- the queue with one more item, after one more post
abbrev pub given_queue : Queue → Item → Queue
given_queue queue item = record queue { posts = queue.posts + 1; items = queue.items ++ item ∷ [] }

-- the CPU with another queue
abbrev pub with_queue : CpuEntry → Queue → CpuEntry
with_queue e queue = record e { queue = queue }

at_same : (old : List CpuEntry) (q : ℕ) (item : Item) (e : CpuEntry) (c : ℕ) → (c == q) ≡ true → slice_get old c ≡ Some e
    → cond (c == q) (Some (with_queue e (given_queue e.queue item))) (slice_get old c) ≡ option_map (given_entry q item c) (slice_get old c)
at_same old q item e c t there = rw (there, t) refl

at_other : (old : List CpuEntry) (q : ℕ) (item : Item) (e : CpuEntry) (c : ℕ) → (c == q) ≡ false → (o : Option CpuEntry)
    → cond (c == q) (Some (with_queue e (given_queue e.queue item))) o ≡ option_map (given_entry q item c) o
at_other old q item e c t None = rw t refl
at_other old q item e c t (Some f) = rw t refl

-- the list with a post to queue q, at each CPU
pub given_each : (old : List CpuEntry) (q : ℕ) (item : Item) (e : CpuEntry) → slice_get old q ≡ Some e
    → (c : ℕ) → slice_get (set old q (with_queue e (given_queue e.queue item))) c ≡ option_map (given_entry q item c) (slice_get old c)
given_each old q item e there c =
    slice_get_set old q (with_queue e (given_queue e.queue item)) e c there
    ∙ elim (eqb_tells c q) [ inl h ↦ at_same old q item e c h.0 (rw h.1 there) | inr h ↦ at_other old q item e c h.0 (slice_get old c) ]

-- a post does not put an agent to sleep or wake one
asleep_given : (q : ℕ) (item : Item) (c : ℕ) (o : Option CpuEntry) → option_map_or (λ (e : CpuEntry). e.asleep) (option_map (given_entry q item c) o) false ≡ option_map_or (λ e. e.asleep) o false
asleep_given q item c None = refl
asleep_given q item c (Some e) = elim (c == q) as (λ b. (if b then with_queue e (given_queue e.queue item) else e).asleep ≡ e.asleep) [ true ↦ refl | false ↦ refl ]

pub woken_given : (old new : List CpuEntry) (q : ℕ) (item : Item) → ((c : ℕ) → slice_get new c ≡ option_map (given_entry q item c) (slice_get old c)) → (agent : Option ℕ) → woken_of (sleeps_in new) agent ≡ woken_of (sleeps_in old) agent
woken_given old new q item each None = refl
woken_given old new q item each (Some c) = ap (λ b. if b then Some c else None) (ap (λ (o : Option CpuEntry). option_map_or (λ e. e.asleep) o false) (each c) ∙ asleep_given q item c (slice_get old c))

roused_given : (f g : CpuEntry → CpuEntry) (o : Option CpuEntry) → option_map f (option_map g o) ≡ option_map (λ e. f (g e)) o
roused_given f g None = refl
roused_given f g (Some e) = refl

is_posted_at : (old given new : List CpuEntry) (q : ℕ) (item : Item) (e : CpuEntry) (landing : Landing) → slice_get old q ≡ Some e
    → length e.queue.items < e.queue.room → e.queue.posts < e.queue.most
    → given ≡ set old q (with_queue e (given_queue e.queue item))
    → length new ≡ length given
    → ((c : ℕ) → slice_get new c ≡ option_map (roused_entry e.target c) (slice_get given c))
    → landing.aseq ≡ e.queue.posts + 1 → landing.woken ≡ woken_of (sleeps_in given) e.target → IsPosted old new q item landing
is_posted_at old given new q item e landing there room posts is count roused aseq woken =
    let each : (c : ℕ) → slice_get given c ≡ option_map (given_entry q item c) (slice_get old c) = λ c. rw is (given_each old q item e there c) in
    record {
      entry = e;
      there = there;
      room = room;
      posts = posts;
      count = count ∙ ap length is ∙ length-set old q (with_queue e (given_queue e.queue item));
      each = λ c. roused c ∙ ap (option_map (roused_entry e.target c)) (each c) ∙ roused_given (roused_entry e.target c) (given_entry q item c) (slice_get old c);
      aseq = aseq;
      woken = woken ∙ woken_given old given q item each e.target;
    }

-- the post, and then the waking
pub is_posted : (old new : List CpuEntry) (q i : ℕ) (item : Item) (e : CpuEntry) (after : Queue) (landing : Landing) → i ≡ q → q < length old → e ≡ get_or old i e
    → length e.queue.items < e.queue.room → e.queue.posts < e.queue.most → after ≡ given_queue e.queue item
    → length new ≡ length (set old i (with_queue e after))
    → ((c : ℕ) → slice_get new c ≡ option_map (roused_entry e.target c) (slice_get (set old i (with_queue e after)) c))
    → landing.aseq ≡ after.posts → landing.woken ≡ woken_of (sleeps_in (set old i (with_queue e after))) e.target → IsPosted old new q item landing
is_posted old new q i item e after landing at within read room posts is count roused aseq woken =
    is_posted_at old (set old i (with_queue e after)) new q item e landing
    (rw (← at) (slice_get_read old (length old) i e refl (rw at within) read)) room posts (rw (at, is) refl) count roused (aseq ∙ ap (λ (queue : Queue). queue.posts) is) woken
