-- What holds of a kernel's rows still holds after a post, where every history goes on.
use Rattle.std.proofs.Common.{◌≡◌, ◌∙◌, ℕ, suc, zero, ◌+◌, ◌-◌, ◌<◌, ◌≤◌, ◌==◌, Bool, true, false, cond, List, [], ◌∷◌, ◌++◌, length, map, Option, Some, None, slice_get, refl, sym, ap, subst, arith, inl, inr}
use Rattle.std.specs.Option.{option_map, option_map_or}
use Rattle.std.proofs.lemmas.Bool.Decides.{eqb_tells, nat_tests}
use Rattle.std.proofs.lemmas.List.{length-map, length_push}
use Rattle.std.proofs.lemmas.Option.{same_Some, slice_get-map}
use Rattle.pc_messages.specs.Run.{kind_at}
use Rattle.pc_messages.specs.declared.kind.Kind.{Kind}
use Rattle.pc_messages.specs.declared.message.Item.{Item}
use Rattle.pc_kernel.specs.declared.cpus.CpuEntry.{CpuEntry}
use Rattle.pc_kernel.specs.declared.cpus.Landing.{Landing}
use Rattle.pc_calls.specs.declared.limits.Limits.{Limits}
use Rattle.pc_kernel.specs.Rows.{ThreadRow, CpuRow}
use Rattle.pc_kernel.specs.Inner.Entries.{row_of, rows, roused_entry, given_entry, place_in, IsKernel, IsPosted, AreTargets}
use Rattle.pc_kernel.specs.Sound.{IsThreadRow, IsCpuRow}
use Rattle.pc_kernel.proofs.Items.{IsNext, items_of_longer, tellable_push}
use Rattle.pc_kernel.proofs.Slots.{slice_get_map_some}

-- the kinds of a thread's messages
abbrev pub kinds_in : List ThreadRow → ℕ → List Kind
kinds_in threads t = option_map_or (λ row. row.kinds) (slice_get threads t) []

-- every history goes on from the old one, and no thread leaves a CPU
pub record Grows (old new : List ThreadRow) : Type 0 where
  pub count : length old ≤ length new
  pub each : (t : ℕ) → (more : List Kind) × (kinds_in new t ≡ kinds_in old t ++ more)
  pub place : (t c : ℕ) → place_in old t ≡ Some c → place_in new t ≡ Some c

pub slice_get_append : {X : Type 0} (xs ys : List X) (i : ℕ) (x : X) → slice_get xs i ≡ Some x → slice_get (xs ++ ys) i ≡ Some x
slice_get_append [] ys i x e = cc
slice_get_append (z ∷ xs) ys zero x e = e
slice_get_append (z ∷ xs) ys (suc i) x e = slice_get_append xs ys i x e

kind_at_append : (ks more : List Kind) (n : ℕ) (kind : Kind) → kind_at ks n ≡ Some kind → kind_at (ks ++ more) n ≡ Some kind
kind_at_append ks more n kind e =
    elim (n == 0) as (λ b. cond b None (slice_get ks (n - 1)) ≡ Some kind → cond b None (slice_get (ks ++ more) (n - 1)) ≡ Some kind) [
      | true ↦ λ h. h
      | false ↦ λ h. slice_get_append ks more (n - 1) kind h
    ] e

-- the number after the last
last_element : {X : Type 0} (xs : List X) (x : X) → slice_get (xs ++ x ∷ []) (length xs) ≡ Some x
last_element [] x = refl
last_element (y ∷ xs) x = last_element xs x

pub kind_at_last : (ks : List Kind) (kind : Kind) (n : ℕ) → n ≡ length ks + 1 → kind_at (ks ++ kind ∷ []) n ≡ Some kind
kind_at_last ks kind n e =
    let some : (n == 0) ≡ false = grind (arith, nat_tests) in
    let before : n - 1 ≡ length ks = omega arith in
    rw (some, before) (last_element ks kind)

grown : (old new : List ThreadRow) → Grows old new → (t n : ℕ) (kind : Kind) → kind_at (kinds_in old t) n ≡ Some kind → kind_at (kinds_in new t) n ≡ Some kind
grown old new g t n kind e = rw (g.each t).1 (kind_at_append (kinds_in old t) (g.each t).0 n kind e)

-- the rows of CPUs after a post
pub posted_at : (old new : List CpuEntry) (q : ℕ) (it : Item) (landing : Landing) (h : IsPosted old new q it landing) (c : ℕ) (f : CpuEntry) → slice_get new c ≡ Some f
    → (e : CpuEntry) × (slice_get old c ≡ Some e) × (roused_entry h.entry.target c (given_entry q it c e) ≡ f)
posted_at old new q it landing h c f e =
    go (slice_get old c) (sym (h.each c) ∙ e)
  where
    go : (o : Option CpuEntry) → option_map (λ e. roused_entry h.entry.target c (given_entry q it c e)) o ≡ Some f → (e : CpuEntry) × (o ≡ Some e) × (roused_entry h.entry.target c (given_entry q it c e) ≡ f)
    go None e = cc
    go (Some x) e = (x, refl, same_Some (roused_entry h.entry.target c (given_entry q it c x)) f e)

-- the row of a CPU that was not posted to, and of the one that was
row_kept : (old new : List ThreadRow) (limits : Limits) (cpus others : List CpuEntry) (e : CpuEntry) (asleep : Bool) → Grows old new → IsCpuRow (rows limits old cpus) (row_of e)
    → IsCpuRow (rows limits new others) (record (row_of e) { asleep = asleep })
row_kept old new limits cpus others e asleep g h = record {
  room = h.room;
  held = h.held;
  posts = h.posts;
  target = h.target;
  on = λ t on. let l = h.on t on in let c = g.count in omega arith;
  of_run = items_of_longer (kinds_in old) (kinds_in new) e.queue.items (grown old new g) h.of_run;
  tellable = h.tellable;
}

row_given : (old new : List ThreadRow) (limits : Limits) (cpus others : List CpuEntry) (e : CpuEntry) (it : Item) (asleep : Bool) → Grows old new → IsCpuRow (rows limits old cpus) (row_of e)
    → e.queue.room ≡ limits.room → e.queue.most ≡ limits.posts → length e.queue.items < e.queue.room → e.queue.posts < e.queue.most
    → IsNext (kinds_in new) it
    → IsCpuRow (rows limits new others) record { posts = e.queue.posts + 1; content = e.queue.items ++ it ∷ []; target = e.target; on = e.running; asleep = asleep }
row_given old new limits cpus others e it asleep g h room most fits spare next =
    let l : length (e.queue.items ++ it ∷ []) ≡ length e.queue.items + 1 = length_push e.queue.items it in
    let held = h.held in
    let both = tellable_push (kinds_in new) e.queue.items it (items_of_longer (kinds_in old) (kinds_in new) e.queue.items (grown old new g) h.of_run) h.tellable next in
    record {
      room = omega arith;
      held = omega arith;
      posts = omega arith;
      target = h.target;
      on = λ t on. let below = h.on t on in let c = g.count in omega arith;
      of_run = both.0;
      tellable = both.1;
    }

row_posted : (old new : List ThreadRow) (limits : Limits) (cpus others : List CpuEntry) (agent : Option ℕ) (q : ℕ) (it : Item) (c : ℕ) (e : CpuEntry) → Grows old new → IsCpuRow (rows limits old cpus) (row_of e)
    → e.queue.room ≡ limits.room → e.queue.most ≡ limits.posts → (c ≡ q → (length e.queue.items < e.queue.room) × (e.queue.posts < e.queue.most))
    → IsNext (kinds_in new) it
    → IsCpuRow (rows limits new others) (row_of (roused_entry agent c (given_entry q it c e)))
row_posted old new limits cpus others agent q it c e g h room most fits next =
    elim (eqb_tells c q) [
      | inl at ↦ rw at.0 (row_given old new limits cpus others e it _ g h room most (fits at.1).0 (fits at.1).1 next)
      | inr at ↦ rw at.0 (row_kept old new limits cpus others e _ g h)
    ]

-- a queue's room and posts stay
limits_kept : (agent : Option ℕ) (q : ℕ) (it : Item) (c : ℕ) (e : CpuEntry) (limits : Limits) → (e.queue.room ≡ limits.room) × (e.queue.most ≡ limits.posts)
    → ((roused_entry agent c (given_entry q it c e)).queue.room ≡ limits.room) × ((roused_entry agent c (given_entry q it c e)).queue.most ≡ limits.posts)
limits_kept agent q it c e limits h = elim (eqb_tells c q) [ inl at ↦ rw at.0 h | inr at ↦ rw at.0 h ]

-- a post moves no thread
pub running_kept : (agent : Option ℕ) (q : ℕ) (it : Item) (c : ℕ) (e : CpuEntry) → e.running ≡ (roused_entry agent c (given_entry q it c e)).running
running_kept agent q it c e = elim (eqb_tells c q) [ inl at ↦ rw at.0 refl | inr at ↦ rw at.0 refl ]

-- what holds of a kernel holds after a post, where its histories go on and hold what was told
pub kernel_posted : (limits : Limits) (old new : List ThreadRow) (cpus others : List CpuEntry) (q : ℕ) (it : Item) (landing : Landing) → IsKernel limits old cpus → IsPosted cpus others q it landing
    → Grows old new → length new ≤ limits.threads → ((t : ℕ) (row : ThreadRow) → slice_get new t ≡ Some row → IsThreadRow (rows limits new others) row)
    → IsNext (kinds_in new) it → IsKernel limits new others
kernel_posted limits old new cpus others q it landing k h g few threads next =
    let same : length (map row_of others) ≡ length (map row_of cpus) = length-map others row_of ∙ h.count ∙ sym (length-map cpus row_of) in
    record {
      sound = record {
        limits = k.sound.limits;
        cpus = same ∙ k.sound.cpus;
        threads = few;
        thread = threads;
        cpu = λ c row e.
            let after = slice_get_map_some row_of others c row e in
            let before = posted_at cpus others q it landing h c after.0 after.1 in
            let has = k.queues c before.0 before.1 in
            let P : CpuRow → Type 0 = IsCpuRow (rows limits new others) in
            subst P (ap row_of before.2 ∙ after.2) (
            row_posted old new limits cpus others h.entry.target q it c before.0 g (k.sound.cpu c (row_of before.0) (slice_get-map row_of cpus c ∙ ap (option_map row_of) before.1)) has.0 has.1
            (λ at. let is : h.entry ≡ before.0 = same_Some h.entry before.0 (sym h.there ∙ ap (slice_get cpus) (sym at) ∙ before.1) in rw (← is) (h.room, h.posts)) next);
      };
      queues = λ c f e.
          let before = posted_at cpus others q it landing h c f e in
          let P : CpuEntry → Type 0 = λ f. (f.queue.room ≡ limits.room) × (f.queue.most ≡ limits.posts) in
          subst P before.2 (limits_kept h.entry.target q it c before.0 limits (k.queues c before.0 before.1));
      placed = λ c t f e on.
          let before = posted_at cpus others q it landing h c f e in
          g.place t c (k.placed c t before.0 before.1 (running_kept h.entry.target q it c before.0 ∙ ap (λ (e : CpuEntry). e.running) before.2 ∙ on));
    }

-- whom each queue wakes is there
pub are_targets : (limits : Limits) (threads : List ThreadRow) (cpus : List CpuEntry) → IsKernel limits threads cpus → AreTargets cpus
are_targets limits threads cpus k q c e there is =
    let below : c < limits.cpus = (k.sound.cpu q (row_of e) (slice_get-map row_of cpus q ∙ ap (option_map row_of) there)).target c is in
    let n : length cpus ≡ limits.cpus = sym (length-map cpus row_of) ∙ k.sound.cpus in
    omega arith
