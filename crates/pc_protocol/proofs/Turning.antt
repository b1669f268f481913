-- What a stage of a turn does to a world, put together of what each of its events does.
use Rattle.std.specs.List.{list_any}
use Rattle.std.proofs.Common.{◌≡◌, ◌⊎◌, ◌==◌, ℕ, zero, suc, ◌+◌, ◌<◌, get_or, Bool, true, false, ◌&&◌, List, [], ◌∷◌, ◌++◌, length, take, Option, Some, None, option_map, slice_get, nat_lt, if◌then◌else◌, ◌||◌, refl, sym, ◌∙◌, ap, subst, inl, inr, arith}
use Rattle.std.proofs.lemmas.Bool.{false≢true}
use Rattle.std.proofs.lemmas.Option.{slice_get-get_or}
use Rattle.std.specs.Option.{option_map_or}
use Rattle.pc_messages.specs.Items.{pairs_in}
use Rattle.pc_messages.specs.declared.message.Item.{Item}
use Rattle.pc_messages.specs.declared.message.Message.{Message}
use Rattle.pc_messages.specs.declared.message.Item.TheVariants as item
use Rattle.pc_calls.specs.declared.event.Event.TheVariants as event
use Rattle.pc_calls.specs.declared.event.Reply.{Reply}
use Rattle.pc_calls.specs.declared.event.Reply.TheVariants as reply
use Rattle.pc_calls.specs.declared.refusal.Refusal.{Refusal}
use Rattle.pc_calls.specs.declared.refusal.Refusal.TheVariants as refusal
use Rattle.pc_world.specs.PlainWorld.{PlainWorld}
use Rattle.pc_kernel.specs.PlainKernel.{PlainKernel, aseq, content, kinds}
use Rattle.pc_kernel.specs.Answers.{Shows}
use Rattle.pc_kernel.specs.Reads.{aseq_of, content_read, cpu_row, is_cpu, seen, shown}
use Rattle.pc_kernel.specs.Rows.{KernelRows}
use Rattle.pc_delta.specs.declared.part.Part.{Part}
use Rattle.pc_delta.specs.declared.part.Part.TheVariants as part
use Rattle.pc_delta.specs.Parts.{set_of, set_of_part, thread_of_part}
use Rattle.pc_join.specs.Ranges.{numbers_to}
use Rattle.pc_join.specs.Sets.{IsSameSet, as_members, has}
use Rattle.pc_thread_view.specs.Told.{only}
use Rattle.pc_view.specs.declared.view.View.{View}
use Rattle.pc_view.specs.Prefixes.{reported_in, reports}
use Rattle.pc_view.specs.Views.{IsOfRun, pairs_of}
use Rattle.pc_run_queue.specs.Runs.{may_run}
use Rattle.pc_messages.specs.Run.{Run}
use Rattle.pc_messages.specs.State.{state_of}
use Rattle.pc_messages.specs.declared.reported.Reported.{Reported}
use Rattle.pc_messages.proofs.Bools.{first_true}
use Rattle.pc_calls.specs.declared.call.Posted.{Posted}
use Rattle.pc_world.proofs.Sent.{sent_at, sent_length}
use Rattle.std.proofs.lemmas.Bool.Decides.{nat_tests}
use Rattle.pc_world.specs.Shows.{AreSent, Does, IsReached, IsViewAt, ShowsWorld, World}
use Rattle.pc_world.specs.Steps.{Step}
use Rattle.pc_protocol.specs.Protocol.{Acts, IsUrgent, TakesIn, is_late, picked, stole, tells_none}
use Rattle.pc_protocol.specs.Protocol.{refused as steal_refused}
use Rattle.pc_protocol.specs.declared.turns.Look.{Look}
use Rattle.pc_protocol.specs.Turning.{ActsOn, LooksAt, Steals, StealsOn, TakesInAll, failed, finds_none, offers_as, offers_in, took}
use Rattle.pc_protocol.proofs.Going.{StealTells, steal_tells}

-- items tell nothing where those in front and those behind do not
pub tells_none_both : (near far : List Item) → tells_none (pairs_in (near ++ far)) ≡ (tells_none (pairs_in near) && tells_none (pairs_in far))
tells_none_both [] far = refl
tells_none_both (item.Thread m ∷ near) far = refl
tells_none_both (item.Tick c ∷ near) far = tells_none_both near far

module _ (c n : ℕ) where
  pub acts_picked : (a b d : World) (taken told : Reply) → Does (λ w. Step w (event.Consume c)) a b taken → Does (λ w. Step w (event.Pick c n)) b d told
      → (told ≡ reply.Refused refusal.NothingReady → ⊥) → ActsOn c n a d false
  acts_picked a b d taken told first second some w h =
      let x = first w h in let y = second x.0 x.2 in (y.0, picked taken told (x.0, x.1, (y.0, y.1, refl)) some, y.2)

  pub acts_stole : (a b d e : World) (taken told : Reply) (asking : Bool) → Does (λ w. Step w (event.Consume c)) a b taken → Does (λ w. Step w (event.Pick c n)) b d told
      → told ≡ reply.Refused refusal.NothingReady → StealsOn c n d e asking → ActsOn c n a e asking
  acts_stole a b d e taken told asking first second none third w h =
      let x = first w h in
      let y = second x.0 x.2 in
      let z = third y.0 y.2 in
      (z.0, behind w x.0 y.0 z.0 taken asking x.1 (subst (λ r. Step x.0 (event.Pick c n) r y.0) none y.1) z.1, z.2)
    where
      behind : (w u v z : PlainWorld) (taken : Reply) (asking : Bool) → Step w (event.Consume c) taken u → Step u (event.Pick c n) (reply.Refused refusal.NothingReady) v → Steals v c n asking z → Acts w c n asking z
      behind w u v z taken asking x y (took queue thread again runs) = stole taken (reply.Refused refusal.NothingReady) again queue thread (u, x, (v, y, runs))
      behind w u v z taken asking x y (failed why step) = steal_refused taken why (u, x, (v, y, (z, step, refl)))

  pub stole_on : (a b d : World) (queue thread : ℕ) (again : Reply) → Does (λ w. Step w (event.Steal c)) a b (reply.Associated queue thread) → Does (λ w. Step w (event.Pick c n)) b d again
      → StealsOn c n a d false
  stole_on a b d queue thread again first second w h =
      let x = first w h in let y = second x.0 x.2 in (y.0, took queue thread again (x.0, x.1, (y.0, y.1, refl)), y.2)

  pub failed_on : (a b : World) (why : Refusal) → Does (λ w. Step w (event.Steal c)) a b (reply.Refused why) → StealsOn c n a b (is_late why)
  failed_on a b why first w h = let x = first w h in (x.0, failed why x.1, x.2)

  -- a steal is replied nothing else
  pub steal_told : (a b : World) (told : Reply) → IsReached a → Does (λ w. Step w (event.Steal c)) a b told → StealTells told
  steal_told a b told h does = let x = does h.plain h.shows in steal_tells h.plain x.0 c told x.1

  -- one delta more is taken in
  takes_in_more : (w v u : PlainWorld) (ks : List ℕ) (k : ℕ) (told : Reply) → TakesIn c w ks v → Step v (event.Deliver c k) told u → TakesIn c w (ks ++ k ∷ []) u
  takes_in_more w v u [] k told h step = (u, told, subst (λ from. Step from (event.Deliver c k) told u) h step, refl)
  takes_in_more w v u (j ∷ ks) k told h step = (h.0, h.1, h.2, takes_in_more h.0 v u ks k told h.3 step)

  pub takes_none : (a : World) → TakesInAll c [] a a
  takes_none a w h = (w, refl, h)

  pub takes_more : (a b d : World) (ks : List ℕ) (k : ℕ) (told : Reply) → TakesInAll c ks a b → Does (λ w. Step w (event.Deliver c k)) b d told → TakesInAll c (ks ++ k ∷ []) a d
  takes_more a b d ks k told first next w h =
      let x = first w h in let y = next x.0 x.2 in (y.0, takes_in_more w x.0 y.0 ks k told x.1 y.1, y.2)

-- items tell something where one of them is a message
pub one_tells : (items : List Item) (i : ℕ) (m : Message) → slice_get items i ≡ Some (item.Thread m) → false ≡ tells_none (pairs_in items)
one_tells [] i m e = cc
one_tells (item.Thread n ∷ items) i m e = refl
one_tells (item.Tick c ∷ items) zero m e = cc
one_tells (item.Tick c ∷ items) (suc i) m e = one_tells items i m e

-- one tick more tells nothing
pub tick_more : (items : List Item) (i c : ℕ) → slice_get items i ≡ Some (item.Tick c) → tells_none (pairs_in (take i items)) ≡ true → tells_none (pairs_in (take (i + 1) items)) ≡ true
tick_more items i c e h = subst (λ j. tells_none (pairs_in (take j items)) ≡ true) next (go items i e h)
  where
    next : suc i ≡ i + 1
    next = omega arith

    go : (items : List Item) (i : ℕ) → slice_get items i ≡ Some (item.Tick c) → tells_none (pairs_in (take i items)) ≡ true → tells_none (pairs_in (take (suc i) items)) ≡ true
    go [] i e h = refl
    go (item.Thread n ∷ items) zero e h = cc
    go (item.Tick d ∷ items) zero e h = refl
    go (item.Thread n ∷ items) (suc i) e h = cc
    go (item.Tick d ∷ items) (suc i) e h = go items i e h

pub none_found : (told : Reply) → finds_none told ≡ true → told ≡ reply.Refused refusal.NothingReady
none_found (reply.Refused refusal.NothingReady) e = refl
none_found (reply.Refused why) e = cc
none_found told e = cc

pub some_found : (told : Reply) → finds_none told ≡ false → told ≡ reply.Refused refusal.NothingReady → ⊥
some_found told e is = false≢true (sym e ∙ ap finds_none is)

-- what is read of a CPU that is there
module _ (P : PlainKernel) (c : ℕ) where
  pub count_read : (n : ℕ) → aseq_of (shown P) c ≡ Some n → (is_cpu (shown P) c ≡ true) × (n ≡ aseq P c)
  count_read n = elim (nat_lt c P.limits.cpus) as (λ b. option_map (λ row. row.posts) (if b then Some (cpu_row P c) else None) ≡ Some n → (b ≡ true) × (n ≡ aseq P c)) [ true ↦ λ e. (refl, cc) | false ↦ λ e. absurd (let no : ⊥ = cc in no) ]

  pub no_count : aseq_of (shown P) c ≡ None → is_cpu (shown P) c ≡ false
  no_count = elim (nat_lt c P.limits.cpus) as (λ b. option_map (λ row. row.posts) (if b then Some (cpu_row P c) else None) ≡ None → b ≡ false) [ true ↦ λ e. absurd (let no : ⊥ = cc in no) | false ↦ λ e. refl ]

  pub content_of : is_cpu (shown P) c ≡ true → content_read (shown P) c ≡ content P c
  content_of e = ap (λ b. option_map_or (λ row. row.content) (if b then Some (cpu_row P c) else None) []) e

-- parts that tell of threads, none of which is one for a CPU to take
pub parts_more : (f : Part → Bool) (parts : List Part) (i : ℕ) (part : Part) → slice_get parts i ≡ Some part → f part ≡ false → list_any f (take i parts) ≡ false → list_any f (take (i + 1) parts) ≡ false
parts_more f parts i part e void h = subst (λ j. list_any f (take j parts) ≡ false) next (go parts i e h)
  where
    next : suc i ≡ i + 1
    next = omega arith

    go : (parts : List Part) (i : ℕ) → slice_get parts i ≡ Some part → list_any f (take i parts) ≡ false → list_any f (take (suc i) parts) ≡ false
    go [] i e h = refl
    go (p ∷ parts) zero e h = let same : p ≡ part = cc in let first : f p ≡ false = ap f same ∙ void in ap (λ b. b || false) first
    go (p ∷ parts) (suc i) e h = elim (f p) as (λ b. b || list_any f (take i parts) ≡ false → b || list_any f (take (suc i) parts) ≡ false) [ true ↦ λ k. k | false ↦ λ k. go parts i e k ] h

pub item_at : (items : List Item) (i : ℕ) (it d : Item) → i < length items → it ≡ get_or items i d → slice_get items i ≡ Some it
item_at items i it d low e = slice_get-get_or items i d low ∙ ap Some (sym e)

pub part_at : (parts : List Part) (i : ℕ) (it d : Part) → i < length parts → it ≡ get_or parts i d → slice_get parts i ≡ Some it
part_at parts i it d low e = slice_get-get_or parts i d low ∙ ap Some (sym e)

-- a reply that is no thread taken over, and no refusal
abbrev pub Else : Reply → Type 0
Else told =
    (told ≡ reply.Done)
    ⊎ (((posted : Posted) × (told ≡ reply.Posted posted))
    ⊎ (((cpu : ℕ) × (thread : ℕ) × (told ≡ reply.Committed cpu thread))
    ⊎ (((delta : ℕ) × (items : ℕ) × (told ≡ reply.Published delta items))
    ⊎ (((items : ℕ) × (told ≡ reply.Consumed items)) ⊎ ((delta : ℕ) × (told ≡ reply.Answered delta))))))

pub not_else : (told : Reply) → StealTells told → Else told → ⊥
not_else told (inl taken) (inl e) = let t = taken.2 in cc
not_else told (inl taken) (inr (inl e)) = let t = taken.2 in let u = e.1 in cc
not_else told (inl taken) (inr (inr (inl e))) = let t = taken.2 in let u = e.2 in cc
not_else told (inl taken) (inr (inr (inr (inl e)))) = let t = taken.2 in let u = e.2 in cc
not_else told (inl taken) (inr (inr (inr (inr (inl e))))) = let t = taken.2 in let u = e.1 in cc
not_else told (inl taken) (inr (inr (inr (inr (inr e))))) = let t = taken.2 in let u = e.1 in cc
not_else told (inr why) (inl e) = let t = why.1 in cc
not_else told (inr why) (inr (inl e)) = let t = why.1 in let u = e.1 in cc
not_else told (inr why) (inr (inr (inl e))) = let t = why.1 in let u = e.2 in cc
not_else told (inr why) (inr (inr (inr (inl e)))) = let t = why.1 in let u = e.2 in cc
not_else told (inr why) (inr (inr (inr (inr (inl e))))) = let t = why.1 in let u = e.1 in cc
not_else told (inr why) (inr (inr (inr (inr (inr e))))) = let t = why.1 in let u = e.1 in cc

-- no queue was read, since the CPU is not there
pub not_looked : (c : ℕ) (old : World) (k : KernelRows) (count : Option ℕ) → ((w : PlainWorld) → ShowsWorld old w → Shows k w.kernel) → count ≡ aseq_of (seen k) c → ((n : ℕ) → count ≡ Some n → ⊥)
    → (w : PlainWorld) → ShowsWorld old w → is_cpu (shown w.kernel) c ≡ false
not_looked c old k None shows read none w h = no_count w.kernel c (sym (read ∙ ap (λ r. aseq_of r c) (shows w h).reads))
not_looked c old k (Some n) shows read none w h = absurd (none n refl)

-- a queue was read, and its items were sent
pub looked : (c : ℕ) (old new : World) (k : KernelRows) (sent : List (List Part)) (look : Look) (told : Reply) → ((w : PlainWorld) → ShowsWorld old w → Shows k w.kernel) → Some look.aseq ≡ aseq_of (seen k) c
    → (is_cpu (seen k) c ≡ true → look.is_void ≡ tells_none (pairs_in (content_read (seen k) c))) → ((w : PlainWorld) → ShowsWorld old w → AreSent (kinds w.kernel) w.sent sent) → look.delta ≡ length sent
    → Does (λ w. Step w (event.Publish c false)) old new told → LooksAt c old new (Some look)
looked c old new k sent look told shows count void tell delta does w h =
    let same = (shows w h).reads in
    let read = count_read w.kernel c look.aseq (sym (count ∙ ap (λ r. aseq_of r c) same)) in
    let seen_there : is_cpu (seen k) c ≡ true = ap (λ r. is_cpu r c) same ∙ read.0 in
    let did = does w h in (
      did.0,
      record {
        there = read.0;
        told = told;
        step = did.1;
        aseq = read.1;
        delta = delta ∙ sent_length (kinds w.kernel) w.sent sent (tell w h);
        void = void seen_there ∙ ap (λ l. tells_none (pairs_in l)) (ap (λ r. content_read r c) same ∙ content_of w.kernel c read.0);
      },
      did.2,
    )

-- the thread of a part that tells a message is that of the message
pub part_thread : (part : Part) (t n : ℕ) → set_of_part part (t ∷ n ∷ []) ≡ true → t ≡ thread_of_part part
part_thread (part.One message) t n e = let yes : (t == message.thread) ≡ true = first_true (t == message.thread) (only message.number (n ∷ [])) e in grind (arith, nat_tests)
part_thread (part.Folded thread upto reported) t n e = let yes : (t == thread) ≡ true = first_true (t == thread) (numbers_to upto (n ∷ [])) e in grind (arith, nat_tests)

neither_first : (a b : Bool) → (a || b) ≡ false → a ≡ false
neither_first true b e = e
neither_first false b e = refl

neither_second : (a b : Bool) → (a || b) ≡ false → b ≡ false
neither_second true b e = cc
neither_second false b e = e

-- a thread of which some part tells is none for a CPU to take, where that is so of each part's
pub quiet_of : (offers : ℕ → Bool) (parts : List Part) (t n : ℕ) → list_any (λ part. offers (thread_of_part part)) parts ≡ false → set_of parts (t ∷ n ∷ []) ≡ true → offers t ≡ false
quiet_of offers [] t n none told = cc
quiet_of offers (part ∷ parts) t n none told =
    let m = t ∷ n ∷ [] in
    let f = λ (it : Part). offers (thread_of_part it) in
    elim (set_of_part part m) as (λ b. set_of_part part m ≡ b → offers t ≡ false) [
      | true ↦ λ e. ap offers (part_thread part t n e) ∙ neither_first (f part) (list_any f parts) none
      | false ↦ λ e. quiet_of offers parts t n (neither_second (f part) (list_any f parts) none) (ap (λ b. b || set_of parts m) (sym e) ∙ told)
    ] refl

-- a thread that a view offers no CPU may not run there, and its first message is known
not_offered : (o : Option Reported) (c : ℕ) → offers_as o c ≡ false → may_run o c ≡ false
not_offered None c e = refl
not_offered (Some state) c e = e

offers_none : (o : Option Reported) (c : ℕ) → o ≡ None → offers_as o c ≡ true
offers_none o c e = ap (λ o. offers_as o c) e

module _ (reported_law : (run : Run) (set : List (ℕ × ℕ)) (view : View) (t : ℕ) → IsOfRun run view → IsSameSet (pairs_of view) (as_members set) → reported_in view t ≡ reports run set t) where
  pub nothing_urgent : (world : World) (view : View) (c k to : ℕ) (sent : List (List Part)) (delta : List Part) → ((w : PlainWorld) → ShowsWorld world w → IsViewAt w c (Some view))
      → ((w : PlainWorld) → ShowsWorld world w → AreSent (kinds w.kernel) w.sent sent) → slice_get sent k ≡ Some delta → list_any (λ part. offers_in view (thread_of_part part) to) delta ≡ false
      → (w : PlainWorld) → ShowsWorld world w → IsUrgent w c k to → ⊥
  nothing_urgent world view c k to sent delta shows tell there none w h urgent =
      let run = kinds w.kernel in
      let known = (w.agents c).known in
      let t = urgent.1 in
      let n = urgent.2 in
      let same = (shows w h).1 in
      let found = sent_at run w.sent sent k delta (tell w h) there in
      let set_is : found.0 ≡ urgent.0 = (let a = found.1 in let b = urgent.3 in cc) in
      let tells : set_of delta (t ∷ n ∷ []) ≡ true = found.2.told (t ∷ n ∷ []) ∙ ap (λ s. has s t n) set_is ∙ urgent.4 in
      let quiet : offers_in view t to ≡ false = quiet_of (λ thread. offers_in view thread to) delta t n none tells in
      let law = reported_law run known view t same.of_run same.known in
      elim urgent.5 [
        | inl unknown ↦
            let nothing : reports run known t ≡ None = ap (λ m. state_of (take m (run t))) unknown in
            false≢true (sym quiet ∙ offers_none (reported_in view t) to (law ∙ nothing))
        | inr runs ↦ false≢true (sym (not_offered (reported_in view t) to quiet) ∙ ap (λ o. may_run o to) law ∙ runs)
      ]

pub delta_at : (deltas : List (List Part)) (i : ℕ) (it d : List Part) → i < length deltas → it ≡ get_or deltas i d → slice_get deltas i ≡ Some it
delta_at deltas i it d low e = slice_get-get_or deltas i d low ∙ ap Some (sym e)

pub take_next : (xs : List ℕ) (i d : ℕ) → i < length xs → take (i + 1) xs ≡ take i xs ++ get_or xs i d ∷ []
take_next xs i d low = ap (λ j. take j xs) (let next : i + 1 ≡ suc i = omega arith in next) ∙ go xs i low
  where
    go : (xs : List ℕ) (i : ℕ) → i < length xs → take (suc i) xs ≡ take i xs ++ get_or xs i d ∷ []
    go [] i low = absurd (omega arith)
    go (x ∷ xs) zero low = refl
    go (x ∷ xs) (suc i) low = ap (λ l. x ∷ l) (go xs i (omega arith))
