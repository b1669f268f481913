-- An idle CPU for which a thread waits can be made to run one.
use Rattle.std.proofs.Common.{◌≡◌, ℕ, suc, ◌<◌, ◌==◌, Bool, true, false, nat_lt, not, List, [], ◌∷◌, ◌++◌, length, Option, Some, None, is_some, unwrap_or, refl, sym, ◌∙◌, ap, subst, arith, if◌then◌else◌}
use Rattle.std.specs.List.{list_any}
use Rattle.std.specs.Option.{option_map_or, option_and_then}
use Rattle.std.proofs.lemmas.Bool.Decides.{nat_tests}
use Rattle.pc_messages.specs.Items.{is_of}
use Rattle.pc_messages.specs.Mask.{allows}
use Rattle.pc_messages.specs.State.{phase_of, mask_of}
use Rattle.pc_messages.specs.declared.kind.Kind.{Kind}
use Rattle.pc_messages.specs.declared.reported.Phase.{Phase}
use Rattle.pc_messages.specs.declared.reported.Phase.TheVariants as phase
use Rattle.pc_calls.specs.AgentCalls.{associates, commits}
use Rattle.pc_calls.specs.Conditions.{first_of}
use Rattle.pc_calls.specs.Events.{told_of}
use Rattle.pc_calls.specs.declared.call.AgentCall.TheVariants as agent_call
use Rattle.pc_calls.specs.declared.call.Answer.TheVariants.{Done}
use Rattle.pc_calls.specs.declared.limits.Limits.{Limits}
use Rattle.pc_calls.specs.declared.event.Event.TheVariants as event
use Rattle.pc_calls.specs.declared.event.Reply.TheVariants as replies
use Rattle.pc_calls.specs.declared.refusal.Refusal.{Refusal}
use Rattle.pc_calls.specs.declared.refusal.Refusal.TheVariants as refusals
use Rattle.pc_kernel.specs.Exact.{ReadsArePlain}
use Rattle.pc_kernel.specs.PlainKernel.{PlainKernel, aseq, content, is_known, kinds, number}
use Rattle.pc_kernel.specs.Reads.{shown, is_cpu, is_pending, cpu_row, thread_row, is_allowed_on}
use Rattle.pc_kernel.specs.Reads as reads
use Rattle.pc_kernel.specs.Rows.{CpuRow, ThreadRow}
use Rattle.pc_kernel.specs.Steps.{after, after_of, at, changed, is_dead, is_ready, refused, reply, reply_of}
use Rattle.pc_world.specs.Mending.{IsIdle, LeadTo, RunsThis, WaitsFor, clearing, mending_for}
use Rattle.pc_world.specs.PlainWorld.{PlainWorld}
use Rattle.pc_world.specs.Steps.{Runs}
use Rattle.pc_world.specs.Inner.Laws.{KernelLaws}
use Rattle.pc_world.proofs.Clearing.{clear, runs_append}
use Rattle.pc_world.proofs.Good.{IsGood}
use Rattle.pc_world.proofs.Places.{at_same}
use Rattle.pc_world.proofs.Taken.{pass}

known_by_phase : (ks : List Kind) → phase_of ks ≡ Some phase.Ready → nat_lt 0 (length ks) ≡ true
known_by_phase [] e = cc
known_by_phase (k ∷ ks) e = some (length ks)
  where
    some : (n : ℕ) → nat_lt 0 (suc n) ≡ true
    some n = grind (arith, nat_tests)

pub equal : (n m : ℕ) → n ≡ m → (n == m) ≡ true
equal n m e = grind (arith, nat_tests)

dead_ready : (p : Option Phase) → p ≡ Some phase.Ready → (is_dead p ≡ false) × (is_ready p ≡ true)
dead_ready None e = cc
dead_ready (Some phase.Ready) e = (refl, refl)
dead_ready (Some phase.Blocked) e = cc
dead_ready (Some phase.Dead) e = cc

-- what is read of a thread that waits for a CPU
module _ (plain : ReadsArePlain) (P : PlainKernel) (c t : ℕ) (h : WaitsFor P c t) where
  pub is_there : is_known P t ≡ true
  is_there = known_by_phase (kinds P t) h.ready

  pub read_there : reads.is_known (shown P) t ≡ true
  read_there = (plain P).known t ∙ is_there

  pub read_phase : reads.phase (shown P) t ≡ Some phase.Ready
  read_phase = ap phase_of ((plain P).kinds t) ∙ h.ready

  pub read_place : reads.place (shown P) t ≡ None
  read_place = by_known (is_known P t)
    where
      by_known : (b : Bool) → option_and_then (λ (row : ThreadRow). row.on) (if b then Some (thread_row P t) else None) ≡ None
      by_known true = h.nowhere
      by_known false = refl

-- of six conditions none holds
six_none : (a b c d e f : Bool) (u v x y z s : Refusal) → a ≡ false → b ≡ false → c ≡ false → d ≡ false → e ≡ false → f ≡ false
    → first_of ((a, u) ∷ (b, v) ∷ (c, x) ∷ (d, y) ∷ (e, z) ∷ (f, s) ∷ []) ≡ None
six_none a b c d e f u v x y z s p q r m n o =
    pass a u ((b, v) ∷ (c, x) ∷ (d, y) ∷ (e, z) ∷ (f, s) ∷ []) p
    (pass b v ((c, x) ∷ (d, y) ∷ (e, z) ∷ (f, s) ∷ []) q
    (pass c x ((d, y) ∷ (e, z) ∷ (f, s) ∷ []) r (pass d y ((e, z) ∷ (f, s) ∷ []) m (pass e z ((f, s) ∷ []) n (pass f s [] o refl)))))

-- the call that takes over a thread that waits, of which no message does
pub taking_accepted : ReadsArePlain → (P : PlainKernel) (c t n : ℕ) → is_cpu (shown P) c ≡ true → WaitsFor P c t → is_pending (shown P) t ≡ false → n ≡ number P t → refused (shown P) (associates t c n) ≡ None
taking_accepted plain P c t n there h quiet is =
    let r = shown P in
    six_none (not (reads.is_known r t)) (not (is_cpu r c)) (is_dead (reads.phase r t)) (not (n == reads.number_read r t)) (is_pending r t) (is_some (reads.place r t))
    refusals.UnknownThread refusals.BadCpu refusals.Dead (refusals.Stale (reads.number_read r t)) refusals.Pending (refusals.Running (unwrap_or (reads.place r t) 0))
    (ap not (read_there plain P c t h)) (ap not there) (dead_ready (reads.phase r t) (read_phase plain P c t h)).0
    (ap not (equal n (reads.number_read r t) (is ∙ sym ((plain P).number t)))) quiet (ap is_some (read_place plain P c t h))

-- the kernel in which the thread's messages go to the CPU's queue
abbrev pub homed : PlainKernel → ℕ → ℕ → PlainKernel
homed P t c = record P { home = at P.home t c }

eight_none : (a b c d e f g h : Bool) (u v x y z s k l : Refusal) → a ≡ false → b ≡ false → c ≡ false → d ≡ false → e ≡ false → f ≡ false → g ≡ false → h ≡ false
    → first_of ((a, u) ∷ (b, v) ∷ (c, x) ∷ (d, y) ∷ (e, z) ∷ (f, s) ∷ (g, k) ∷ (h, l) ∷ []) ≡ None
eight_none a b c d e f g h u v x y z s k l p q r m n o i j =
    pass a u ((b, v) ∷ (c, x) ∷ (d, y) ∷ (e, z) ∷ (f, s) ∷ (g, k) ∷ (h, l) ∷ []) p
    (pass b v ((c, x) ∷ (d, y) ∷ (e, z) ∷ (f, s) ∷ (g, k) ∷ (h, l) ∷ []) q
    (six_none c d e f g h x y z s k l r m n o i j))

-- the call that commits it there
module _ (plain : ReadsArePlain) (P : PlainKernel) (c t : ℕ) (idle : IsIdle P c) (h : WaitsFor P c t) where
  abbrev Q : PlainKernel
  Q = homed P t c

  waits_there : WaitsFor Q c t
  waits_there = record {
    ready = h.ready;
    allowed = by_known (is_known P t) h.allowed;
    nowhere = h.nowhere;
  }
    where
      by_known : (b : Bool) → option_map_or (λ mask. allows mask c) (mask_of (option_map_or (λ (row : ThreadRow). row.kinds) (if b then Some (thread_row P t) else None) [])) false ≡ true
          → option_map_or (λ mask. allows mask c) (mask_of (option_map_or (λ (row : ThreadRow). row.kinds) (if b then Some (thread_row Q t) else None) [])) false ≡ true
      by_known true e = e
      by_known false e = e

  at_home : reads.home (shown Q) t ≡ c
  at_home = ap (λ b. option_map_or (λ (row : ThreadRow). row.home) (if b then Some (thread_row Q t) else None) 0) (is_there plain P c t h) ∙ at_same P.home t c

  pub commit_accepted : (n : ℕ) → n ≡ aseq P c → refused (shown Q) (commits c t n) ≡ None
  commit_accepted n is =
      let r = shown Q in
      let count : n ≡ reads.aseq_read r c = is ∙ sym ((plain Q).aseq c idle.there) in
      let on : reads.on r c ≡ None = (plain Q).on c idle.there ∙ idle.idle in
      eight_none (not (is_cpu r c)) (not (reads.is_known r t)) (not (n == reads.aseq_read r c)) (not (is_ready (reads.phase r t))) (not (reads.home r t == c)) (is_some (reads.place r t)) (not (is_allowed_on r t c)) (is_some (reads.on r c))
      refusals.BadCpu refusals.UnknownThread (refusals.Stale (reads.aseq_read r c)) refusals.NotReady (refusals.NotYours (reads.home r t)) (refusals.Running (unwrap_or (reads.place r t) 0)) refusals.Forbidden refusals.Busy
      (ap not idle.there) (ap not (read_there plain Q c t waits_there)) (ap not (equal n (reads.aseq_read r c) count)) (ap not (dead_ready (reads.phase r t) (read_phase plain Q c t waits_there)).1)
      (ap not (equal (reads.home r t) c at_home)) (ap is_some (read_place plain Q c t waits_there)) (ap not waits_there.allowed) (ap is_some on)

-- where every queue is empty, no message of a thread waits
module _ (plain : ReadsArePlain) (P : PlainKernel) (empty : (q : ℕ) → is_cpu (shown P) q ≡ true → content P q ≡ []) where
  read_empty : (q : ℕ) → reads.content_read (shown P) q ≡ []
  read_empty q = by_there (is_cpu (shown P) q) refl
    where
      by_there : (b : Bool) → is_cpu (shown P) q ≡ b → reads.content_read (shown P) q ≡ []
      by_there true e = (plain P).content q e ∙ empty q e
      by_there false e = ap (λ b. option_map_or (λ (row : CpuRow). row.content) (if b then Some (cpu_row P q) else None) []) e

  pub none_pending : (t : ℕ) → is_pending (shown P) t ≡ false
  none_pending t = ap (list_any (is_of t)) (read_empty (reads.home (shown P) t))

abbrev pub eating : PlainKernel → (ℕ → ℕ) → PlainKernel
eating P eaten = record P { eaten = eaten }

-- a thread waits, and a CPU idles, whatever was consumed
pub still_waits : (P : PlainKernel) (eaten : ℕ → ℕ) (c t : ℕ) → WaitsFor P c t → WaitsFor (eating P eaten) c t
still_waits P eaten c t h = record { ready = h.ready; allowed = h.allowed; nowhere = h.nowhere }

pub still_idle : (P : PlainKernel) (eaten : ℕ → ℕ) (c : ℕ) → IsIdle P c → IsIdle (eating P eaten) c
still_idle P eaten c h = record { there = h.there; idle = h.idle }

pub below_test : (a b : ℕ) → nat_lt a b ≡ true → a < b
below_test a b e = grind (arith, nat_tests)

reply_taken : (P : PlainKernel) (t c n : ℕ) → refused (shown P) (associates t c n) ≡ None → replies.Associated c t ≡ told_of (associates t c n) (reply P (associates t c n))
reply_taken P t c n accepted = sym (ap (λ o. told_of (associates t c n) (reply_of o Done)) accepted)

reply_committed : (P : PlainKernel) (c t n : ℕ) → refused (shown P) (commits c t n) ≡ None → replies.Committed c t ≡ told_of (commits c t n) (reply P (commits c t n))
reply_committed P c t n accepted = sym (ap (λ o. told_of (commits c t n) (reply_of o Done)) accepted)

-- that very thread is run
module _ (laws : KernelLaws) (limits : Limits) (w : PlainWorld) (h : IsGood limits w) (c t : ℕ) (idle : IsIdle w.kernel c) (waits : WaitsFor w.kernel c t) where
  pub run_that : LeadTo w (mending_for w c t) (RunsThis c t)
  run_that =
      let cpus = w.kernel.limits.cpus in
      let cleared = clear laws limits w h cpus (omega arith) in
      let v = cleared.new in
      let was = cleared.holds in
      let P = v.kernel in
      let waiting : WaitsFor P c t = subst (λ K. WaitsFor K c t) (sym was.kernel) (still_waits w.kernel was.eaten c t waits) in
      let idling : IsIdle P c = subst (λ K. IsIdle K c) (sym was.kernel) (still_idle w.kernel was.eaten c idle) in
      let empty : (q : ℕ) → is_cpu (shown P) q ≡ true → content P q ≡ [] =
      λ q there. was.empty q (below_test q cpus (sym (ap (λ (K : PlainKernel). is_cpu (shown K) q) was.kernel) ∙ there)) in
      let n = number w.kernel t in
      let count = aseq w.kernel c in
      let same_number : n ≡ number P t = sym (ap (λ (K : PlainKernel). number K t) was.kernel) in
      let same_count : count ≡ aseq P c = sym (ap (λ (K : PlainKernel). aseq K c) was.kernel) in
      let takes = taking_accepted laws.reads P c t n idling.there waiting (none_pending laws.reads P empty t) same_number in
      let made : after P (associates t c n) ≡ homed P t c = ap (λ o. after_of o (homed P t c) P) takes in
      let commit : refused (shown (homed P t c)) (commits c t count) ≡ None = commit_accepted laws.reads P c t idling waiting count same_count in
      let Q = after P (associates t c n) in
      let accepted : refused (shown Q) (commits c t count) ≡ None = ap (λ (K : PlainKernel). refused (shown K) (commits c t count)) made ∙ commit in
      let x : PlainWorld = record v { kernel = Q } in
      let y : PlainWorld = record x { kernel = after Q (commits c t count) } in
      let runs : (after Q (commits c t count)).on c ≡ Some t = ap (λ o. (after_of o (changed Q (commits c t count)) Q).on c) accepted ∙ at_same Q.on c (Some t) in
      let events = event.Agent (agent_call.Associate t c n) ∷ event.Agent (agent_call.Commit c t count) ∷ [] in
      let told = replies.Associated c t ∷ replies.Committed c t ∷ [] in
      let last : Runs v events told y = (x, record { tells = reply_taken P t c n takes; after = refl }, (y, record { tells = reply_committed Q c t count accepted; after = refl }, refl)) in
      record {
        replies = cleared.replies ++ told;
        new = y;
        runs = runs_append w v y (clearing cpus) events cleared.replies told cleared.runs last;
        holds = runs;
      }
