-- An agent that acts and falls asleep beside an idle CPU has taken all that it knows of, or was refused a thread late.
use Rattle.std.proofs.Common.{◌≡◌, ◌⊎◌, ◌≤◌, ◌==◌, ℕ, zero, suc, nat_lt, Bool, true, false, not, List, [], ◌∷◌, ◌++◌, length, take, Option, Some, None, is_none, is_some, unwrap_or, if◌then◌else◌, refl, sym, ◌∙◌, ap, subst, inl, inr, arith}
use Rattle.std.specs.Prelude.{◌↔◌, IsTrue}
use Rattle.std.specs.List.{filter_map}
use Rattle.std.specs.Option.{option_map_or, option_and_then}
use Rattle.std.proofs.lemmas.Bool.{MatchBool-at_true, cases_lt, false≢true}
use Rattle.pc_messages.specs.Mask.{allows}
use Rattle.pc_messages.specs.State.{phase_of, mask_of, ran_of, level_of, report, state_of}
use Rattle.pc_messages.specs.declared.reported.Phase.{Phase}
use Rattle.pc_messages.specs.declared.reported.Phase.TheVariants as phase
use Rattle.pc_calls.specs.AgentCalls.{commits}
use Rattle.pc_calls.specs.Conditions.{first_of}
use Rattle.pc_calls.specs.declared.event.Event.TheVariants as event
use Rattle.pc_calls.specs.declared.event.Reply.{Reply}
use Rattle.pc_calls.specs.declared.event.Reply.TheVariants as reply
use Rattle.pc_calls.specs.declared.limits.Limits.{Limits}
use Rattle.pc_calls.specs.declared.refusal.Refusal.{Refusal}
use Rattle.pc_calls.specs.declared.refusal.Refusal.TheVariants as refusal
use Rattle.pc_join.specs.Sets.{has}
use Rattle.pc_kernel.specs.PlainKernel.{PlainKernel, aseq, content, is_known, item_to, kinds, number, place_of}
use Rattle.pc_kernel.specs.Reads.{Reads, shown, is_cpu, is_pending, thread_row}
use Rattle.pc_kernel.specs.Reads as reads
use Rattle.pc_kernel.specs.Rows.{ThreadRow}
use Rattle.pc_kernel.specs.Steps.{after_of, is_dead, refused}
use Rattle.pc_view.specs.Prefixes.{reports, upto}
use Rattle.pc_run_queue.specs.Names.{has_name}
use Rattle.pc_run_queue.specs.Runs.{may_run, rank_told}
use Rattle.pc_agent.specs.PlainAgent.{PlainAgent, Set, is_idle, is_wanted, known_by, may_take, ready_list, standing, stealing}
use Rattle.pc_agent.specs.Running.{FindsFirst, takes_over}
use Rattle.pc_world.specs.Facts.{IsInRun}
use Rattle.pc_world.specs.Mending.{IsIdle, IsStolenBy, WaitsFor}
use Rattle.pc_world.specs.PlainWorld.{PlainWorld, with_agent}
use Rattle.pc_world.specs.Steps.{IsBadCpu, IsStolen, IsTakenOver, IsTried, Step, stealable}
use Rattle.pc_world.specs.Inner.Laws.{KernelLaws}
use Rattle.pc_world.proofs.Clearing.{good_after}
use Rattle.pc_world.proofs.Determined.{step_same}
use Rattle.pc_world.proofs.Exactly.{take_whole}
use Rattle.pc_world.proofs.Good.{IsGood}
use Rattle.pc_world.proofs.Mended.{commit_accepted, equal, homed, none_pending, read_place, read_there, taking_accepted}
use Rattle.pc_world.proofs.Mends.{pick_tells}
use Rattle.pc_world.proofs.Picking.{both_of, emptied, picks, picks_first}
use Rattle.pc_world.proofs.Places.{at_same}
use Rattle.pc_world.proofs.Staying.{idle_still, step_stays}
use Rattle.pc_world.proofs.Taken.{at_some, both}
use Rattle.pc_protocol.specs.Protocol.{Acts, is_late, picked, stole}
use Rattle.pc_protocol.specs.Protocol.{refused as steal_refused}
use Rattle.pc_protocol.proofs.Calm.{Calm, calm_on, calm_same, pick_calm, steal_calm}

-- the agent does not know some message of the thread
abbrev pub IsBehind : PlainWorld → ℕ → ℕ → Type 0
IsBehind w c t = (n : ℕ) × IsInRun (kinds w.kernel) t n × (has (w.agents c).known t n ≡ false)

-- of each thread that waits for the CPU, and that its agent would take, the agent does not know some message
abbrev pub IsOpen : PlainWorld → ℕ → Type 0
IsOpen w c = (t : ℕ) → WaitsFor w.kernel c t → IsStolenBy (w.agents c).rules w.kernel c t → IsBehind w c t

-- the thread that a steal would try is refused
abbrev pub IsLate : PlainWorld → ℕ → Type 0
IsLate w c = (t : ℕ) × FindsFirst (stealable w c) (Some t) × (refused (shown w.kernel) (takes_over c (w.agents c) t) ≡ None → ⊥)

abbrev pub IsGreatest : Type 0
IsGreatest = (set : List (ℕ × ℕ)) (t n : ℕ) → (n ≤ upto set t) ↔ ((m : ℕ) → 1 ≤ m → m ≤ n → IsTrue (has set t m))

-- all numbers up to one are in the set, or some is not
all_or_some : (set : Set) (t n : ℕ) → ((m : ℕ) → 1 ≤ m → m ≤ n → has set t m ≡ true) ⊎ ((m : ℕ) × (1 ≤ m) × (m ≤ n) × (has set t m ≡ false))
all_or_some set t zero = inl (λ m low high. absurd (omega arith))
all_or_some set t (suc n) = elim (all_or_some set t n) [
  | inr some ↦ let high = some.2 in inr (some.0, some.1, omega arith, some.3)
  | inl all ↦ by_last (has set t (suc n)) refl all
]
  where
    by_last : (b : Bool) → has set t (suc n) ≡ b → ((m : ℕ) → 1 ≤ m → m ≤ n → has set t m ≡ true)
        → ((m : ℕ) → 1 ≤ m → m ≤ suc n → has set t m ≡ true) ⊎ ((m : ℕ) × (1 ≤ m) × (m ≤ suc n) × (has set t m ≡ false))
    by_last false e all = inr (suc n, omega arith, omega arith, e)
    by_last true e all = inl (λ m low high. elim (cases_lt m (suc n)) [
      | inl below ↦ all m low (omega arith)
      | inr last ↦ let same : m ≡ suc n = omega arith in ap (has set t) same ∙ e
    ])

-- states
by_may : (p : Option Phase) (m : Option ℕ) (ran level c : ℕ) → may_run (report p m ran level) c ≡ true → (p ≡ Some phase.Ready) × (option_map_or (λ mask. allows mask c) m false ≡ true)
by_may None m ran level c e = cc
by_may (Some phase.Ready) None ran level c e = cc
by_may (Some phase.Ready) (Some mask) ran level c e = (refl, e)
by_may (Some phase.Blocked) None ran level c e = cc
by_may (Some phase.Blocked) (Some mask) ran level c e = cc
by_may (Some phase.Dead) None ran level c e = cc
by_may (Some phase.Dead) (Some mask) ran level c e = cc

pub may_by : (p : Option Phase) (m : Option ℕ) (ran level c : ℕ) → p ≡ Some phase.Ready → option_map_or (λ mask. allows mask c) m false ≡ true → may_run (report p m ran level) c ≡ true
may_by None m ran level c e f = cc
may_by (Some phase.Ready) None ran level c e f = cc
may_by (Some phase.Ready) (Some mask) ran level c e f = f
may_by (Some phase.Blocked) m ran level c e f = cc
may_by (Some phase.Dead) m ran level c e f = cc

is_none_of : (o : Option ℕ) → o ≡ None → is_none o ≡ true
is_none_of None e = refl
is_none_of (Some x) e = cc

none_of : (o : Option ℕ) → is_none o ≡ true → o ≡ None
none_of None e = refl
none_of (Some x) e = cc

stolen_by : (exact : Bool) (whole : Bool) (rank : Option ℕ) → whole ≡ true → (exact ≡ false) ⊎ (is_some rank ≡ true) → is_some (if exact then (if whole then rank else None) else Some 0) ≡ true
stolen_by false whole rank e f = refl
stolen_by true true rank e (inl g) = cc
stolen_by true true rank e (inr g) = g
stolen_by true false rank e f = cc

-- an agent that knows all messages of a thread
module _ (laws : KernelLaws) (P : PlainKernel) (c : ℕ) (p : PlainAgent) (t : ℕ) where
  abbrev R : Reads
  R = shown P

  abbrev runs : ℕ → Bool
  runs s = may_run (reports (kinds P) p.known s) c

  pub record Chosen : Type 0 where
    pub may : runs t ≡ true
    pub known : reads.is_known R t ≡ true
    pub place : reads.place R t ≡ None

  pub chosen : (place : ℕ) → stealing R (kinds P) c p t ≡ Some place → Chosen
  chosen place e =
      let some = at_some (may_take R runs p.list t) (standing p.rules R (known_by (kinds P) p.known) c t) place e in
      let wanted = both (is_wanted runs p.list t) (is_idle R t) some.0 in
      let here = both (runs t) _ wanted.0 in
      let idle = both (reads.is_known R t) (is_none (reads.place R t)) wanted.1 in
      record { may = here.0; known = idle.0; place = none_of (reads.place R t) idle.1 }

  module _ (whole : upto p.known t ≡ number P t) where
    pub reports_all : reports (kinds P) p.known t ≡ state_of (kinds P t)
    reports_all = ap state_of (ap (λ n. take n (kinds P t)) whole ∙ take_whole (kinds P t))

    may : WaitsFor P c t → runs t ≡ true
    may h =
        ap (λ s. may_run s c) reports_all
        ∙ may_by (phase_of (kinds P t)) (mask_of (kinds P t)) (ran_of (kinds P t)) (level_of (kinds P t)) c h.ready
        (ap (λ ks. option_map_or (λ mask. allows mask c) (mask_of ks) false) (sym ((laws.reads P).kinds t)) ∙ h.allowed)

    takes : WaitsFor P c t → has_name p.list t ≡ false → may_take R runs p.list t ≡ true
    takes h unlisted =
        both_of (is_wanted runs p.list t) (is_idle R t) (both_of (runs t) (not (has_name p.list t)) (may h) (ap not unlisted))
        (both_of (reads.is_known R t) (is_none (reads.place R t)) (read_there laws.reads P c t h) (is_none_of (reads.place R t) (read_place laws.reads P c t h)))

    pub stands : WaitsFor P c t → has_name p.list t ≡ false → IsStolenBy p.rules P c t → is_some (stealing R (kinds P) c p t) ≡ true
    stands h unlisted stolen =
        let known = known_by (kinds P) p.known in
        ap (λ b. is_some (if b then standing p.rules R known c t else None)) (takes h unlisted)
        ∙ stolen_by p.rules.exact (upto p.known t == reads.number_read R t) (rank_told p.rules.ranks c t (reports (kinds P) p.known t))
        (equal (upto p.known t) (reads.number_read R t) (whole ∙ sym ((laws.reads P).number t)))
        (subst (λ s. (p.rules.exact ≡ false) ⊎ (is_some (rank_told p.rules.ranks c t s) ≡ true)) (sym reports_all) stolen)

    pub waits_so : Chosen → WaitsFor P c t
    waits_so h =
        let told = by_may (phase_of (kinds P t)) (mask_of (kinds P t)) (ran_of (kinds P t)) (level_of (kinds P t)) c (ap (λ s. may_run s c) (sym reports_all) ∙ h.may) in
        record {
          ready = told.0;
          allowed = ap (λ ks. option_map_or (λ mask. allows mask c) (mask_of ks) false) ((laws.reads P).kinds t) ∙ told.1;
          nowhere = nowhere (is_known P t) (sym ((laws.reads P).known t) ∙ h.known) h.place;
        }
      where
        nowhere : (b : Bool) → b ≡ true → option_and_then (λ (row : ThreadRow). row.on) (if b then Some (thread_row P t) else None) ≡ None → place_of P t ≡ None
        nowhere true e f = f
        nowhere false e f = cc

-- an associate that is refused to an agent that is there, of a thread that is known and runs nowhere, came late
late_of : (a b d s q f : Bool) (n c : ℕ) (why : Refusal) → a ≡ false → b ≡ false → f ≡ false
    → first_of ((a, refusal.UnknownThread) ∷ (b, refusal.BadCpu) ∷ (d, refusal.Dead) ∷ (s, refusal.Stale n) ∷ (q, refusal.Pending) ∷ (f, refusal.Running c) ∷ []) ≡ Some why → is_late why ≡ true
late_of true b d s q f n c why x y z e = cc
late_of false true d s q f n c why x y z e = cc
late_of false false true s q f n c why x y z e = let is : why ≡ refusal.Dead = cc in ap is_late is
late_of false false false true q f n c why x y z e = let is : why ≡ refusal.Stale n = cc in ap is_late is
late_of false false false false true f n c why x y z e = let is : why ≡ refusal.Pending = cc in ap is_late is
late_of false false false false false true n c why x y z e = cc
late_of false false false false false false n c why x y z e = cc

not_committed : (c t : ℕ) → ◌≡◌ {A = Reply} (reply.Refused refusal.NothingReady) (reply.Committed c t) → ⊥
not_committed c t e = cc

not_associated : (c t : ℕ) (why : Refusal) → ◌≡◌ {A = Reply} (reply.Refused why) (reply.Associated c t) → ⊥
not_associated c t why e = cc

same_refused : (a b : Refusal) → ◌≡◌ {A = Reply} (reply.Refused a) (reply.Refused b) → a ≡ b
same_refused a b e = cc

module _ (laws : KernelLaws) (greatest : IsGreatest) (limits : Limits) (u : PlainWorld) (good : IsGood limits u) (c : ℕ) where
  abbrev K : PlainKernel
  K = u.kernel

  abbrev a : PlainAgent
  a = u.agents c

  no_more : (t : ℕ) → upto a.known t ≤ number K t
  no_more t = by_upto (upto a.known t) refl
    where
      by_upto : (n : ℕ) → upto a.known t ≡ n → n ≤ number K t
      by_upto zero e = omega arith
      by_upto (suc n) e = let there = (greatest a.known t (suc n)).0 (omega arith) (suc n) (omega arith) (omega arith) in (good.known c t (suc n) there).1

  pub whole_if : (t : ℕ) → ((n : ℕ) → IsInRun (kinds K) t n → has a.known t n ≡ true) → upto a.known t ≡ number K t
  whole_if t all =
      let enough : number K t ≤ upto a.known t = (greatest a.known t (number K t)).1 (λ m low high. all m (low, high)) in
      let most = no_more t in
      omega arith

  pub whole_or_behind : (t : ℕ) → (upto a.known t ≡ number K t) ⊎ IsBehind u c t
  whole_or_behind t = elim (all_or_some a.known t (number K t)) [
    | inl all ↦ inl (whole_if t (λ n told. all n told.0 told.1))
    | inr some ↦ inr (some.0, (some.1, some.2), some.3)
  ]

  -- who knows all, where every queue is empty, is not refused late
  pub never_late : is_cpu (shown K) c ≡ true → ((t n : ℕ) → IsInRun (kinds K) t n → has a.known t n ≡ true) → ((q : ℕ) → is_cpu (shown K) q ≡ true → content K q ≡ []) → IsLate u c → ⊥
  never_late there all empty late =
      let t = late.0 in
      let whole = whole_if t (all t) in
      let waiting = waits_so laws K c a t whole (chosen laws K c a t late.1.place late.1.there) in
      late.2 (taking_accepted laws.reads K c t (upto a.known t) there waiting (none_pending laws.reads K empty t) whole)

  module _ (idle : IsIdle K c) (no_names : a.list ≡ []) where
    -- where nothing may be stolen, nothing waits of which all is known
    none_open : FindsFirst (stealable u c) None → IsOpen u c
    none_open none t waits stolen = elim (whole_or_behind t) [
      | inl whole ↦ absurd (false≢true (sym (ap is_some (none t)) ∙ stands laws K c a t whole waits (ap (λ l. has_name l t) no_names) stolen))
      | inr behind ↦ behind
    ]

    is_free : is_some (reads.on (shown K) c) ≡ false
    is_free = ap is_some ((laws.reads K).on c idle.there ∙ idle.idle)

    pub tried : (told : Reply) (x : PlainWorld) → Step u (event.Steal c) told x → (first : Option ℕ) × FindsFirst (stealable u c) first × IsTried u c first told x
    tried told x step =
        let stolen = MatchBool-at_true (IsStolen u c (is_some (reads.on (shown K) c)) told x) (IsBadCpu u told x) idle.there step in
        subst (λ b. IsStolen u c b told x) is_free stolen

    -- a thread that was stolen is picked
    module _ (n : ℕ) (count : n ≡ aseq K c) where
      picks_stolen : (t : ℕ) (x y : PlainWorld) (again : Reply) → FindsFirst (stealable u c) (Some t) → refused (shown K) (takes_over c a t) ≡ None
          → x ≡ record (with_agent u c (record a { list = a.list ++ t ∷ [] })) { kernel = after_of (refused (shown K) (takes_over c a t)) (homed K t c) K }
          → Step x (event.Pick c n) again y → (s : ℕ) × (y.kernel.on c ≡ Some s)
      picks_stolen t x y again found accepted is step =
          let whole = (laws.associates K t c (upto a.known t) accepted).current in
          let waits = waits_so laws K c a t whole (chosen laws K c a t found.place found.there) in
          let made : x.kernel ≡ homed K t c = ap (λ (v : PlainWorld). v.kernel) is ∙ ap (λ o. after_of o (homed K t c) K) accepted in
          let listed : (x.agents c).list ≡ t ∷ [] =
          ap (λ (v : PlainWorld). (v.agents c).list) is ∙ ap (λ (b : PlainAgent). b.list) (at_same u.agents c (record a { list = a.list ++ t ∷ [] })) ∙ ap (λ l. l ++ t ∷ []) no_names in
          let committed : refused (shown x.kernel) (commits c t n) ≡ None = ap (λ (Q : PlainKernel). refused (shown Q) (commits c t n)) made ∙ commit_accepted laws.reads K c t idle waits n count in
          let ready : ready_list (shown x.kernel) c n (x.agents c).list ≡ t ∷ [] = ap (ready_list (shown x.kernel) c n) listed ∙ ap (λ o. if is_none o then t ∷ [] else []) committed in
          let still : IsIdle x.kernel c = subst (λ Q. IsIdle Q c) (sym made) (record { there = idle.there; idle = idle.idle }) in
          let counted : n ≡ aseq x.kernel c = count ∙ sym (ap (λ (Q : PlainKernel). aseq Q c) made) in
          let picked = picks_first laws x c n still counted t [] ready in
          let same = step_same x (event.Pick c n) tt again picked.told y picked.new step picked.step in
          (picked.runs.0, ap (λ (v : PlainWorld). v.kernel.on c) same.1 ∙ picked.runs.1)

      pub stolen_runs : (queue thread : ℕ) (x y : PlainWorld) (again : Reply) → Step u (event.Steal c) (reply.Associated queue thread) x → Step x (event.Pick c n) again y → (s : ℕ) × (y.kernel.on c ≡ Some s)
      stolen_runs queue thread x y again step pick = by_first (tried (reply.Associated queue thread) x step)
        where
          by_taken : (t : ℕ) (o : Option Refusal) → refused (shown K) (takes_over c a t) ≡ o → FindsFirst (stealable u c) (Some t) → IsTakenOver u c t o (reply.Associated queue thread) x → (s : ℕ) × (y.kernel.on c ≡ Some s)
          by_taken t None accepted found h = picks_stolen t x y again found accepted h.1 pick
          by_taken t (Some why) e found h = absurd (not_associated queue thread why (sym h.refused))

          by_tried : (first : Option ℕ) → FindsFirst (stealable u c) first → IsTried u c first (reply.Associated queue thread) x → (s : ℕ) × (y.kernel.on c ≡ Some s)
          by_tried None found h = absurd (not_associated queue thread refusal.NothingToSteal (sym h.refused))
          by_tried (Some t) found h = by_taken t (refused (shown K) (takes_over c a t)) refl found h

          by_first : (first : Option ℕ) × FindsFirst (stealable u c) first × IsTried u c first (reply.Associated queue thread) x → (s : ℕ) × (y.kernel.on c ≡ Some s)
          by_first h = by_tried h.0 h.1 h.2

    -- what a refused steal tells
    pub refused_so : (r : Refusal) (x : PlainWorld) → Step u (event.Steal c) (reply.Refused r) x → (x ≡ u) × (((is_late r ≡ false) × IsOpen u c) ⊎ ((is_late r ≡ true) × IsLate u c))
    refused_so r x step = by_first (tried (reply.Refused r) x step)
      where
        late : (t : ℕ) (why : Refusal) → FindsFirst (stealable u c) (Some t) → refused (shown K) (takes_over c a t) ≡ Some why → is_late why ≡ true
        late t why found e =
            let h = chosen laws K c a t found.place found.there in
            late_of (not (reads.is_known (shown K) t)) (not (is_cpu (shown K) c)) (is_dead (reads.phase (shown K) t)) (not (upto a.known t == reads.number_read (shown K) t)) (is_pending (shown K) t) (is_some (reads.place (shown K) t))
            (reads.number_read (shown K) t) (unwrap_or (reads.place (shown K) t) 0) why (ap not h.known) (ap not idle.there) (ap is_some h.place) e

        by_taken : (t : ℕ) (o : Option Refusal) → refused (shown K) (takes_over c a t) ≡ o → FindsFirst (stealable u c) (Some t) → IsTakenOver u c t o (reply.Refused r) x → (x ≡ u) × (((is_late r ≡ false) × IsOpen u c) ⊎ ((is_late r ≡ true) × IsLate u c))
        by_taken t None accepted found h = absurd (not_associated c t r h.0)
        by_taken t (Some why) e found h =
            let is : r ≡ why = same_refused r why h.refused in
            (h.same, inr (ap is_late is ∙ late t why found e, (t, found, λ none. let bad : ◌≡◌ {A = Option Refusal} (Some why) None = sym e ∙ none in cc)))

        by_tried : (first : Option ℕ) → FindsFirst (stealable u c) first → IsTried u c first (reply.Refused r) x → (x ≡ u) × (((is_late r ≡ false) × IsOpen u c) ⊎ ((is_late r ≡ true) × IsLate u c))
        by_tried None found h = (h.same, inl (ap is_late (same_refused r refusal.NothingToSteal h.refused), none_open found))
        by_tried (Some t) found h = by_taken t (refused (shown K) (takes_over c a t)) refl found h

        by_first : (first : Option ℕ) × FindsFirst (stealable u c) first × IsTried u c first (reply.Refused r) x → (x ≡ u) × (((is_late r ≡ false) × IsOpen u c) ⊎ ((is_late r ≡ true) × IsLate u c))
        by_first h = by_tried h.0 h.1 h.2

-- a pick for an idle CPU that found nothing ready
pub picks_nothing : (laws : KernelLaws) (v u : PlainWorld) (c n : ℕ) → IsIdle v.kernel c → n ≡ aseq v.kernel c → Step v (event.Pick c n) (reply.Refused refusal.NothingReady) u → u ≡ with_agent v c (record (v.agents c) { list = [] })
picks_nothing laws v u c n idle count step = elim (picks laws v c n idle count (ready_list (shown v.kernel) c n (v.agents c).list) refl) [
  | inl found ↦
      let same = step_same v (event.Pick c n) tt (reply.Refused refusal.NothingReady) found.told u found.new step found.step in
      absurd (not_committed c found.runs.0 (same.0 ∙ found.commits))
  | inr none ↦ (step_same v (event.Pick c n) tt (reply.Refused refusal.NothingReady) (reply.Refused refusal.NothingReady) u (emptied laws v c n idle count) step none).1
]

-- what was before such steps
idle_before : (c : ℕ) (v new : PlainWorld) → Calm c v new → is_cpu (shown new.kernel) c ≡ true → new.kernel.on c ≡ None → IsIdle v.kernel c
idle_before c v new calm there idle = record {
  there = sym (ap (λ (l : Limits). nat_lt c l.cpus) calm.limits) ∙ there;
  idle = by_on (v.kernel.on c) refl;
}
  where
    by_on : (o : Option ℕ) → v.kernel.on c ≡ o → v.kernel.on c ≡ None
    by_on None e = e
    by_on (Some t) e = let bad : ◌≡◌ {A = Option ℕ} None (Some t) = sym idle ∙ calm.on c t e in cc

count_before : (c n : ℕ) (v new : PlainWorld) → Calm c v new → n ≡ aseq new.kernel c → n ≡ aseq v.kernel c
count_before c n v new calm count = count ∙ ap (λ posts. length (filter_map (item_to c) posts)) calm.posts

not_idle : (o : Option ℕ) (t : ℕ) → o ≡ None → o ≡ Some t → ⊥
not_idle o t e f = cc

module _ (laws : KernelLaws) (greatest : IsGreatest) (limits : Limits) (w : PlainWorld) (good : IsGood limits w) (c n : ℕ) where
  emptied_list : (v u : PlainWorld) → u ≡ with_agent v c (record (v.agents c) { list = [] }) → (u.agents c).list ≡ []
  emptied_list v u is = ap (λ (x : PlainWorld). (x.agents c).list) is ∙ ap (λ (a : PlainAgent). a.list) (at_same v.agents c (record (v.agents c) { list = [] }))

  -- an agent whose CPU is idle behind all that it did
  pub acts_settle : (asking : Bool) (new : PlainWorld) → Acts w c n asking new → is_cpu (shown new.kernel) c ≡ true → n ≡ aseq new.kernel c → new.kernel.on c ≡ None → ((asking ≡ false) × IsOpen new c) ⊎ ((asking ≡ true) × IsLate new c)
  acts_settle asking new (picked taken told ran other) there count idle =
      let v = ran.0 in
      let u = ran.2.0 in
      let last = calm_same c u new ran.2.2 in
      let pick = calm_on c v u new (pick_calm laws c v u told n ran.2.1) last in
      elim (pick_tells laws v u c n told (idle_before c v new pick there idle) (count_before c n v new pick count) ran.2.1) [
        | inl runs ↦ absurd (not_idle (u.kernel.on c) runs.0 (idle_before c u new last there idle).idle runs.2)
        | inr none ↦ absurd (other none.0)
      ]
  acts_settle asking new (stole taken told again queue thread ran) there count idle =
      let v = ran.0 in
      let u = ran.2.0 in
      let x = ran.2.2.0 in
      let y = ran.2.2.2.0 in
      let nothing = reply.Refused refusal.NothingReady in
      let d = calm_same c y new ran.2.2.2.2 in
      let e = calm_on c x y new (pick_calm laws c x y again n ran.2.2.2.1) d in
      let f = calm_on c u x new (steal_calm laws c u x (reply.Associated queue thread) ran.2.2.1) e in
      let g = calm_on c v u new (pick_calm laws c v u nothing n ran.2.1) f in
      let good_v = good_after laws limits w good (event.Consume c) taken v ran.1 in
      let good_u = good_after laws limits v good_v (event.Pick c n) nothing u ran.2.1 in
      let is = picks_nothing laws v u c n (idle_before c v new g there idle) (count_before c n v new g count) ran.2.1 in
      let runs = stolen_runs laws greatest limits u good_u c (idle_before c u new f there idle) (emptied_list v u is) n (count_before c n u new f count) queue thread x y again ran.2.2.1 ran.2.2.2.1 in
      absurd (not_idle (y.kernel.on c) runs.0 (idle_before c y new d there idle).idle runs.1)
  acts_settle asking new (steal_refused taken r ran) there count idle =
      let v = ran.0 in
      let u = ran.2.0 in
      let x = ran.2.2.0 in
      let nothing = reply.Refused refusal.NothingReady in
      let e = calm_same c x new ran.2.2.2 in
      let f = calm_on c u x new (steal_calm laws c u x (reply.Refused r) ran.2.2.1) e in
      let g = calm_on c v u new (pick_calm laws c v u nothing n ran.2.1) f in
      let good_v = good_after laws limits w good (event.Consume c) taken v ran.1 in
      let good_u = good_after laws limits v good_v (event.Pick c n) nothing u ran.2.1 in
      let is = picks_nothing laws v u c n (idle_before c v new g there idle) (count_before c n v new g count) ran.2.1 in
      let tells = refused_so laws greatest limits u good_u c (idle_before c u new f there idle) (emptied_list v u is) r x ran.2.2.1 in
      let same : u ≡ new = sym (ran.2.2.2 ∙ tells.0) in
      elim tells.1 [
        | inl none ↦ inl (none.0, subst (λ z. IsOpen z c) same none.1)
        | inr late ↦ inr (late.0, subst (λ z. IsLate z c) same late.1)
      ]

  -- where a thread runs on the CPU behind all that it did, the agent asks nobody
  pub acts_busy : (asking : Bool) (new : PlainWorld) (t : ℕ) → Acts w c n asking new → is_cpu (shown new.kernel) c ≡ true → new.kernel.on c ≡ Some t → asking ≡ false
  acts_busy asking new t (picked taken told ran other) there runs = refl
  acts_busy asking new t (stole taken told again queue thread ran) there runs = refl
  acts_busy asking new t (steal_refused taken r ran) there runs =
      let u = ran.2.0 in
      let x = ran.2.2.0 in
      let there_u : is_cpu (shown u.kernel) c ≡ true =
      sym (ap (λ (l : Limits). nat_lt c l.cpus) (calm_on c u x new (steal_calm laws c u x (reply.Refused r) ran.2.2.1) (calm_same c x new ran.2.2.2)).limits) ∙ there in
      by_on u x there_u ran.2.2.1 (ap (λ (v : PlainWorld). v.kernel.on c) (sym ran.2.2.2) ∙ runs) (u.kernel.on c) refl
    where
      by_on : (u x : PlainWorld) → is_cpu (shown u.kernel) c ≡ true → Step u (event.Steal c) (reply.Refused r) x → x.kernel.on c ≡ Some t → (o : Option ℕ) → u.kernel.on c ≡ o → is_late r ≡ false
      by_on u x there_u step some None e =
          let idle : IsIdle u.kernel c = record { there = there_u; idle = e } in
          absurd (not_idle (x.kernel.on c) t (idle_still u.kernel x.kernel c (step_stays u x (event.Steal c) (reply.Refused r) tt step) idle).idle some)
      by_on u x there_u step some (Some s) e =
          let stolen = MatchBool-at_true (IsStolen u c (is_some (reads.on (shown u.kernel) c)) (reply.Refused r) x) (IsBadCpu u (reply.Refused r) x) there_u step in
          let busy : is_some (reads.on (shown u.kernel) c) ≡ true = ap is_some ((laws.reads u.kernel).on c there_u ∙ e) in
          let is = (subst (λ b. IsStolen u c b (reply.Refused r) x) busy stolen).refused in
          ap is_late (same_refused r refusal.Busy is)
