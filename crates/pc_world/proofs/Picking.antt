-- An agent that knows all picks a thread, or steals one and picks it.
use Rattle.std.proofs.Common.{◌≡◌, ℕ, ◌≤◌, ◌==◌, ◌&&◌, ◌⊎◌, Bool, true, false, not, List, [], ◌∷◌, ◌++◌, take, Option, Some, None, is_none, is_some, refl, sym, ◌∙◌, ap, subst, inl, inr, if◌then◌else◌}
use Rattle.std.specs.Prelude.{◌↔◌, IsTrue}
use Rattle.std.specs.Option.{option_map_or, option_and_then}
use Rattle.std.proofs.lemmas.Bool.{false≢true}
use Rattle.pc_messages.specs.Mask.{allows}
use Rattle.pc_messages.specs.State.{phase_of, mask_of, ran_of, level_of, report, state_of}
use Rattle.pc_messages.specs.declared.reported.Phase.{Phase}
use Rattle.pc_messages.specs.declared.reported.Phase.TheVariants as phase
use Rattle.pc_calls.specs.AgentCalls.{commits}
use Rattle.pc_calls.specs.Conditions.{first_of}
use Rattle.pc_calls.specs.declared.event.Event.TheVariants as event
use Rattle.pc_calls.specs.declared.event.Reply.{Reply}
use Rattle.pc_calls.specs.declared.event.Reply.TheVariants as replies
use Rattle.pc_calls.specs.declared.limits.Limits.{Limits}
use Rattle.pc_calls.specs.declared.refusal.Refusal.{Refusal}
use Rattle.pc_calls.specs.declared.refusal.Refusal.TheVariants as refusals
use Rattle.pc_kernel.specs.PlainKernel.{PlainKernel, aseq, content, is_known, kinds, number, place_of, threads}
use Rattle.pc_kernel.specs.Reads.{Reads, shown, is_cpu, is_allowed_on, thread_row}
use Rattle.pc_kernel.specs.Reads as reads
use Rattle.pc_kernel.specs.Rows.{ThreadRow}
use Rattle.pc_kernel.specs.Steps.{after, after_of, changed, refused}
use Rattle.pc_policy.specs.Rules.{Rules}
use Rattle.pc_view.specs.Prefixes.{reports, upto}
use Rattle.pc_run_queue.specs.Names.{has_name}
use Rattle.pc_run_queue.specs.Runs.{may_run, rank_told}
use Rattle.pc_agent.specs.PlainAgent.{PlainAgent, is_empty_list, is_idle, is_wanted, known_by, may_take, pick_refused, ready_list, standing, stealing}
use Rattle.pc_agent.specs.Running.{FindsFirst, takes_over}
use Rattle.pc_world.specs.Mending.{IsIdle, IsStolenBy, LeadTo, RunsSome, WaitsFor, learning, mending, mending_by_steal, picking}
use Rattle.pc_join.specs.Sets.{has}
use Rattle.pc_world.specs.PlainWorld.{PlainWorld, with_agent}
use Rattle.pc_world.specs.Steps.{IsBadCpu, IsCommitted, IsPicked, IsStolen, IsTakenOver, Step, stealable}
use Rattle.pc_world.specs.Inner.Laws.{KernelLaws}
use Rattle.pc_world.proofs.Clearing.{good_after, runs_append}
use Rattle.pc_world.proofs.Exactly.{first_passes, none_is, take_whole}
use Rattle.pc_world.proofs.Good.{IsGood}
use Rattle.pc_world.proofs.Learning.{learns}
use Rattle.pc_world.proofs.Mended.{commit_accepted, equal, homed, none_pending, read_place, read_there, still_idle, still_waits, taking_accepted}
use Rattle.pc_world.proofs.Places.{at_same, match_true}
use Rattle.pc_world.proofs.Stepping.{finds, unknown_above}
use Rattle.pc_world.proofs.Taken.{at_some, both, pass}

three_last : (a b k : Bool) (x y z : Refusal) → a ≡ false → b ≡ false → k ≡ true → first_of ((a, x) ∷ (b, y) ∷ (k, z) ∷ []) ≡ Some z
three_last false false true x y z e f g = refl
three_last true b k x y z e f g = cc
three_last false true k x y z e f g = cc
three_last false false false x y z e f g = cc

-- a step by which a thread comes to run on the CPU
pub record Picked (x : PlainWorld) (c n : ℕ) : Type 0 where
  pub told : Reply
  pub new : PlainWorld
  pub step : Step x (event.Pick c n) told new
  pub runs : RunsSome c new
  pub commits : told ≡ replies.Committed c runs.0

module _ (laws : KernelLaws) (x : PlainWorld) (c n : ℕ) (idle : IsIdle x.kernel c) (count : n ≡ aseq x.kernel c) where
  abbrev r : Reads
  r = shown x.kernel

  abbrev list : List ℕ
  list = (x.agents c).list

  counted : not (n == reads.aseq_read r c) ≡ false
  counted = ap not (equal n (reads.aseq_read r c) (count ∙ sym ((laws.reads x.kernel).aseq c idle.there)))

  pub not_busy : is_some (reads.on r c) ≡ false
  not_busy = ap is_some ((laws.reads x.kernel).on c idle.there ∙ idle.idle)

  pub picks_first : (t : ℕ) (rest : List ℕ) → ready_list r c n list ≡ t ∷ rest → Picked x c n
  picks_first t rest first =
      let told = replies.Committed c t in
      let Q = after x.kernel (commits c t n) in
      let new : PlainWorld = record (with_agent x c (record (x.agents c) { list = rest })) { kernel = Q } in
      let accepted : refused r (commits c t n) ≡ None = none_is (refused r (commits c t n)) (first_passes (λ u. is_none (refused r (commits c u n))) list t rest first) in
      let some : pick_refused r c n list ≡ None =
      pass (not (n == reads.aseq_read r c)) (refusals.Stale (reads.aseq_read r c)) ((is_some (reads.on r c), refusals.Busy) ∷ (is_empty_list (ready_list r c n list), refusals.NothingReady) ∷ []) counted
      (pass (is_some (reads.on r c)) refusals.Busy ((is_empty_list (ready_list r c n list), refusals.NothingReady) ∷ []) not_busy
      (pass (is_empty_list (ready_list r c n list)) refusals.NothingReady [] (ap is_empty_list first) refl)) in
      record {
        told = told;
        new = new;
        step = match_true (is_cpu r c) (IsPicked x c n (pick_refused r c n list) told new) (IsBadCpu x told new) idle.there
            (subst (λ o. IsPicked x c n o told new) (sym some) (subst (λ names. IsCommitted x c n names told new) (sym first) (refl, refl)));
        runs = (t, ap (λ o. (after_of o (changed x.kernel (commits c t n)) x.kernel).on c) accepted ∙ at_same x.kernel.on c (Some t));
        commits = refl;
      }

  -- the world where none was ready
  abbrev pub emptied : PlainWorld
  emptied = with_agent x c (record (x.agents c) { list = [] })

  pub picks_none : ready_list r c n list ≡ [] → Step x (event.Pick c n) (replies.Refused refusals.NothingReady) emptied
  picks_none none =
      let told = replies.Refused refusals.NothingReady in
      let empty : pick_refused r c n list ≡ Some refusals.NothingReady =
      three_last (not (n == reads.aseq_read r c)) (is_some (reads.on r c)) (is_empty_list (ready_list r c n list)) (refusals.Stale (reads.aseq_read r c)) refusals.Busy refusals.NothingReady counted not_busy (ap is_empty_list none) in
      match_true (is_cpu r c) (IsPicked x c n (pick_refused r c n list) told emptied) (IsBadCpu x told emptied) idle.there
      (subst (λ o. IsPicked x c n o told emptied) (sym empty) (refl, refl))

  pub picks : (names : List ℕ) → ready_list r c n list ≡ names → Picked x c n ⊎ Step x (event.Pick c n) (replies.Refused refusals.NothingReady) emptied
  picks [] e = inr (picks_none e)
  picks (t ∷ rest) e = inl (picks_first t rest e)

-- a thread that may run by its state is ready and allowed, and the other way round
may_by : (p : Option Phase) (m : Option ℕ) (ran level c : ℕ) → p ≡ Some phase.Ready → option_map_or (λ mask. allows mask c) m false ≡ true → may_run (report p m ran level) c ≡ true
may_by None m ran level c e f = cc
may_by (Some phase.Ready) None ran level c e f = cc
may_by (Some phase.Ready) (Some mask) ran level c e f = f
may_by (Some phase.Blocked) m ran level c e f = cc
may_by (Some phase.Dead) m ran level c e f = cc

by_may : (p : Option Phase) (m : Option ℕ) (ran level c : ℕ) → may_run (report p m ran level) c ≡ true → (p ≡ Some phase.Ready) × (option_map_or (λ mask. allows mask c) m false ≡ true)
by_may None m ran level c e = cc
by_may (Some phase.Ready) None ran level c e = cc
by_may (Some phase.Ready) (Some mask) ran level c e = (refl, e)
by_may (Some phase.Blocked) None ran level c e = cc
by_may (Some phase.Blocked) (Some mask) ran level c e = cc
by_may (Some phase.Dead) None ran level c e = cc
by_may (Some phase.Dead) (Some mask) ran level c e = cc

pub both_of : (a b : Bool) → a ≡ true → b ≡ true → (a && b) ≡ true
both_of true b e f = f
both_of false b e f = cc

is_none_of : (o : Option ℕ) → o ≡ None → is_none o ≡ true
is_none_of None e = refl
is_none_of (Some x) e = cc

none_of : (o : Option ℕ) → is_none o ≡ true → o ≡ None
none_of None e = refl
none_of (Some x) e = cc

stolen_by : (exact : Bool) (whole : Bool) (rank : Option ℕ) → whole ≡ true → (exact ≡ false) ⊎ (is_some rank ≡ true) → is_some (if exact then (if whole then rank else None) else Some 0) ≡ true
stolen_by false whole rank e f = refl
stolen_by true true rank e (inl g) = cc
stolen_by true true rank e (inr g) = g
stolen_by true false rank e f = cc

-- an agent that knows all, and a thread that waits for its CPU
module _ (laws : KernelLaws) (P : PlainKernel) (c : ℕ) (p : PlainAgent) (whole : (t : ℕ) → upto p.known t ≡ number P t) where
  abbrev R : Reads
  R = shown P

  reports_all : (t : ℕ) → reports (kinds P) p.known t ≡ state_of (kinds P t)
  reports_all t = ap state_of (ap (λ n. take n (kinds P t)) (whole t) ∙ take_whole (kinds P t))

  abbrev runs : ℕ → Bool
  runs t = may_run (reports (kinds P) p.known t) c

  may : (t : ℕ) → WaitsFor P c t → runs t ≡ true
  may t h =
      ap (λ s. may_run s c) (reports_all t)
      ∙ may_by (phase_of (kinds P t)) (mask_of (kinds P t)) (ran_of (kinds P t)) (level_of (kinds P t)) c h.ready
      (ap (λ ks. option_map_or (λ mask. allows mask c) (mask_of ks) false) (sym ((laws.reads P).kinds t)) ∙ h.allowed)

  takes : (t : ℕ) → WaitsFor P c t → has_name p.list t ≡ false → may_take R runs p.list t ≡ true
  takes t h unlisted =
      both_of (is_wanted runs p.list t) (is_idle R t) (both_of (runs t) (not (has_name p.list t)) (may t h) (ap not unlisted))
      (both_of (reads.is_known R t) (is_none (reads.place R t)) (read_there laws.reads P c t h) (is_none_of (reads.place R t) (read_place laws.reads P c t h)))

  pub stands : (t : ℕ) → WaitsFor P c t → has_name p.list t ≡ false → IsStolenBy p.rules P c t → is_some (stealing R (kinds P) c p t) ≡ true
  stands t h unlisted stolen =
      let known = known_by (kinds P) p.known in
      ap (λ b. is_some (if b then standing p.rules R known c t else None)) (takes t h unlisted)
      ∙ stolen_by p.rules.exact (upto p.known t == reads.number_read R t) (rank_told p.rules.ranks c t (reports (kinds P) p.known t))
      (equal (upto p.known t) (reads.number_read R t) (whole t ∙ sym ((laws.reads P).number t)))
      (subst (λ s. (p.rules.exact ≡ false) ⊎ (is_some (rank_told p.rules.ranks c t s) ≡ true)) (sym (reports_all t)) stolen)

  pub waits_so : (t place : ℕ) → stealing R (kinds P) c p t ≡ Some place → WaitsFor P c t
  waits_so t place e =
      let chosen = at_some (may_take R runs p.list t) (standing p.rules R (known_by (kinds P) p.known) c t) place e in
      let wanted = both (is_wanted runs p.list t) (is_idle R t) chosen.0 in
      let here = both (runs t) _ wanted.0 in
      let idle = both (reads.is_known R t) (is_none (reads.place R t)) wanted.1 in
      let told = by_may (phase_of (kinds P t)) (mask_of (kinds P t)) (ran_of (kinds P t)) (level_of (kinds P t)) c (ap (λ s. may_run s c) (sym (reports_all t)) ∙ here.0) in
      record {
        ready = told.0;
        allowed = ap (λ ks. option_map_or (λ mask. allows mask c) (mask_of ks) false) ((laws.reads P).kinds t) ∙ told.1;
        nowhere = nowhere (is_known P t) (sym ((laws.reads P).known t) ∙ idle.0) (none_of (reads.place R t) idle.1);
      }
    where
      nowhere : (b : Bool) → b ≡ true → option_and_then (λ (row : ThreadRow). row.on) (if b then Some (thread_row P t) else None) ≡ None → place_of P t ≡ None
      nowhere true e f = f
      nowhere false e f = cc

-- such an agent steals a thread, and picks it
pub record StolenAndPicked (x : PlainWorld) (c n : ℕ) : Type 0 where
  pub told : Reply
  pub between : PlainWorld
  pub steals : Step x (event.Steal c) told between
  pub picked : Picked between c n

module _ (laws : KernelLaws) (x : PlainWorld) (c : ℕ) (idle : IsIdle x.kernel c)
    (whole : (t : ℕ) → upto (x.agents c).known t ≡ number x.kernel t) (empty : (q : ℕ) → is_cpu (shown x.kernel) q ≡ true → content x.kernel q ≡ []) where
  pub is_free : is_some (reads.on (shown x.kernel) c) ≡ false
  is_free = ap is_some ((laws.reads x.kernel).on c idle.there ∙ idle.idle)

  module _ (u : ℕ) (found : FindsFirst (stealable x c) (Some u)) where
    abbrev K : PlainKernel
    K = x.kernel

    abbrev a : PlainAgent
    a = x.agents c

    pub waits : WaitsFor K c u
    waits = waits_so laws K c a whole u found.place found.there

    accepted : refused (shown K) (takes_over c a u) ≡ None
    accepted = taking_accepted laws.reads K c u (upto a.known u) idle.there waits (none_pending laws.reads K empty u) (whole u)

    abbrev pub y : PlainWorld
    y = record (with_agent x c (record a { list = a.list ++ u ∷ [] })) { kernel = after K (takes_over c a u) }

    pub made : y.kernel ≡ homed K u c
    made = ap (λ o. after_of o (homed K u c) K) accepted

    abbrev answer : Reply
    answer = replies.Associated c u

    pub steals_it : Step x (event.Steal c) answer y
    steals_it =
        match_true (is_cpu (shown K) c) (IsStolen x c (is_some (reads.on (shown K) c)) answer y) (IsBadCpu x answer y) idle.there
        (subst (λ b. IsStolen x c b answer y) (sym is_free)
        (Some u, found, subst (λ o. IsTakenOver x c u o answer y) (sym accepted) (refl, refl)))

    pub agent_then : y.agents c ≡ record a { list = a.list ++ u ∷ [] }
    agent_then = at_same x.agents c (record a { list = a.list ++ u ∷ [] })

    pub still : IsIdle y.kernel c
    still = subst (λ Q. IsIdle Q c) (sym made) (record { there = idle.there; idle = idle.idle })

    module _ (no_names : (x.agents c).list ≡ []) (n : ℕ) (count : n ≡ aseq x.kernel c) where
      listed : (y.agents c).list ≡ u ∷ []
      listed = ap (λ (b : PlainAgent). b.list) agent_then ∙ ap (λ l. l ++ u ∷ []) no_names

      committed : refused (shown y.kernel) (commits c u n) ≡ None
      committed = ap (λ (Q : PlainKernel). refused (shown Q) (commits c u n)) made ∙ commit_accepted laws.reads K c u idle waits n count

      ready : ready_list (shown y.kernel) c n (y.agents c).list ≡ u ∷ []
      ready = ap (ready_list (shown y.kernel) c n) listed ∙ ap (λ o. if is_none o then u ∷ [] else []) committed

      pub steals_and_picks : StolenAndPicked x c n
      steals_and_picks = record {
        told = answer;
        between = y;
        steals = steals_it;
        picked = picks_first laws y c n still (count ∙ sym (ap (λ (Q : PlainKernel). aseq Q c) made)) u [] ready;
      }

  pub can_steal : (limits : Limits) → IsGood limits x → (no_names : (x.agents c).list ≡ []) (t n : ℕ) → n ≡ aseq x.kernel c → WaitsFor x.kernel c t → IsStolenBy (x.agents c).rules x.kernel c t → StolenAndPicked x c n
  can_steal limits h no_names t n count waiting stolen = by_first first.0 first.1
    where
      first : (o : Option ℕ) × FindsFirst (stealable x c) o
      first = finds (stealable x c) (threads x.kernel) (unknown_above laws limits x h c)

      by_first : (o : Option ℕ) → FindsFirst (stealable x c) o → StolenAndPicked x c n
      by_first None none = absurd (false≢true (sym (ap is_some (none t)) ∙ stands laws x.kernel c (x.agents c) whole t waiting (ap (λ l. has_name l t) no_names) stolen))
      by_first (Some u) found = steals_and_picks u found no_names n count

-- the thread waits, and something comes to run
module _ (laws : KernelLaws) (greatest : (set : List (ℕ × ℕ)) (t n : ℕ) → (n ≤ upto set t) ↔ ((m : ℕ) → 1 ≤ m → m ≤ n → IsTrue (has set t m))) (limits : Limits) (w : PlainWorld) (h : IsGood limits w)
    (c t : ℕ) (idle : IsIdle w.kernel c) (waits : WaitsFor w.kernel c t) (stolen : IsStolenBy (w.agents c).rules w.kernel c t) where
  pub run_some : LeadTo w (mending w c) (RunsSome c) ⊎ LeadTo w (mending_by_steal w c) (RunsSome c)
  run_some =
      let learnt = learns laws greatest limits w h c idle.there in
      let u = learnt.new in
      let n = aseq w.kernel c in
      let count : n ≡ aseq u.kernel c = sym (ap (λ (K : PlainKernel). aseq K c) learnt.kernel) in
      let idling : IsIdle u.kernel c = subst (λ K. IsIdle K c) (sym learnt.kernel) (still_idle w.kernel learnt.eaten c idle) in
      let waiting : WaitsFor u.kernel c t = subst (λ K. WaitsFor K c t) (sym learnt.kernel) (still_waits w.kernel learnt.eaten c t waits) in
      let stealing : IsStolenBy (u.agents c).rules u.kernel c t = subst (λ K. IsStolenBy (u.agents c).rules K c t) (sym learnt.kernel) (subst (λ (s : Rules). IsStolenBy s w.kernel c t) (sym learnt.rules) stolen) in
      elim (picks laws u c n idling count (ready_list (shown u.kernel) c n (u.agents c).list) refl) [
        | inl picked ↦ inl record {
          replies = learnt.replies ++ picked.told ∷ [];
          new = picked.new;
          runs = runs_append w u picked.new (learning w c) (picking w c ∷ []) learnt.replies (picked.told ∷ []) learnt.runs (picked.new, picked.step, refl);
          holds = picked.runs;
        }
        | inr none ↦
            let x = emptied laws u c n idling count in
            let agent : x.agents c ≡ record (u.agents c) { list = [] } = at_same u.agents c (record (u.agents c) { list = [] }) in
            let good : IsGood limits x = good_after laws limits u learnt.good (event.Pick c n) (replies.Refused refusals.NothingReady) x none in
            let more = can_steal laws x c idling (λ s. ap (λ (a : PlainAgent). upto a.known s) agent ∙ learnt.whole s) learnt.empty limits good (ap (λ (a : PlainAgent). a.list) agent) t n count waiting
            (subst (λ (a : PlainAgent). IsStolenBy a.rules u.kernel c t) (sym agent) stealing) in
            let last = more.picked in
            let told = replies.Refused refusals.NothingReady ∷ more.told ∷ last.told ∷ [] in
            inr record {
              replies = learnt.replies ++ told;
              new = last.new;
              runs = runs_append w u last.new (learning w c) (picking w c ∷ event.Steal c ∷ picking w c ∷ []) learnt.replies told learnt.runs
                  (x, none, (more.between, more.steals, (last.new, last.step, refl)));
              holds = last.runs;
            }
      ]
