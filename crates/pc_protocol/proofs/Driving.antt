-- What holds of every state of a run: each thread does its deeds in order, and the driver is told of each CPU on which a
-- thread runs, once.
use Rattle.std.proofs.Common.{◌≡◌, ◌⊎◌, ◌+◌, ◌≤◌, ◌<◌, ◌==◌, ℕ, zero, suc, true, false, List, [], ◌∷◌, ◌++◌, length, All, Option, Some, None, is_some, unwrap_or, if◌then◌else◌, refl, sym, ◌∙◌, ap, subst, inl, inr, arith}
use Rattle.std.specs.List.{filter_map}
use Rattle.std.specs.Option.{option_map_or}
use Rattle.std.proofs.lemmas.Bool.{cases_eq, cases_lt}
use Rattle.std.proofs.lemmas.Bool.Decides.{eqb_tells}
use Rattle.std.proofs.lemmas.Option.{same_Some}
use Rattle.pc_messages.specs.Mask.{allows}
use Rattle.pc_messages.specs.State.{last_given, level_given, level_of, mask_given, mask_of, phase_given, phase_of, ran_of, report}
use Rattle.pc_messages.specs.declared.kind.Kind.{Kind}
use Rattle.pc_messages.specs.declared.kind.Kind.TheVariants as kind
use Rattle.pc_messages.specs.declared.reported.Phase.{Phase}
use Rattle.pc_messages.specs.declared.reported.Phase.TheVariants as phase
use Rattle.pc_messages.specs.declared.reported.Reported.{Reported}
use Rattle.pc_messages.proofs.States.{last_given-push}
use Rattle.pc_calls.specs.Effects.{phase_behind}
use Rattle.pc_calls.specs.Events.{told_of}
use Rattle.pc_calls.specs.Leavings.{call_for}
use Rattle.pc_calls.specs.declared.call.Call.TheVariants as call
use Rattle.pc_calls.specs.declared.call.EnvCall.{EnvCall}
use Rattle.pc_calls.specs.declared.call.EnvCall.TheVariants.{Create, Wake}
use Rattle.pc_calls.specs.declared.event.Reply.TheVariants as reply
use Rattle.pc_calls.specs.declared.leaving.Leaving.{Leaving}
use Rattle.pc_calls.specs.declared.leaving.Leaving.TheVariants as how
use Rattle.pc_calls.specs.declared.limits.Limits.{Limits}
use Rattle.pc_calls.specs.declared.refusal.Refusal.{Refusal}
use Rattle.pc_kernel.specs.Facts.{IsPlaced}
use Rattle.pc_kernel.specs.PlainKernel.{PlainKernel, Post, kind_in, kinds, place_of}
use Rattle.pc_kernel.specs.Reads.{is_cpu, shown}
use Rattle.pc_kernel.specs.Steps.{accepted, after, at, changed, posting, receipt, refused, reply_of}
use Rattle.pc_kernel.proofs.AlwaysCalls.{place_has}
use Rattle.pc_policy.specs.Rankings.{Ranking}
use Rattle.pc_policy.specs.Rules.{Rules}
use Rattle.pc_run_queue.specs.Runs.{rank_told}
use Rattle.pc_world.specs.Facts.{EveryEventHasAStep}
use Rattle.pc_world.specs.Mending.{IsStolenBy}
use Rattle.pc_world.specs.PlainWorld.{PlainWorld}
use Rattle.pc_world.specs.Inner.Laws.{KernelLaws}
use Rattle.pc_world.proofs.Good.{IsGood}
use Rattle.pc_world.proofs.Places.{at_other, at_same}
use Rattle.pc_world.proofs.Reaching.{reached_good}
use Rattle.pc_protocol.specs.Protocol.{Comes, IsAct, IsLook, IsPut, IsTake, Protocol, cpus_of, goes_on, opening, rousing, starts, OfAgent}
use Rattle.pc_protocol.specs.Resting.{IsAtRest, IsWaiting}
use Rattle.pc_protocol.specs.Running.{AreCreated, at_deed, at_wake, IsHalted, Deed, Drive, Driven, HasDeed, IsAccepted, IsDone, IsLife, IsLost, IsRefused, IsServed, IsStill, IsWoken, Plan, TakesEach, asked, blocked_by, created, kernel_of, noticing, onward, Drives}
use Rattle.pc_protocol.proofs.Among.{IsAmong, among_contains}
use Rattle.pc_protocol.proofs.Acting.{IsGreatest}
use Rattle.pc_protocol.proofs.Going.{goes}
use Rattle.pc_protocol.proofs.Posts.{Adds, HasCreated, IsAllowed, accepts, allowed_on, kind_by, leaving_adds, leaving_limits, leaving_on, level_left, mask_left, none_created, one_created, phase_left, wake_adds}
use Rattle.pc_protocol.proofs.Reaching.{reaches}
use Rattle.pc_protocol.proofs.Resting.{nothing_waits}
use Rattle.pc_protocol.proofs.Settling.{above_test}
use Rattle.pc_protocol.proofs.Sleeping.{act_calm, kept, take_does}
use Rattle.pc_protocol.proofs.Stepping.{looks}

-- how often a CPU is among others
abbrev one : ℕ → ℕ → ℕ
one c d = if d == c then 1 else 0

abbrev times : ℕ → List ℕ → ℕ
times c [] = 0
times c (d ∷ ds) = one c d + times c ds

one_same : (c : ℕ) → one c c ≡ 1
one_same c = elim (eqb_tells c c) [ inl e ↦ ap (λ b. if b then 1 else 0) e.0 | inr o ↦ absurd (o.1 refl) ]

one_other : (c d : ℕ) → (d ≡ c → ⊥) → one c d ≡ 0
one_other c d o = elim (eqb_tells d c) [ inl e ↦ absurd (o e.1) | inr e ↦ ap (λ b. if b then 1 else 0) e.0 ]

times_middle : (c d : ℕ) (before behind : List ℕ) → times c (before ++ d ∷ behind) ≡ one c d + times c (before ++ behind)
times_middle c d [] behind = refl
times_middle c d (x ∷ before) behind = let more = times_middle c d before behind in omega arith

times_last : (c d : ℕ) (xs : List ℕ) → times c (xs ++ d ∷ []) ≡ one c d + times c xs
times_last c d [] = refl
times_last c d (x ∷ xs) = let more = times_last c d xs in omega arith

among_times : (c : ℕ) (xs : List ℕ) → IsAmong c xs → 1 ≤ times c xs
among_times c [] h = absurd h
among_times c (x ∷ xs) (inl e) = let own : one c x ≡ 1 = ap (one c) e ∙ one_same c in omega arith
among_times c (x ∷ xs) (inr h) = let more = among_times c xs h in omega arith

-- what stands before and behind it
record Split (c : ℕ) (xs : List ℕ) : Type 0 where
  before : List ℕ
  behind : List ℕ
  is : xs ≡ before ++ c ∷ behind

split : (c : ℕ) (xs : List ℕ) → IsAmong c xs → Split c xs
split c [] h = absurd h
split c (x ∷ xs) (inl e) = record { before = []; behind = xs; is = ap (λ d. d ∷ xs) e }
split c (x ∷ xs) (inr h) = let s = split c xs h in record { before = x ∷ s.before; behind = s.behind; is = ap (λ ds. x ∷ ds) s.is }

abbrev busy : Option ℕ → ℕ
busy None = 0
busy (Some t) = 1

-- lives
same_head : (d e : Deed) (ds es : List Deed) → d ∷ ds ≡ e ∷ es → d ≡ e
same_head d e ds es h = cc

same_tail : (d e : Deed) (ds es : List Deed) → d ∷ ds ≡ e ∷ es → ds ≡ es
same_tail d e ds es h = cc

no_deed : (d : Deed) (ds : List Deed) → [] ≡ d ∷ ds → ⊥
no_deed d ds e = cc

next_of : (deed : Deed) (rest before : List Deed) (ran : ℕ) → deed ∷ rest ≡ before ++ record { leaving = how.Die; ran = ran } ∷ []
    → All (λ d. d.leaving ≡ how.Die → ⊥) before → ((deed.leaving ≡ how.Die) × (rest ≡ [])) ⊎ ((deed.leaving ≡ how.Die → ⊥) × IsLife rest)
next_of deed rest [] ran e all =
    inl (ap (λ (d : Deed). d.leaving) (same_head deed record { leaving = how.Die; ran = ran } rest [] e), same_tail deed record { leaving = how.Die; ran = ran } rest [] e)
next_of deed rest (b ∷ before) ran e all =
    let more : List Deed = before ++ record { leaving = how.Die; ran = ran } ∷ [] in
    inr (
      subst (λ (d : Deed). d.leaving ≡ how.Die → ⊥) (sym (same_head deed b rest more e)) (all 0 b (omega arith)),
      record { before = before; ran = ran; ends = same_tail deed b rest more e; goes_on = λ i d low. all (suc i) d (omega arith) },
    )

life_next : (deed : Deed) (rest : List Deed) → IsLife (deed ∷ rest) → ((deed.leaving ≡ how.Die) × (rest ≡ [])) ⊎ ((deed.leaving ≡ how.Die → ⊥) × IsLife rest)
life_next deed rest life = next_of deed rest life.before life.ran life.ends life.goes_on

-- a life has a deed
some_of : (deeds before : List Deed) (last : Deed) → deeds ≡ before ++ last ∷ [] → (deed : Deed) × (rest : List Deed) × (deeds ≡ deed ∷ rest)
some_of deeds [] last e = (last, [], e)
some_of deeds (b ∷ before) last e = (b, before ++ last ∷ [], e)

-- threads, of which those below a number have plans
data Fate (n : ℕ) (r : Drive) (t : ℕ) : Type 0 where
  gone : n ≤ t → r.left t ≡ [] → kinds (kernel_of r) t ≡ [] → (r.blocked ≡ Some t → ⊥) → Fate n r t
  over : r.left t ≡ [] → phase_of (kinds (kernel_of r) t) ≡ Some phase.Dead → (r.blocked ≡ Some t → ⊥) → Fate n r t
  lives : IsLife (r.left t) → phase_of (kinds (kernel_of r) t) ≡ Some phase.Ready → (r.blocked ≡ Some t → ⊥) → Fate n r t
  stuck : IsLife (r.left t) → phase_of (kinds (kernel_of r) t) ≡ Some phase.Blocked → r.blocked ≡ Some t → Fate n r t

pub record IsSteady (n : ℕ) (r : Drive) : Type 0 where
  fate : (t : ℕ) → Fate n r t
  allowed : (t : ℕ) → t < n → IsAllowed (kernel_of r) t
  level : (t : ℕ) → last_given level_given (kinds (kernel_of r) t) ≡ None
  told : (c : ℕ) → times c r.told ≡ busy ((kernel_of r).on c)

-- a thread whose kinds, deeds and wake stay
fate_same : (n : ℕ) (r new : Drive) (t : ℕ) → kinds (kernel_of new) t ≡ kinds (kernel_of r) t → new.left t ≡ r.left t
    → (new.blocked ≡ Some t → r.blocked ≡ Some t) → (r.blocked ≡ Some t → new.blocked ≡ Some t) → Fate n r t → Fate n new t
fate_same n r new t same left back on (gone high none unknown free) = gone high (left ∙ none) (same ∙ unknown) (λ e. free (back e))
fate_same n r new t same left back on (over none is free) = over (left ∙ none) (ap phase_of same ∙ is) (λ e. free (back e))
fate_same n r new t same left back on (lives life is free) = lives (subst IsLife (sym left) life) (ap phase_of same ∙ is) (λ e. free (back e))
fate_same n r new t same left back on (stuck life is was) = stuck (subst IsLife (sym left) life) (ap phase_of same ∙ is) (on was)

no_name : (t : ℕ) → ◌≡◌ {A = Option ℕ} None (Some t) → ⊥
no_name t e = cc

not_both : (p q : Phase) (o : Option Phase) → o ≡ Some p → o ≡ Some q → (p ≡ q → ⊥) → ⊥
not_both p q o e f apart = apart (same_Some p q (sym e ∙ f))

dead_not_ready : phase.Dead ≡ phase.Ready → ⊥
dead_not_ready e = cc

blocked_not_ready : phase.Blocked ≡ phase.Ready → ⊥
blocked_not_ready e = cc

no_phase : (p : Phase) → ◌≡◌ {A = Option Phase} None (Some p) → ⊥
no_phase p e = cc

-- what a step of an agent leaves
record Serves (p new : Protocol) (c : ℕ) : Type 0 where
  kinds_same : (t : ℕ) → kinds new.world.kernel t ≡ kinds p.world.kernel t
  limits : new.world.kernel.limits ≡ p.world.kernel.limits
  on : (d t : ℕ) → p.world.kernel.on d ≡ Some t → new.world.kernel.on d ≡ Some t
  on_others : (d : ℕ) → (d ≡ c → ⊥) → new.world.kernel.on d ≡ p.world.kernel.on d

serves_kernel : (p new : Protocol) (c : ℕ) → new.world.kernel ≡ p.world.kernel → Serves p new c
serves_kernel p new c same = record {
  kinds_same = λ t. ap (λ (P : PlainKernel). kinds P t) same;
  limits = ap (λ (P : PlainKernel). P.limits) same;
  on = λ d t e. ap (λ (P : PlainKernel). P.on d) same ∙ e;
  on_others = λ d o. ap (λ (P : PlainKernel). P.on d) same;
}

module _ (laws : KernelLaws) (rules : ℕ → Rules) (limits : Limits) (p : Protocol) (comes : Comes rules limits p) where
  pub good_at : IsGood limits p.world
  good_at = reached_good laws limits p.world (reaches laws rules limits p comes)

  pub placed_at : (c t : ℕ) → IsPlaced p.world.kernel c t
  placed_at c t = subst (λ P. IsPlaced P c t) (sym good_at.replayed) (laws.placed limits good_at.calls c t)

  module _ (new : Protocol) (c : ℕ) (there : is_cpu (shown p.world.kernel) c ≡ true) where
    serves : IsLook p c new ⊎ (IsPut p c new ⊎ (IsAct p c new ⊎ IsTake p c new)) → Serves p new c
    serves (inl look) = serves_kernel p new c (ap (λ (w : PlainWorld). w.kernel) (looks p.world c look.told new.world there look.step))
    serves (inr (inl put)) = serves_kernel p new c (ap (λ (w : PlainWorld). w.kernel) put.world)
    serves (inr (inr (inl act))) =
        let calm = act_calm laws limits p new good_at (kept laws rules limits p comes) c there act in
        record {
          kinds_same = λ t. ap (λ posts. filter_map (λ (one : Post). kind_in t one.item) posts) calm.posts;
          limits = calm.limits;
          on = calm.on;
          on_others = calm.on_others;
        }
    serves (inr (inr (inr take))) = serves_kernel p new c (take_does laws limits p new good_at (kept laws rules limits p comes) c there take).kernel

-- an agent's step
noticed : (c d : ℕ) (old new : ℕ → Option ℕ) (told : List ℕ) → ((d t : ℕ) → old d ≡ Some t → new d ≡ Some t) → ((d : ℕ) → (d ≡ c → ⊥) → new d ≡ old d)
    → times d told ≡ busy (old d) → times d (noticing c (old c) (new c) told) ≡ busy (new d)
noticed c d old new told on others was = by_old (old c) (new c) refl refl
  where
    kept_told : new d ≡ old d → times d told ≡ busy (new d)
    kept_told same = was ∙ ap busy (sym same)

    same_at : (o : Option ℕ) → old c ≡ o → new c ≡ o → new d ≡ old d
    same_at o e f = elim (cases_eq d c) [
      | inl own ↦ ap new own ∙ f ∙ sym e ∙ ap old (sym own)
      | inr o ↦ others d o
    ]

    by_old : (o n : Option ℕ) → old c ≡ o → new c ≡ n → times d (noticing c o n told) ≡ busy (new d)
    by_old None None e f = kept_told (same_at None e f)
    by_old (Some u) n e f = kept_told (same_at (Some u) e (on c u e))
    by_old None (Some t) e f = times_last d c told ∙ elim (cases_eq d c) [
      | inl own ↦
          let here : one d c ≡ 1 = ap (λ x. one x c) own ∙ one_same c in
          let none : times d told ≡ 0 = was ∙ ap busy (ap old own ∙ e) in
          let some : busy (new d) ≡ 1 = ap busy (ap new own ∙ f) in
          omega arith
      | inr o ↦
          let elsewhere : one d c ≡ 0 = one_other d c (λ e. o (sym e)) in
          let same : busy (new d) ≡ busy (old d) = ap busy (others d o) in
          omega arith
    ]

module _ (n : ℕ) (r new : Drive) (h : IsSteady n r) where
  abbrev K : PlainKernel
  K = kernel_of r

  abbrev L : PlainKernel
  L = kernel_of new

  -- where kinds, deeds and wakes stay
  steady_same : ((t : ℕ) → kinds L t ≡ kinds K t) → L.limits ≡ K.limits → new.left ≡ r.left → new.blocked ≡ r.blocked → ((c : ℕ) → times c new.told ≡ busy (L.on c)) → IsSteady n new
  steady_same same limits left blocked told = record {
    fate = λ t. fate_same n r new t (same t) (ap (λ (f : ℕ → List Deed). f t) left) (λ e. sym blocked ∙ e) (λ e. blocked ∙ e) (h.fate t);
    allowed = λ t low. allowed_on K L t limits (ap mask_of (same t)) (h.allowed t low);
    level = λ t. ap (last_given level_given) (same t) ∙ h.level t;
    told = told;
  }

  steady_lost : IsLost r new → IsSteady n new
  steady_lost lost =
      let kernel : L ≡ K = ap (λ (w : PlainWorld). w.kernel) lost.step.world in
      steady_same (λ t. ap (λ (P : PlainKernel). kinds P t) kernel) (ap (λ (P : PlainKernel). P.limits) kernel) lost.left lost.blocked
      (λ c. ap (times c) lost.told ∙ h.told c ∙ ap (λ (P : PlainKernel). busy (P.on c)) (sym kernel))

  steady_served : (c : ℕ) → IsServed r c new → Serves r.protocol new.protocol c → IsSteady n new
  steady_served c served did =
      steady_same did.kinds_same did.limits served.left served.blocked
      (λ d. ap (times d) served.told ∙ noticed c d K.on L.on r.told did.on did.on_others (h.told d))

  -- one thread's kinds go on
  module _ (s : ℕ) (k : Kind) (adds : Adds K L s k) (limits : L.limits ≡ K.limits) (mask : (ks : List Kind) → mask_of (ks ++ k ∷ []) ≡ mask_of ks)
      (level : (ks : List Kind) → last_given level_given (ks ++ k ∷ []) ≡ last_given level_given ks) where
    one_allowed : (t : ℕ) → t < n → IsAllowed L t
    one_allowed t low = allowed_on K L t limits (by_thread (cases_eq t s)) (h.allowed t low)
      where
        by_thread : (t ≡ s) ⊎ (t ≡ s → ⊥) → mask_of (kinds L t) ≡ mask_of (kinds K t)
        by_thread (inl own) = ap (λ t. mask_of (kinds L t)) own ∙ ap mask_of adds.own ∙ mask (kinds K s) ∙ ap (λ t. mask_of (kinds K t)) (sym own)
        by_thread (inr o) = ap mask_of (adds.other t o)

    one_level : (t : ℕ) → last_given level_given (kinds L t) ≡ None
    one_level t = elim (cases_eq t s) [
      | inl own ↦ ap (λ t. last_given level_given (kinds L t)) own ∙ ap (last_given level_given) adds.own ∙ level (kinds K s) ∙ h.level s
      | inr o ↦ ap (last_given level_given) (adds.other t o) ∙ h.level t
    ]

  -- the driver wakes
  module _ (s : ℕ) (woken : IsWoken r s new) where
    abbrev W : PlainKernel
    W = changed K (call.Env (Wake s))

    woke : L ≡ W
    woke = ap (λ (w : PlainWorld). w.kernel) (accepts r.protocol (Wake s) new.protocol woken.accepted).world

    woke_adds : Adds K L s kind.Wakeup
    woke_adds = subst (λ Q. Adds K Q s kind.Wakeup) (sym woke) (wake_adds K s)

    free : (t : ℕ) → new.blocked ≡ Some t → ⊥
    free t e = no_name t (sym woken.blocked ∙ e)

    own_fate : Fate n r s → Fate n new s
    own_fate (gone high none unknown not) = absurd (not woken.was)
    own_fate (over none is not) = absurd (not woken.was)
    own_fate (lives life is not) = absurd (not woken.was)
    own_fate (stuck life is was) =
        lives (subst IsLife (sym (ap (λ (f : ℕ → List Deed). f s) woken.left)) life) (ap phase_of woke_adds.own ∙ last_given-push phase_given (kinds K s) kind.Wakeup) (free s)

    woken_fate : (t : ℕ) → Fate n new t
    woken_fate t = elim (cases_eq t s) [
      | inl own ↦ subst (Fate n new) (sym own) (own_fate (h.fate s))
      | inr o ↦ fate_same n r new t (woke_adds.other t o) (ap (λ (f : ℕ → List Deed). f t) woken.left) (λ e. absurd (free t e))
          (λ e. absurd (o (same_Some t s (sym e ∙ woken.was)))) (h.fate t)
    ]

    steady_woken : IsSteady n new
    steady_woken =
        let limits : L.limits ≡ K.limits = ap (λ (P : PlainKernel). P.limits) woke in
        let mask : (ks : List Kind) → mask_of (ks ++ kind.Wakeup ∷ []) ≡ mask_of ks = λ ks. last_given-push mask_given ks kind.Wakeup in
        let level : (ks : List Kind) → last_given level_given (ks ++ kind.Wakeup ∷ []) ≡ last_given level_given ks = λ ks. last_given-push level_given ks kind.Wakeup in
        record {
          fate = woken_fate;
          allowed = one_allowed s kind.Wakeup woke_adds limits mask level;
          level = one_level s kind.Wakeup woke_adds limits mask level;
          told = λ c. ap (times c) woken.told ∙ h.told c ∙ ap (λ (P : PlainKernel). busy (P.on c)) (sym woke);
        }

  -- a thread does its next deed
  module _ (c : ℕ) (done : IsDone r c new) where
    abbrev s : ℕ
    s = done.thread

    abbrev way : Leaving
    way = done.deed.leaving

    abbrev k : Kind
    k = kind_by way done.deed.ran

    abbrev D : PlainKernel
    D = changed K (call.Env (call_for way c done.deed.ran))

    did : L ≡ D
    did = ap (λ (w : PlainWorld). w.kernel) (accepts r.protocol (call_for way c done.deed.ran) new.protocol done.accepted).world

    done_adds : Adds K L s k
    done_adds = subst (λ Q. Adds K Q s k) (sym did) (leaving_adds K way c done.deed.ran s done.runs)

    phase_then : phase_of (kinds L s) ≡ Some (phase_behind way)
    phase_then = ap phase_of done_adds.own ∙ phase_left way done.deed.ran (kinds K s)

    left_then : new.left s ≡ done.rest
    left_then = ap (λ (f : ℕ → List Deed). f s) done.left ∙ at_same r.left s done.rest

    has_life : Fate n r s → IsLife (done.deed ∷ done.rest)
    has_life (gone high none unknown not) = absurd (no_deed done.deed done.rest (sym none ∙ done.next))
    has_life (over none is not) = absurd (no_deed done.deed done.rest (sym none ∙ done.next))
    has_life (lives life is not) = subst IsLife done.next life
    has_life (stuck life is was) = absurd (no_name s (sym done.free ∙ was))

    goes_by : (by : Leaving) → way ≡ by → IsLife done.rest → (by ≡ how.Die → ⊥) → Fate n new s
    goes_by how.Yield e life other = lives (subst IsLife (sym left_then) life) (phase_then ∙ ap (λ w. Some (phase_behind w)) e) (λ b. no_name s (sym (done.blocked ∙ ap (λ w. blocked_by w s) e) ∙ b))
    goes_by how.Preempt e life other = lives (subst IsLife (sym left_then) life) (phase_then ∙ ap (λ w. Some (phase_behind w)) e) (λ b. no_name s (sym (done.blocked ∙ ap (λ w. blocked_by w s) e) ∙ b))
    goes_by how.Block e life other = stuck (subst IsLife (sym left_then) life) (phase_then ∙ ap (λ w. Some (phase_behind w)) e) (done.blocked ∙ ap (λ w. blocked_by w s) e)
    goes_by how.Die e life other = absurd (other refl)

    done_own : Fate n new s
    done_own = elim (life_next done.deed done.rest (has_life (h.fate s))) [
      | inl last ↦ over (left_then ∙ last.1) (phase_then ∙ ap (λ w. Some (phase_behind w)) last.0) (λ b. no_name s (sym (done.blocked ∙ ap (λ w. blocked_by w s) last.0) ∙ b))
      | inr more ↦ goes_by way refl more.1 more.0
    ]

    blocks_own : (w : Leaving) (t : ℕ) → blocked_by w s ≡ Some t → s ≡ t
    blocks_own how.Block t e = same_Some s t e
    blocks_own how.Yield t e = absurd (no_name t e)
    blocks_own how.Preempt t e = absurd (no_name t e)
    blocks_own how.Die t e = absurd (no_name t e)

    done_fate : (t : ℕ) → Fate n new t
    done_fate t = elim (cases_eq t s) [
      | inl own ↦ subst (Fate n new) (sym own) done_own
      | inr o ↦ fate_same n r new t (done_adds.other t o) (ap (λ (f : ℕ → List Deed). f t) done.left ∙ at_other r.left s t done.rest o)
          (λ e. absurd (o (sym (blocks_own way t (sym done.blocked ∙ e))))) (λ e. absurd (no_name t (sym done.free ∙ e))) (h.fate t)
    ]

    done_told : (d : ℕ) → times d new.told ≡ busy (L.on d)
    done_told d =
        let all : times d r.told ≡ one d c + times d (done.before ++ done.behind) = ap (times d) done.was_told ∙ times_middle d c done.before done.behind in
        let here : times d new.told ≡ times d (done.before ++ done.behind) = ap (times d) done.told in
        let on : L.on d ≡ at K.on c None d = ap (λ (P : PlainKernel). P.on d) did ∙ leaving_on K way c done.deed.ran d in
        let was = h.told d in
        elim (cases_eq d c) [
          | inl own ↦
              let once : one d c ≡ 1 = ap (λ x. one x c) own ∙ one_same c in
              let ran : busy (K.on d) ≡ 1 = ap busy (ap K.on own ∙ done.runs) in
              let none : busy (L.on d) ≡ 0 = ap busy (on ∙ ap (at K.on c None) own ∙ at_same K.on c None) in
              omega arith
          | inr o ↦
              let never : one d c ≡ 0 = one_other d c (λ e. o (sym e)) in
              let same : busy (L.on d) ≡ busy (K.on d) = ap busy (on ∙ at_other K.on c d None o) in
              omega arith
        ]

    steady_done : IsSteady n new
    steady_done =
        let limits : L.limits ≡ K.limits = ap (λ (P : PlainKernel). P.limits) did ∙ leaving_limits K way c done.deed.ran in
        record {
          fate = done_fate;
          allowed = one_allowed s k done_adds limits (mask_left way done.deed.ran) (level_left way done.deed.ran);
          level = one_level s k done_adds limits (mask_left way done.deed.ran) (level_left way done.deed.ran);
          told = done_told;
        }

-- a call that is not refused is accepted
can_call : (p : Protocol) (made : EnvCall) → refused (shown p.world.kernel) (call.Env made) ≡ None → (new : Protocol) × IsAccepted p made new
can_call p made none =
    let K = p.world.kernel in
    let posted = receipt (posting K made) in (
      record { world = record p.world { kernel = after K (call.Env made) }; stages = p.stages; mails = p.mails; boxes = rousing posted.woken p.boxes },
      record {
        called = record {
          call = made;
          told = reply.Posted posted;
          step = record { tells = sym (ap (λ o. told_of (call.Env made) (reply_of o (accepted K (call.Env made)))) none); after = refl };
          stages = refl;
          mails = refl;
          boxes = refl;
        };
        is_made = refl;
        posted = posted;
        answered = refl;
      },
    )

pub can_wake : (r : Drive) (t : ℕ) → r.blocked ≡ Some t → ((new : Drive) × IsWoken r t new) ⊎ IsRefused (kernel_of r) (Wake t)
can_wake r t was = by_refused (refused (shown (kernel_of r)) (call.Env (Wake t))) refl
  where
    by_refused : (o : Option Refusal) → refused (shown (kernel_of r)) (call.Env (Wake t)) ≡ o → ((new : Drive) × IsWoken r t new) ⊎ IsRefused (kernel_of r) (Wake t)
    by_refused (Some why) e = inr (why, e)
    by_refused None e =
        let did = can_call r.protocol (Wake t) e in
        inl (
          record { protocol = did.0; left = r.left; told = r.told; blocked = None },
          record { was = was; accepted = did.1; left = refl; told = refl; blocked = refl },
        )

-- the start
created_comes : (rules : ℕ → Rules) (limits : Limits) (plans : List Plan) (p new : Protocol) → Comes rules limits p → AreCreated p plans new → Comes rules limits new
created_comes rules limits [] p new comes h = subst (Comes rules limits) (sym h) comes
created_comes rules limits (plan ∷ plans) p new comes h =
    created_comes rules limits plans h.0 new (goes_on comes (inl h.1.called)) h.2

all_created : (plans : List Plan) (p new : Protocol) (n : ℕ) → HasCreated p.world.kernel n → AreCreated p plans new → HasCreated new.world.kernel (n + length plans)
all_created [] p new n has h =
    let same : n ≡ n + length {A = Plan} [] = omega arith in
    subst (HasCreated new.world.kernel) same (subst (λ (q : Protocol). HasCreated q.world.kernel n) (sym h) has)
all_created (plan ∷ plans) p new n has h =
    let did = accepts p (Create plan.queue true plan.mask) h.0 h.1 in
    let kernel : h.0.world.kernel ≡ changed p.world.kernel (call.Env (Create plan.queue true plan.mask)) = ap (λ (w : PlainWorld). w.kernel) did.world in
    let one = subst (λ Q. HasCreated Q (suc n)) (sym kernel) (one_created p.world.kernel n plan.queue plan.mask has did.none) in
    let same : suc n + length plans ≡ n + length (plan ∷ plans) = omega arith in
    subst (HasCreated new.world.kernel) same (all_created plans h.0 new (suc n) one h.2)

below_or_not : (t n : ℕ) → (t < n) ⊎ (n ≤ t)
below_or_not t n = elim (cases_lt t n) [ inl low ↦ inl low | inr high ↦ inr (omega arith) ]

-- what is asked of a thread that has a plan, and of one that has none
asked_life : (plans : List Plan) → All (λ plan. IsLife plan.deeds) plans → (t : ℕ) → t < length plans → IsLife (asked plans t)
asked_life [] all t low = absurd (omega arith)
asked_life (plan ∷ plans) all zero low = all 0 plan (omega arith)
asked_life (plan ∷ plans) all (suc t) low = asked_life plans (λ i d below. all (suc i) d (omega arith)) t (omega arith)

asked_none : (plans : List Plan) (t : ℕ) → length plans ≤ t → asked plans t ≡ []
asked_none [] t high = refl
asked_none (plan ∷ plans) zero high = absurd (omega arith)
asked_none (plan ∷ plans) (suc t) high = asked_none plans t (omega arith)

module _ (laws : KernelLaws) (rules : ℕ → Rules) (limits : Limits) (plans : List Plan) (living : All (λ plan. IsLife plan.deeds) plans) where
  pub drive_comes : (r : Drive) → Driven rules limits plans r → Comes rules limits r.protocol
  drive_comes r (created {p = p} made) = created_comes rules limits plans (opening rules limits) p starts made
  drive_comes r (onward {r = old} driven (inl served)) = goes_on (drive_comes old driven) (inr (inr (served.0, served.1.step)))
  drive_comes r (onward {r = old} driven (inr (inl lost))) = goes_on (drive_comes old driven) (inr (inl lost.step))
  drive_comes r (onward {r = old} driven (inr (inr (inl done)))) = goes_on (drive_comes old driven) (inl done.1.accepted.called)
  drive_comes r (onward {r = old} driven (inr (inr (inr woken)))) = goes_on (drive_comes old driven) (inl woken.1.accepted.called)

  abbrev count : ℕ
  count = length plans

  steady_start : (p : Protocol) → AreCreated (opening rules limits) plans p → IsSteady count (record { protocol = p; left = asked plans; told = []; blocked = None })
  steady_start p made =
      let zero_first : 0 + length plans ≡ length plans = omega arith in
      let has = subst (HasCreated p.world.kernel) zero_first (all_created plans (opening rules limits) p 0 (none_created limits) made) in
      record {
        fate = λ t. elim (below_or_not t count) [
          | inl low ↦ lives (asked_life plans living t low) (has.ready t low) (λ e. no_name t e)
          | inr high ↦ gone high (asked_none plans t high) (has.absent t high) (λ e. no_name t e)
        ];
        allowed = has.allowed;
        level = has.level;
        told = λ c. ap busy (sym (has.idle c));
      }

  steady : (r : Drive) → Driven rules limits plans r → IsSteady count r
  steady r (created {p = p} made) = steady_start p made
  steady r (onward {r = old} driven (inl served)) =
      steady_served count old r (steady old driven) served.0 served.1
      (serves laws rules limits old.protocol (drive_comes old driven) r.protocol served.0 served.1.step.there served.1.step.step)
  steady r (onward {r = old} driven (inr (inl lost))) = steady_lost count old r (steady old driven) lost
  steady r (onward {r = old} driven (inr (inr (inl done)))) = steady_done count old r (steady old driven) done.0 done.1
  steady r (onward {r = old} driven (inr (inr (inr woken)))) = steady_woken count old r (steady old driven) woken.0 woken.1

  -- at rest
  ranked : (ranks : Ranking) (o : Option Phase) (m : Option ℕ) (ran level c t : ℕ) → o ≡ Some phase.Ready → option_map_or (λ mask. allows mask c) m false ≡ true → level ≤ 7
      → ((t : ℕ) (state : Reported) → state.level ≤ 7 → is_some (ranks c t state) ≡ true) → is_some (rank_told ranks c t (report o m ran level)) ≡ true
  ranked ranks None m ran level c t e f low all = cc
  ranked ranks (Some phase.Blocked) m ran level c t e f low all = cc
  ranked ranks (Some phase.Dead) m ran level c t e f low all = cc
  ranked ranks (Some phase.Ready) None ran level c t e f low all = cc
  ranked ranks (Some phase.Ready) (Some mask) ran level c t e f low all =
      let state : Reported = record { phase = phase.Ready; mask = mask; ran = ran; level = level } in
      ap (λ b. is_some (if b then ranks c t state else None)) f ∙ all t state low

  module _ (r : Drive) (driven : Driven rules limits plans r) where
    abbrev P : PlainKernel
    P = kernel_of r

    taken_by : (c t : ℕ) → TakesEach (rules c) c → phase_of (kinds P t) ≡ Some phase.Ready → option_map_or (λ mask. allows mask c) (mask_of (kinds P t)) false ≡ true → IsStolenBy (rules c) P c t
    taken_by c t (inl loose) is may = inl loose
    taken_by c t (inr all) is may =
        let ks = kinds P t in
        let none : level_of ks ≡ 0 = ap (λ o. unwrap_or o 0) ((steady r driven).level t) in
        inr (ranked (rules c).ranks (phase_of ks) (mask_of ks) (ran_of ks) (level_of ks) c t is may (omega arith) all)

    module _ (greatest : IsGreatest) (takes : (c : ℕ) → c < cpus_of r.protocol → TakesEach (rules c) c) (still : IsStill r) where
      none_runs : (c t : ℕ) → P.on c ≡ Some t → ⊥
      none_runs c t e =
          let told : times c r.told ≡ busy (P.on c) = (steady r driven).told c in
          let none : times c r.told ≡ 0 = ap (times c) still.none_told in
          let some : busy (P.on c) ≡ 1 = ap busy e in
          omega arith

      none_ready : (t : ℕ) → t < count → phase_of (kinds P t) ≡ Some phase.Ready → ⊥
      none_ready t low is = by_place (place_of P t) refl
        where
          by_on : (c : ℕ) → c < P.limits.cpus → option_map_or (λ mask. allows mask c) (mask_of (kinds P t)) false ≡ true → place_of P t ≡ None → (o : Option ℕ) → P.on c ≡ o → ⊥
          by_on c there may nowhere (Some u) e = none_runs c u e
          by_on c there may nowhere None e =
              nothing_waits laws rules limits r.protocol (drive_comes r driven) still.rests greatest c t record { there = above_test c P.limits.cpus there; idle = e }
              record {
                ready = is;
                allowed = ap (λ ks. option_map_or (λ mask. allows mask c) (mask_of ks) false) ((laws.reads P).kinds t) ∙ may;
                nowhere = nowhere;
              } (taken_by c t (takes c there) is may)

          by_place : (o : Option ℕ) → place_of P t ≡ o → ⊥
          by_place (Some c) e = none_runs c t (place_has P t c e)
          by_place None e = let h = (steady r driven).allowed t low in by_on h.0 h.1 h.2 e (P.on h.0) refl

      by_fate : (t : ℕ) → t < count → Fate count r t → phase_of (kinds P t) ≡ Some phase.Dead
      by_fate t low (gone high none unknown not) = absurd (omega arith)
      by_fate t low (over none is not) = is
      by_fate t low (lives life is not) = absurd (none_ready t low is)
      by_fate t low (stuck life is was) = absurd (no_name t (sym still.none_blocked ∙ was))

      pub all_dead : (t : ℕ) → t < count → phase_of (kinds P t) ≡ Some phase.Dead
      all_dead t low = by_fate t low ((steady r driven).fate t)

    -- on each CPU of which the driver was told a thread runs that has a deed left
    module _ (c : ℕ) (among : IsAmong c r.told) (free : r.blocked ≡ None) where
      runs_some : (o : Option ℕ) → P.on c ≡ o → (t : ℕ) × (P.on c ≡ Some t)
      runs_some (Some t) e = (t, e)
      runs_some None e =
          let told : times c r.told ≡ busy (P.on c) = (steady r driven).told c in
          let none : busy (P.on c) ≡ 0 = ap busy e in
          let some = among_times c r.told among in
          absurd (omega arith)

      life_of : (t : ℕ) → phase_of (kinds P t) ≡ Some phase.Ready → Fate count r t → IsLife (r.left t)
      life_of t is (gone high none unknown not) = absurd (no_phase phase.Ready (sym (ap phase_of unknown) ∙ is))
      life_of t is (over none ended not) = absurd (not_both phase.Dead phase.Ready (phase_of (kinds P t)) ended is dead_not_ready)
      life_of t is (lives life same not) = life
      life_of t is (stuck life stopped was) = absurd (not_both phase.Blocked phase.Ready (phase_of (kinds P t)) stopped is blocked_not_ready)

      pub has_deed : HasDeed r c
      has_deed =
          let t = runs_some (P.on c) refl in
          let is = (placed_at laws rules limits r.protocol (drive_comes r driven) c t.0).ready t.1 in
          let life = life_of t.0 is ((steady r driven).fate t.0) in
          let some = some_of (r.left t.0) life.before record { leaving = how.Die; ran = life.ran } life.ends in
          record {
            thread = t.0;
            runs = t.1;
            deed = some.0;
            rest = some.1;
            next = some.2;
            goes = by_refused t.0 t.1 some.0 some.1 some.2 (split c r.told among) (refused (shown P) (call.Env (call_for some.0.leaving c some.0.ran))) refl;
          }
        where
          by_refused : (t : ℕ) → P.on c ≡ Some t → (deed : Deed) (rest : List Deed) → r.left t ≡ deed ∷ rest → Split c r.told → (o : Option Refusal)
              → refused (shown P) (call.Env (call_for deed.leaving c deed.ran)) ≡ o → ((new : Drive) × IsDone r c new) ⊎ IsRefused P (call_for deed.leaving c deed.ran)
          by_refused t runs deed rest next s (Some why) e = inr (why, e)
          by_refused t runs deed rest next s None e =
              let did = can_call r.protocol (call_for deed.leaving c deed.ran) e in
              inl (
                record { protocol = did.0; left = at r.left t rest; told = s.before ++ s.behind; blocked = blocked_by deed.leaving t },
                record {
                  free = free;
                  before = s.before;
                  behind = s.behind;
                  was_told = s.is;
                  thread = t;
                  runs = runs;
                  deed = deed;
                  rest = rest;
                  next = next;
                  accepted = did.1;
                  left = refl;
                  told = refl;
                  blocked = refl;
                },
              )

    -- a step of the run, where there is one
    module _ (steps : EveryEventHasAStep) where
      abbrev Someone : Type 0
      Someone = (c : ℕ) × ((q : Protocol) × OfAgent r.protocol c q)

      who_goes : (n : ℕ) → n ≤ cpus_of r.protocol → Someone ⊎ ((c : ℕ) → c < n → IsWaiting r.protocol c)
      who_goes zero low = inr (λ c below. absurd (omega arith))
      who_goes (suc n) low = elim (who_goes n (omega arith)) [
        | inl some ↦ inl some
        | inr none ↦ elim (goes steps limits r.protocol n (reaches laws rules limits r.protocol (drive_comes r driven)) (above_test n (cpus_of r.protocol) (omega arith))) [
          | inl step ↦ inl (n, step)
          | inr waiting ↦ inr (λ c below. elim (cases_eq c n) [
            | inl last ↦ subst (IsWaiting r.protocol) (sym last) waiting
            | inr other ↦ none c (omega (arith, other))
          ])
        ]
      ]

      abbrev Onward : Type 0
      Onward = ((new : Drive) × Drives r new) ⊎ (IsStill r ⊎ IsHalted r)

      by_deed : (c : ℕ) → IsAmong c r.told → r.blocked ≡ None → HasDeed r c → Onward
      by_deed c among free d = elim d.goes [
        | inl step ↦ inl (step.0, inr (inr (inl (c, step.1))))
        | inr refuses ↦ inr (inr (at_deed c d.thread d.deed d.rest free (among_contains c r.told among) d.runs d.next refuses))
      ]

      by_told : IsAtRest r.protocol → r.blocked ≡ None → (told : List ℕ) → r.told ≡ told → Onward
      by_told rests free [] e = inr (inl record { rests = rests; none_told = e; none_blocked = free })
      by_told rests free (c ∷ told) e = let among = subst (IsAmong c) (sym e) (inl refl) in by_deed c among free (has_deed c among free)

      by_blocked : IsAtRest r.protocol → (o : Option ℕ) → r.blocked ≡ o → Onward
      by_blocked rests None e = by_told rests e r.told refl
      by_blocked rests (Some t) e = elim (can_wake r t e) [
        | inl step ↦ inl (step.0, inr (inr (inr (t, step.1))))
        | inr refuses ↦ inr (inr (at_wake t e refuses))
      ]

      pub goes_onward : Onward
      goes_onward = elim (who_goes (cpus_of r.protocol) (omega arith)) [
        | inl some ↦
            let c = some.0 in
            let q = some.1.0 in
            inl (
              record { protocol = q; left = r.left; told = noticing c (P.on c) (q.world.kernel.on c) r.told; blocked = r.blocked },
              inl (c, record { step = some.1.1; left = refl; told = refl; blocked = refl }),
            )
        | inr all ↦ by_blocked record { waiting = λ c low. (all c low).waiting; empty = λ c low. (all c low).empty } r.blocked refl
      ]
