-- What mending comes to, from any world that is shown, and that nothing waited where nothing was ready.
use Rattle.std.proofs.Common.{◌≡◌, ℕ, ◌+◌, ◌<◌, ◌⊎◌, Bool, true, false, nat_lt, List, [], ◌∷◌, ◌++◌, length, Option, Some, None, MatchBool, MatchOption, is_some, refl, sym, ◌∙◌, ap, append_assoc, subst, inl, inr, arith, if◌then◌else◌}
use Rattle.std.specs.Option.{option_and_then, option_map}
use Rattle.std.proofs.lemmas.Bool.Decides.{nat_tests}
use Rattle.pc_messages.specs.State.{phase_of, state_of}
use Rattle.pc_calls.specs.declared.event.Event.{Event}
use Rattle.pc_calls.specs.declared.event.Event.TheVariants as event
use Rattle.pc_calls.specs.declared.event.Reply.{Reply}
use Rattle.pc_calls.specs.declared.event.Reply.TheVariants as reply
use Rattle.pc_calls.specs.declared.limits.Limits.{Limits}
use Rattle.pc_calls.specs.declared.refusal.Refusal.TheVariants as refusals
use Rattle.pc_kernel.specs.Answers.{Shows}
use Rattle.pc_kernel.specs.Exact.{ReadsArePlain}
use Rattle.pc_kernel.specs.PlainKernel.{PlainKernel, aseq, kinds, place_of}
use Rattle.pc_kernel.specs.PlainKernel as plain
use Rattle.pc_kernel.specs.Reads.{Reads, seen, shown, is_cpu, is_allowed_on, cpu_row, thread_row, aseq_of, on}
use Rattle.pc_kernel.specs.Reads as reads
use Rattle.pc_kernel.specs.Rows.{CpuRow, KernelRows, ThreadRow}
use Rattle.pc_policy.specs.Rules.{Rules}
use Rattle.pc_run_queue.specs.Runs.{rank_told}
use Rattle.pc_agent.specs.PlainAgent.{ready_list}
use Rattle.pc_world.specs.declared.parts.Parts.{Parts}
use Rattle.pc_world.specs.Mending.{AWaitingThreadCanBeRun, IsIdle, IsStolenBy, RunsSome, WaitsFor, clearing, hearing, learning, mending, mending_by_steal, picking}
use Rattle.pc_world.specs.Facts.{EveryEventHasAStep}
use Rattle.pc_world.specs.Mends.{IsCommit, IsMended, IsMending, MendedIsReached, MendsInPart, NoneWaits, TellsWhatRuns}
use Rattle.pc_world.specs.PlainWorld.{PlainWorld, opened_by}
use Rattle.pc_world.specs.Reached.{Reached}
use Rattle.pc_world.specs.Shows.{Does, IsReached, RunsOutAmong, ShowsWorld, deltas_of}
use Rattle.pc_world.specs.RanOut.{RanOutAmong}
use Rattle.pc_world.specs.Steps.{IsBadCpu, IsRefused, Runs, Step}
use Rattle.pc_world.specs.Inner.Laws.{KernelLaws}
use Rattle.pc_world.specs.Inner.Mends.{DoesAll, IsPickedLate, PicksOrSteals}
use Rattle.pc_world.proofs.Clearing.{get_at, runs_append}
use Rattle.pc_world.proofs.Determined.{Each, IsOfMending, each_both, each_clearing, each_hearing, runs_same, step_same}
use Rattle.pc_world.proofs.Lasting.{leads_more}
use Rattle.pc_world.proofs.Mended.{is_there, read_place}
use Rattle.pc_world.proofs.Picking.{picks}
use Rattle.pc_world.proofs.Places.{match_false, match_true}
use Rattle.pc_world.proofs.Sent.{sent_length}
use Rattle.pc_world.proofs.Staying.{IsQuiet, Stays, aseq_still, idle_still, runs_stay, step_stays}

-- a pick for an idle CPU, under the count of its posts: a thread is committed, or nothing was ready
abbrev pub Picks : PlainWorld → ℕ → Reply → PlainWorld → Type 0
Picks x c told new =
    ((t : ℕ) × (told ≡ reply.Committed c t) × (new.kernel.on c ≡ Some t)) ⊎ ((told ≡ reply.Refused refusals.NothingReady) × (new.kernel ≡ x.kernel))

pub pick_tells : (laws : KernelLaws) (x new : PlainWorld) (c n : ℕ) (told : Reply) → IsIdle x.kernel c → n ≡ aseq x.kernel c → Step x (event.Pick c n) told new → Picks x c told new
pick_tells laws x new c n told idle count step = elim (picks laws x c n idle count (ready_list (shown x.kernel) c n (x.agents c).list) refl) [
  | inl picked ↦
      let same = step_same x (event.Pick c n) tt told picked.told new picked.new step picked.step in
      inl (picked.runs.0, same.0 ∙ picked.commits, ap (λ (y : PlainWorld). y.kernel.on c) same.1 ∙ picked.runs.1)
  | inr none ↦
      let same = step_same x (event.Pick c n) tt told (reply.Refused refusals.NothingReady) new _ step none in
      inr (same.0, ap (λ (y : PlainWorld). y.kernel) same.1)
]

-- nothing was ready: what was done before the steal, and with it, and that nothing runs
pub record IsIdleStill (w : PlainWorld) (c : ℕ) (told : Reply) (new : PlainWorld) : Type 0 where
  pub is : told ≡ reply.Refused refusals.NothingReady
  pub idle : new.kernel.on c ≡ None
  pub before : PlainWorld
  pub early : List Reply
  pub picked : Runs w (mending w c) early before
  pub idle_before : before.kernel.on c ≡ None
  pub late : List Reply
  pub stolen : Runs w (mending_by_steal w c) late new

-- what the events came to
pub record Comes (w : PlainWorld) (c : ℕ) (told : Reply) (new : PlainWorld) : Type 0 where
  pub replies : List Reply
  pub runs : Runs w (mending w c) (replies ++ told ∷ []) new ⊎ Runs w (mending_by_steal w c) (replies ++ told ∷ []) new
  pub tells : ((t : ℕ) × (told ≡ reply.Committed c t) × (new.kernel.on c ≡ Some t)) ⊎ IsIdleStill w c told new

pub learning_quiet : (w : PlainWorld) (c : ℕ) → Each IsQuiet (learning w c)
learning_quiet w c =
    let cpus = w.kernel.limits.cpus in
    each_both IsQuiet (clearing cpus) (hearing c (length w.sent + cpus)) (each_clearing IsQuiet (λ c. tt) (λ c. tt) cpus) (each_hearing IsQuiet c (λ k. tt) (length w.sent + cpus))

learning_of : (w : PlainWorld) (c : ℕ) → Each IsOfMending (learning w c)
learning_of w c =
    let cpus = w.kernel.limits.cpus in
    each_both IsOfMending (clearing cpus) (hearing c (length w.sent + cpus)) (each_clearing IsOfMending (λ c. tt) (λ c. tt) cpus) (each_hearing IsOfMending c (λ k. tt) (length w.sent + cpus))

-- what was learnt, and then picked or stolen and picked
module _ (laws : KernelLaws) (w u : PlainWorld) (c : ℕ) (idle : IsIdle w.kernel c) (r : List Reply) (learnt : Runs w (learning w c) r u) where
  abbrev posts : ℕ
  posts = aseq w.kernel c

  stays : Stays w.kernel u.kernel
  stays = runs_stay w u (learning w c) r (learning_quiet w c) learnt

  idle_then : IsIdle u.kernel c
  idle_then = idle_still w.kernel u.kernel c stays idle

  count_then : posts ≡ aseq u.kernel c
  count_then = aseq_still w.kernel u.kernel c stays

  at_once : (told : Reply) (new : PlainWorld) → IsCommit told → Step u (event.Pick c posts) told new → Comes w c told new
  at_once told new commit step = record {
    replies = r;
    runs = inl (runs_append w u new (learning w c) (picking w c ∷ []) r (told ∷ []) learnt (new, step, refl));
    tells = by_pick (pick_tells laws u new c posts told idle_then count_then step);
  }
    where
      by_pick : Picks u c told new → ((t : ℕ) × (told ≡ reply.Committed c t) × (new.kernel.on c ≡ Some t)) ⊎ IsIdleStill w c told new
      by_pick (inl picked) = inl picked
      by_pick (inr none) = absurd (let some = commit.is in let refused = none.0 in let bad : ⊥ = cc in bad)

  after_steal : (told : Reply) (new : PlainWorld) → IsPickedLate c posts u told new → Comes w c told new
  after_steal told new late = by_first (pick_tells laws u late.between c posts late.first idle_then count_then late.picks)
    where
      rest : List Reply
      rest = late.first ∷ late.second ∷ told ∷ []

      ran : Runs w (mending_by_steal w c) (r ++ rest) new
      ran =
          runs_append w u new (learning w c) (picking w c ∷ event.Steal c ∷ picking w c ∷ []) r rest learnt
          (late.between, late.picks, (late.stolen, late.steals, (new, late.again, refl)))

      by_again : IsIdle late.between.kernel c → Picks late.stolen c told new → IsIdle late.stolen.kernel c
          → ((t : ℕ) × (told ≡ reply.Committed c t) × (new.kernel.on c ≡ Some t)) ⊎ IsIdleStill w c told new
      by_again idle_between (inl picked) idle_stolen = inl picked
      by_again idle_between (inr none_again) idle_stolen = inr record {
        is = none_again.0;
        idle = ap (λ (K : PlainKernel). K.on c) none_again.1 ∙ idle_stolen.idle;
        before = late.between;
        early = r ++ late.first ∷ [];
        picked = runs_append w u late.between (learning w c) (picking w c ∷ []) r (late.first ∷ []) learnt (late.between, late.picks, refl);
        idle_before = idle_between.idle;
        late = r ++ rest;
        stolen = ran;
      }

      by_first : Picks u c late.first late.between → Comes w c told new
      by_first (inl picked) = absurd (late.fails record { cpu = c; thread = picked.0; is = picked.1 })
      by_first (inr none) =
          let idle_between : IsIdle late.between.kernel c = subst (λ K. IsIdle K c) (sym none.1) idle_then in
          let count_between : posts ≡ aseq late.between.kernel c = count_then ∙ sym (ap (λ (K : PlainKernel). aseq K c) none.1) in
          let robbed = step_stays late.between late.stolen (event.Steal c) late.second tt late.steals in
          let idle_stolen = idle_still late.between.kernel late.stolen.kernel c robbed idle_between in
          let count_stolen : posts ≡ aseq late.stolen.kernel c = count_between ∙ aseq_still late.between.kernel late.stolen.kernel c robbed in
          record {
            replies = r ++ late.first ∷ late.second ∷ [];
            runs = inr (subst (λ l. Runs w (mending_by_steal w c) l new) (sym (append_assoc r (late.first ∷ late.second ∷ []) (told ∷ []))) ran);
            tells = by_again idle_between (pick_tells laws late.stolen new c posts told idle_stolen count_stolen late.again) idle_stolen;
          }

  pub comes : (told : Reply) (new : PlainWorld) → PicksOrSteals c posts u told new → Comes w c told new
  comes told new (inl once) = at_once told new once.0 once.1
  comes told new (inr late) = after_steal told new late

-- where nothing was ready, nothing waited
module _ (law : AWaitingThreadCanBeRun) (w : PlainWorld) (c : ℕ) (told : Reply) (new : PlainWorld) (still : IsIdleStill w c told new) (idle : IsIdle w.kernel c) where
  nothing_runs : (x : PlainWorld) → x.kernel.on c ≡ None → RunsSome c x → ⊥
  nothing_runs x none some = let runs = some.1 in let bad : ⊥ = cc in bad

  pub none_waited : (limits : Limits) → Reached limits w → NoneWaits w c
  none_waited limits reached t waits stolen = elim (law limits w c t reached idle waits stolen) [
    | inl led ↦
        let same : still.before ≡ led.new =
        runs_same w (mending w c) (each_both IsOfMending (learning w c) (picking w c ∷ []) (learning_of w c) (tt, tt)) still.early led.replies still.before led.new still.picked led.runs in
        nothing_runs led.new (subst (λ (x : PlainWorld). x.kernel.on c ≡ None) same still.idle_before) led.holds
    | inr led ↦
        let same : new ≡ led.new =
        runs_same w (mending_by_steal w c) (each_both IsOfMending (learning w c) (picking w c ∷ event.Steal c ∷ picking w c ∷ []) (learning_of w c) (tt, (tt, (tt, tt)))) still.late led.replies new led.new still.stolen led.runs in
        nothing_runs led.new (subst (λ (x : PlainWorld). x.kernel.on c ≡ None) same still.idle) led.holds
  ]

-- what waits in one of two worlds that show the same waits in the other
module _ (all_plain : ReadsArePlain) (P Q : PlainKernel) (same : shown P ≡ shown Q) where
  same_kinds : (t : ℕ) → kinds Q t ≡ kinds P t
  same_kinds t = sym ((all_plain Q).kinds t) ∙ sym (ap (λ (r : Reads). reads.kinds_read r t) same) ∙ (all_plain P).kinds t

  pub same_waits : (c t : ℕ) → WaitsFor P c t → WaitsFor Q c t
  same_waits c t waits =
      record {
        ready = ap phase_of (same_kinds t) ∙ waits.ready;
        allowed = sym (ap (λ (r : Reads). is_allowed_on r t c) same) ∙ waits.allowed;
        nowhere = here (plain.is_known Q t) (ap (λ ks. nat_lt 0 (length ks)) (same_kinds t) ∙ is_there all_plain P c t waits)
            (sym (ap (λ (r : Reads). reads.place r t) same) ∙ read_place all_plain P c t waits);
      }
    where
      here : (b : Bool) → b ≡ true → option_and_then (λ (row : ThreadRow). row.on) (if b then Some (thread_row Q t) else None) ≡ None → place_of Q t ≡ None
      here true e f = f
      here false e f = cc

  pub same_stolen : (rules other : Rules) (c t : ℕ) → rules ≡ other → IsStolenBy rules P c t → IsStolenBy other Q c t
  same_stolen rules other c t e stolen =
      subst (λ (r : Rules). IsStolenBy r Q c t) e
      (subst (λ ks. (rules.exact ≡ false) ⊎ (is_some (rank_told rules.ranks c t (state_of ks)) ≡ true)) (sym (same_kinds t)) stolen)

-- a CPU whose count of posts is told is there
told_there : (P : PlainKernel) (c n : ℕ) (b : Bool) → Some n ≡ option_map (λ (row : CpuRow). row.posts) (if b then Some (cpu_row P c) else None) → (b ≡ true) × (n ≡ aseq P c)
told_there P c n true e = (refl, cc)
told_there P c n false e = cc

told_absent : (P : PlainKernel) (c : ℕ) (b : Bool) → ◌≡◌ {A = Option ℕ} None (option_map (λ (row : CpuRow). row.posts) (if b then Some (cpu_row P c) else None)) → b ≡ false
told_absent P c true e = cc
told_absent P c false e = refl

pub none_told : (o told : Option ℕ) → o ≡ told → ((n : ℕ) → o ≡ Some n → ⊥) → ◌≡◌ {A = Option ℕ} None told
none_told None told e none = e
none_told (Some n) told e none = absurd (none n refl)

none_of : (o : Option ℕ) → is_some o ≡ false → o ≡ None
none_of None e = refl
none_of (Some t) e = cc

-- what the reads told before mending, of every plain world that is shown
pub record Begun (old : Parts) (c cpus n deltas : ℕ) : Type 0 where
  pub idle : (w : PlainWorld) → ShowsWorld old w → IsIdle w.kernel c
  pub posts : (w : PlainWorld) → ShowsWorld old w → n ≡ aseq w.kernel c
  pub learns : (w : PlainWorld) → ShowsWorld old w → (clearing cpus ++ hearing c deltas) ≡ learning w c

module _ (all_plain : ReadsArePlain) (old : Parts) (k : KernelRows) (c : ℕ) (shows : (w : PlainWorld) → ShowsWorld old w → Shows k w.kernel) where
  there_so : (n : ℕ) → Some n ≡ aseq_of (seen k) c → (w : PlainWorld) → ShowsWorld old w → (is_cpu (shown w.kernel) c ≡ true) × (n ≡ aseq w.kernel c)
  there_so n told w h = told_there w.kernel c n (is_cpu (shown w.kernel) c) (told ∙ ap (λ (r : Reads). aseq_of r c) (shows w h).reads)

  pub begins : (n cpus deltas : ℕ) → Some n ≡ aseq_of (seen k) c → is_some (on (seen k) c) ≡ false → cpus ≡ k.limits.cpus → deltas ≡ length (deltas_of old) + cpus → Begun old c cpus n deltas
  begins n cpus deltas told free count many = record {
    idle = λ w h.
        let there = (there_so n told w h).0 in
        record {
          there = there;
          idle = sym ((all_plain w.kernel).on c there) ∙ none_of (on (shown w.kernel) c) (sym (ap (λ (r : Reads). is_some (on r c)) (shows w h).reads) ∙ free);
        };
    posts = λ w h. (there_so n told w h).1;
    learns = λ w h.
        let here : cpus ≡ w.kernel.limits.cpus = count ∙ ap (λ (r : Reads). r.limits.cpus) (shows w h).reads in
        let length_is : length (deltas_of old) ≡ length w.sent = sent_length (kinds w.kernel) w.sent (deltas_of old) h.sent in
        let all : deltas ≡ length w.sent + w.kernel.limits.cpus = many ∙ ap (λ m. m + cpus) length_is ∙ ap (λ m. length w.sent + m) here in
        ap (λ m. clearing m ++ hearing c deltas) here ∙ ap (λ m. clearing w.kernel.limits.cpus ++ hearing c m) all;
  }

  pub not_there : ◌≡◌ {A = Option ℕ} None (aseq_of (seen k) c) → Does (IsMended c) old old (reply.Refused refusals.BadCpu)
  not_there told w h =
      let gone = told_absent w.kernel c (is_cpu (shown w.kernel) c) (told ∙ ap (λ (r : Reads). aseq_of r c) (shows w h).reads) in
      let answer = reply.Refused refusals.BadCpu in (
        w,
        match_false (is_cpu (shown w.kernel) c) (MatchOption (w.kernel.on c) (IsMending w c answer w) (λ t. IsRefused w refusals.Busy answer w)) (IsBadCpu w answer w) gone (record { refused = refl; same = refl }),
        h,
      )

  pub busy : (n : ℕ) → Some n ≡ aseq_of (seen k) c → is_some (on (seen k) c) ≡ true → Does (IsMended c) old old (reply.Refused refusals.Busy)
  busy n told some w h =
      let answer = reply.Refused refusals.Busy in
      let there = (there_so n told w h).0 in
      let runs : is_some (w.kernel.on c) ≡ true = ap is_some (sym ((all_plain w.kernel).on c there)) ∙ sym (ap (λ (r : Reads). is_some (on r c)) (shows w h).reads) ∙ some in (
        w,
        match_true (is_cpu (shown w.kernel) c) (MatchOption (w.kernel.on c) (IsMending w c answer w) (λ t. IsRefused w refusals.Busy answer w)) (IsBadCpu w answer w) there
            (match_some (w.kernel.on c) (IsMending w c answer w) (IsRefused w refusals.Busy answer w) runs (record { refused = refl; same = refl })),
        h,
      )
    where
      match_some : (o : Option ℕ) (A B : Type 0) → is_some o ≡ true → B → MatchOption o A (λ t. B)
      match_some None A B e b = cc
      match_some (Some t) A B e b = b

match_none : (o : Option ℕ) (A B : Type 0) → o ≡ None → A → MatchOption o A (λ t. B)
match_none None A B e a = a
match_none (Some t) A B e a = cc

test_below : (a b : ℕ) → nat_lt a b ≡ true → a < b
test_below a b e = grind (arith, nat_tests)

module _ (laws : KernelLaws) (law : AWaitingThreadCanBeRun) (old : Parts) (c cpus n deltas : ℕ) (begun : Begun old c cpus n deltas) where
  -- the agent of the CPU goes by the same rules in all that is shown
  rules_so : (w v : PlainWorld) → ShowsWorld old w → ShowsWorld old v → (w.agents c).rules ≡ (v.agents c).rules
  rules_so w v h k =
      let there : c < length old.agents.items =
      let below = test_below c w.kernel.limits.cpus (begun.idle w h).there in
      let limits : old.kernel.limits.cpus ≡ w.kernel.limits.cpus = ap (λ (r : Reads). r.limits.cpus) h.kernel.reads in
      let many = old.as_many in
      omega arith in
      let at = get_at old.agents.items c there in
      sym (h.agents c at.0 at.1).rules ∙ (k.agents c at.0 at.1).rules

  module _ (mid new : Parts) (told : Reply) (learnt : DoesAll (clearing cpus ++ hearing c deltas) old mid) (picked : Does (PicksOrSteals c n) mid new told) where
    module _ (w : PlainWorld) (h : ShowsWorld old w) where
      abbrev learns : (u : PlainWorld) × (r : List Reply) × Runs w (clearing cpus ++ hearing c deltas) r u × ShowsWorld mid u
      learns = learnt w h

      abbrev ends : (w' : PlainWorld) × PicksOrSteals c n learns.0 told w' × ShowsWorld new w'
      ends = picked learns.0 learns.3

      came : Comes w c told ends.0
      came =
          comes laws w learns.0 c (begun.idle w h) learns.1 (subst (λ l. Runs w l learns.1 learns.0) (begun.learns w h) learns.2) told ends.0
          (subst (λ m. PicksOrSteals c m learns.0 told ends.0) (begun.posts w h) ends.1)

    -- where nothing was ready, nothing waited in the world that events led to, and so in none that is shown
    none_waits : IsReached old → told ≡ reply.Refused refusals.NothingReady → (w : PlainWorld) → ShowsWorld old w → NoneWaits w c
    none_waits reached none w h = by_tells (came v k).tells
      where
        v : PlainWorld
        v = reached.plain

        k : ShowsWorld old v
        k = reached.shows

        by_tells : ((t : ℕ) × (told ≡ reply.Committed c t) × ((ends v k).0.kernel.on c ≡ Some t)) ⊎ IsIdleStill v c told (ends v k).0 → NoneWaits w c
        by_tells (inl some) = absurd (let commit = some.1 in let bad : ⊥ = cc in bad)
        by_tells (inr still) =
            let waited = none_waited law v c told (ends v k).0 still (begun.idle v k) old.kernel.limits reached.reached in
            let same : shown w.kernel ≡ shown v.kernel = sym h.kernel.reads ∙ k.kernel.reads in
            λ t waits stolen.
            waited t (same_waits laws.reads w.kernel v.kernel same c t waits)
            (same_stolen laws.reads w.kernel v.kernel same (w.agents c).rules (v.agents c).rules c t (rules_so w v h k) stolen)

    -- what the answer tells
    pub answer_tells : IsReached old → (w : PlainWorld) → (h : ShowsWorld old w) → TellsWhatRuns w c told (ends w h).0
    answer_tells reached w h = tells (came w h).tells
      where
        tells : ((t : ℕ) × (told ≡ reply.Committed c t) × ((ends w h).0.kernel.on c ≡ Some t)) ⊎ IsIdleStill w c told (ends w h).0 → TellsWhatRuns w c told (ends w h).0
        tells (inl some) = subst (λ r. TellsWhatRuns w c r (ends w h).0) (sym some.1) (refl, some.2)
        tells (inr still) = subst (λ r. TellsWhatRuns w c r (ends w h).0) (sym still.is) (still.idle, none_waits reached still.is w h)

    pub mended : IsReached old → Does (IsMended c) old new told
    mended reached w h =
        let last = (ends w h).0 in
        let idle = begun.idle w h in
        let is = came w h in (
          last,
          match_true (is_cpu (shown w.kernel) c) (MatchOption (w.kernel.on c) (IsMending w c told last) (λ t. IsRefused w refusals.Busy told last)) (IsBadCpu w told last) idle.there
              (match_none (w.kernel.on c) (IsMending w c told last) (IsRefused w refusals.Busy told last) idle.idle (record { replies = is.replies; runs = is.runs; tells = answer_tells reached w h })),
          (ends w h).2,
        )

  -- the picks and the steal
  abbrev rest : ℕ → List Event
  rest m = event.Pick c m ∷ event.Steal c ∷ event.Pick c m ∷ []

  pub mends_in_part : (new : Parts) → RunsOutAmong ((clearing cpus ++ hearing c deltas) ++ event.Pick c n ∷ event.Steal c ∷ event.Pick c n ∷ []) old new → MendsInPart c old new
  mends_in_part new part w h =
      let did = part w h in
      let all : ((clearing cpus ++ hearing c deltas) ++ rest n) ≡ mending_by_steal w c = ap (λ l. l ++ rest n) (begun.learns w h) ∙ ap (λ m. learning w c ++ rest m) (begun.posts w h) in
      (did.0, (begun.idle w h, subst (λ l. RanOutAmong w l did.0) all did.1), did.2)

-- what steps lead to is reached
step_reached : (limits : Limits) (w new : PlainWorld) (e : Event) (told : Reply) → Reached limits w → Step w e told new → Reached limits new
step_reached limits w new e told reached step =
    record { rules = reached.rules; events = reached.events ++ e ∷ []; leads = leads_more (opened_by reached.rules limits) reached.events w new e reached.leads (inl (told, step)) }

runs_reached : (limits : Limits) (w new : PlainWorld) (events : List Event) (r : List Reply) → Reached limits w → Runs w events r new → Reached limits new
runs_reached limits w new [] [] reached ran = subst (Reached limits) (sym ran) reached
runs_reached limits w new [] (t ∷ r) reached ran = absurd ran
runs_reached limits w new (e ∷ events) [] reached ran = absurd ran
runs_reached limits w new (e ∷ events) (t ∷ r) reached ran = runs_reached limits ran.0 new events r (step_reached limits w ran.0 e t reached ran.1) ran.2

pub mended_reached : MendedIsReached
mended_reached limits w new c told reached is = by_there (is_cpu (shown w.kernel) c) is
  where
    stays_there : new ≡ w → Reached limits new
    stays_there same = subst (Reached limits) (sym same) reached

    by_runs : (told' : Reply) (r : List Reply) → Runs w (mending w c) (r ++ told' ∷ []) new ⊎ Runs w (mending_by_steal w c) (r ++ told' ∷ []) new → Reached limits new
    by_runs told' r (inl ran) = runs_reached limits w new (mending w c) (r ++ told' ∷ []) reached ran
    by_runs told' r (inr ran) = runs_reached limits w new (mending_by_steal w c) (r ++ told' ∷ []) reached ran

    by_on : (o : Option ℕ) → MatchOption o (IsMending w c told new) (λ t. IsRefused w refusals.Busy told new) → Reached limits new
    by_on None h = by_runs told h.replies h.runs
    by_on (Some t) h = stays_there h.same

    by_there : (b : Bool) → MatchBool b (MatchOption (w.kernel.on c) (IsMending w c told new) (λ t. IsRefused w refusals.Busy told new)) (IsBadCpu w told new) → Reached limits new
    by_there true h = by_on (w.kernel.on c) h
    by_there false h = stays_there h.same

-- each CPU can be mended
module _ (laws : KernelLaws) (every : EveryEventHasAStep) (law : AWaitingThreadCanBeRun) (limits : Limits) where
  can_run : (w : PlainWorld) → Reached limits w → (events : List Event) → (r : List Reply) × (u : PlainWorld) × Runs w events r u
  can_run w reached [] = ([], w, refl)
  can_run w reached (e ∷ events) =
      let next = every limits w e reached in
      let rest = can_run next.1 (step_reached limits w next.1 e next.0 reached next.2) events in
      (next.0 ∷ rest.0, rest.1, (next.1, next.2, rest.2))

  module _ (w : PlainWorld) (c : ℕ) (reached : Reached limits w) where
    abbrev Some_end : Type 0
    Some_end = (told : Reply) × (new : PlainWorld) × IsMended c w told new

    module _ (idle : IsIdle w.kernel c) where
      abbrev events : (r : List Reply) × (u : PlainWorld) × Runs w (learning w c) r u
      events = can_run w reached (learning w c)

      abbrev u : PlainWorld
      u = events.1

      abbrev m : ℕ
      m = aseq w.kernel c

      so : (told : Reply) (new : PlainWorld) → Comes w c told new → Some_end
      so told new is = (
        told,
        new,
        match_true (is_cpu (shown w.kernel) c) (MatchOption (w.kernel.on c) (IsMending w c told new) (λ t. IsRefused w refusals.Busy told new)) (IsBadCpu w told new) idle.there
            (match_none (w.kernel.on c) (IsMending w c told new) (IsRefused w refusals.Busy told new) idle.idle (record { replies = is.replies; runs = is.runs; tells = tells is.tells })),
      )
        where
          tells : ((t : ℕ) × (told ≡ reply.Committed c t) × (new.kernel.on c ≡ Some t)) ⊎ IsIdleStill w c told new → TellsWhatRuns w c told new
          tells (inl some) = subst (λ r. TellsWhatRuns w c r new) (sym some.1) (refl, some.2)
          tells (inr still) = subst (λ r. TellsWhatRuns w c r new) (sym still.is) (still.idle, none_waited law w c told new still idle limits reached)

      picked_so : (told : Reply) (new : PlainWorld) → PicksOrSteals c m u told new → Some_end
      picked_so told new picks = so told new (comes laws w u c idle events.0 events.2 told new picks)

      goes : Some_end
      goes =
          let at_u = runs_reached limits w u (learning w c) events.0 reached events.2 in
          let pick = every limits u (event.Pick c m) at_u in
          by_pick pick.0 pick.1 pick.2 at_u (pick_tells laws u pick.1 c m pick.0 (idle_then laws w u c idle events.0 events.2) (count_then laws w u c idle events.0 events.2) pick.2)
        where
          by_pick : (told : Reply) (x : PlainWorld) → Step u (event.Pick c m) told x → Reached limits u → Picks u c told x → Some_end
          by_pick told x step at_u (inl picked) = picked_so told x (inl (record { cpu = c; thread = picked.0; is = picked.1 }, step))
          by_pick told x step at_u (inr none) =
              let at_x = step_reached limits u x (event.Pick c m) told at_u step in
              let steal = every limits x (event.Steal c) at_x in
              let at_y = step_reached limits x steal.1 (event.Steal c) steal.0 at_x steal.2 in
              let again = every limits steal.1 (event.Pick c m) at_y in
              picked_so again.0 again.1 (inr record {
                first = told;
                fails = λ commit. let some = commit.is in let refused = none.0 in let bad : ⊥ = cc in bad;
                second = steal.0;
                between = x;
                stolen = steal.1;
                picks = step;
                steals = steal.2;
                again = again.2;
              })

    by_on : (o : Option ℕ) → w.kernel.on c ≡ o → is_cpu (shown w.kernel) c ≡ true → Some_end
    by_on None e there = goes (record { there = there; idle = e })
    by_on (Some t) e there =
        let answer = reply.Refused refusals.Busy in (
          answer,
          w,
          match_true (is_cpu (shown w.kernel) c) (MatchOption (w.kernel.on c) (IsMending w c answer w) (λ t. IsRefused w refusals.Busy answer w)) (IsBadCpu w answer w) there
              (subst (λ o. MatchOption o (IsMending w c answer w) (λ t. IsRefused w refusals.Busy answer w)) (sym e) (record { refused = refl; same = refl })),
        )

    by_there : (b : Bool) → is_cpu (shown w.kernel) c ≡ b → Some_end
    by_there true e = by_on (w.kernel.on c) refl e
    by_there false e =
        let answer = reply.Refused refusals.BadCpu in (
          answer,
          w,
          match_false (is_cpu (shown w.kernel) c) (MatchOption (w.kernel.on c) (IsMending w c answer w) (λ t. IsRefused w refusals.Busy answer w)) (IsBadCpu w answer w) e (record { refused = refl; same = refl }),
        )

    pub can_mend : Some_end
    can_mend = by_there (is_cpu (shown w.kernel) c) refl
