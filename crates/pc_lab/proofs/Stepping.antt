-- What holds of every run.
use Rattle.std.proofs.Common.{◌≡◌, ◌<◌, ◌≤◌, ◌⊎◌, inl, inr, ◌∙◌, ℕ, zero, suc, List, [], ◌∷◌, ◌++◌, Bool, true, false, Option, Some, None, Result, Ok, Err, MatchBool, length, map, take, slice_get, is_some, refl, sym, ap, subst, arith}
use Rattle.std.proofs.lemmas.Bool.{cases_lt}
use Rattle.std.proofs.lemmas.List.{length-append, map-append, take-append-le}
use Rattle.std.proofs.lemmas.Option.{same_Some, slice_get_within}
use Rattle.std.proofs.Math.Seq.{take-append_seam}
use Rattle.pc_agent.specs.PlainAgent.{Set, pick_refused, ready_list}
use Rattle.pc_agent.specs.Running.{takes_over}
use Rattle.pc_calls.specs.Events.{told_of}
use Rattle.pc_calls.specs.declared.call.AgentCall.{AgentCall}
use Rattle.pc_calls.specs.declared.call.AgentCall.TheVariants as agent_call
use Rattle.pc_calls.specs.declared.call.Answer.{Answer}
use Rattle.pc_calls.specs.declared.call.Answer.TheVariants as answer
use Rattle.pc_calls.specs.declared.call.EnvCall.{EnvCall}
use Rattle.pc_calls.specs.declared.call.Call.TheVariants as call
use Rattle.pc_calls.specs.declared.event.Event.{Event}
use Rattle.pc_calls.specs.declared.event.Event.TheVariants as event
use Rattle.pc_calls.specs.declared.event.Reply.{Reply}
use Rattle.pc_calls.specs.declared.event.Reply.TheVariants as reply
use Rattle.pc_calls.specs.declared.refusal.Refusal.{Refusal}
use Rattle.pc_kernel.specs.Reads.{is_cpu, on, shown}
use Rattle.pc_kernel.specs.Steps as kernel
use Rattle.pc_world.specs.PlainWorld.{PlainWorld}
use Rattle.pc_world.specs.Reached as world
use Rattle.pc_world.specs.Reached.{LeadsTo, Reached}
use Rattle.pc_world.specs.Steps.{IsBadCpu, IsCommitted, IsConsumed, IsDelivered, IsPicked, IsPublished, IsStolen, IsTakenOver, IsTried, IsAnswered, Step, are_cpus}
use Rattle.pc_lab.specs.Laws.{CommitsTakeTheFirst, GoesOn, MomentsGoOn, MomentsReach, TakesTheFirst}
use Rattle.pc_lab.specs.Moments as moments
use Rattle.pc_lab.specs.Moments.{IsNoCommit, Leads, Moment}

-- ---- each moment goes on from those before it

get_appended : {X : Type 0} (xs ys : List X) (i : ℕ) → i < length xs → slice_get (xs ++ ys) i ≡ slice_get xs i
get_appended [] ys i low = absurd (omega (arith, low))
get_appended (x ∷ xs) ys zero low = refl
get_appended (x ∷ xs) ys (suc i) low = get_appended xs ys i (omega (arith, low))

get_last : {X : Type 0} (xs : List X) (last : X) → slice_get (xs ++ last ∷ []) (length xs) ≡ Some last
get_last [] last = refl
get_last (x ∷ xs) last = get_last xs last

none_there : {X : Type 0} (i : ℕ) (x : X) → slice_get [] i ≡ Some x → ⊥
none_there i x there = cc

step_at : {start end : PlainWorld} {those : List Moment} → Leads start those end → (place : ℕ) (moment : Moment) → slice_get those place ≡ Some moment
    → GoesOn start (take place those) moment
step_at moments.nothing place moment there = absurd (none_there place moment there)
step_at {start} (moments.one_more {world = middle} {next} those last before low step) place moment there = by (λ is. step_at before place moment is) (cases_lt place (length those))
  where
    by : (slice_get those place ≡ Some moment → GoesOn start (take place those) moment) → (place < length those) ⊎ (length those ≤ place)
        → GoesOn start (take place (those ++ last ∷ [])) moment
    by earlier (inl within) =
        subst (λ first. GoesOn start first moment) (sym (take-append-le place those (last ∷ []) (omega (arith, within))))
        (earlier (sym (get_appended those (last ∷ []) place within) ∙ there))
    by earlier (inr past) =
        let room : place < length (those ++ last ∷ []) = slice_get_within (those ++ last ∷ []) place moment there in
        let ends : length those ≡ place = omega (arith, past, room, length-append those (last ∷ [])) in
        let same : last ≡ moment = same_Some last moment (sym (get_last those last) ∙ ap (slice_get (those ++ last ∷ [])) ends ∙ there) in
        let first : those ≡ take place (those ++ last ∷ []) =
        sym (take-append_seam those (last ∷ [])) ∙ ap (λ n. take n (those ++ last ∷ [])) ends in
        subst (λ m. GoesOn start (take place (those ++ last ∷ [])) m) same
        (subst (λ before. GoesOn start before last) first (record { world = middle; next = next; leads = before; step = step }))

pub moments_go_on : MomentsGoOn
moments_go_on start end those place moment leads there = step_at leads place moment there

-- ---- a world to which moments lead is one that events lead to

leads_more : (w : PlainWorld) (events : List Event) (mid new : PlainWorld) (event : Event) → world.Leads w events mid → LeadsTo mid event new
    → world.Leads w (events ++ event ∷ []) new
leads_more w [] mid new event leads to = (new, subst (λ from. LeadsTo from event new) leads to, refl)
leads_more w (first ∷ events) mid new event leads to = (leads.0, leads.1, leads_more leads.0 events mid new event leads.2 to)

abbrev events_of : List Moment → List Event
events_of = map (λ moment. moment.event)

as_events : {start end : PlainWorld} {those : List Moment} → Leads start those end → world.Leads start (events_of those) end
as_events moments.nothing = refl
as_events {start} (moments.one_more {world = middle} {next} those last before low step) =
    subst (λ events. world.Leads start events next) (sym (map-append (λ (moment : Moment). moment.event) those (last ∷ [])))
    (leads_more start (events_of those) middle next last.event (as_events before) (inl (last.reply, step)))

pub moments_reach : MomentsReach
moments_reach each limits those world leads =
    record { rules = each; events = events_of those; leads = as_events leads }

-- ---- a commit takes the first

same_committed : (cpu thread cpu' thread' : ℕ) → reply.Committed cpu thread ≡ reply.Committed cpu' thread' → (cpu ≡ cpu') × (thread ≡ thread')
same_committed cpu thread cpu' thread' is = (
  ap (λ r. committed_cpu r) is,
  ap (λ r. committed_thread r) is,
)
  where
    committed_cpu : Reply → ℕ
    committed_cpu (reply.Committed c t) = c
    committed_cpu other = 0

    committed_thread : Reply → ℕ
    committed_thread (reply.Committed c t) = t
    committed_thread other = 0

module _ (w new : PlainWorld) (cpu thread : ℕ) where
  abbrev told : Reply
  told = reply.Committed cpu thread

  -- no refusal is a commit, nor is what any call of another kind is replied
  refused_not : (why : Refusal) → told ≡ reply.Refused why → ⊥
  refused_not why is = cc

  env_not : (c : EnvCall) (result : Result Answer Refusal) → told ≡ told_of (call.Env c) result → ⊥
  env_not c (Ok (answer.Posted posted)) is = cc
  env_not c (Ok answer.Done) is = cc
  env_not c (Err why) is = cc

  agent_not : (c : AgentCall) (result : Result Answer Refusal) → IsNoCommit (event.Agent c)
      → told ≡ told_of (call.Agent c) result → ⊥
  agent_not c (Ok (answer.Posted posted)) none is = cc
  agent_not (agent_call.Associate t queue number) (Ok answer.Done) none is = cc
  agent_not (agent_call.Commit c t aseq) (Ok answer.Done) none is = none
  agent_not (agent_call.Sleep c aseq) (Ok answer.Done) none is = cc
  agent_not (agent_call.Rouse c) (Ok answer.Done) none is = cc
  agent_not (agent_call.Config queue target) (Ok answer.Done) none is = cc
  agent_not c (Err why) none is = cc

  on_cpu : (there : Bool) (Holds : Type 0) → MatchBool there Holds (IsBadCpu w told new) → Holds
  on_cpu true Holds held = held
  on_cpu false Holds held = absurd (refused_not _ held.refused)

  answered_not : {delta : ℕ} → told ≡ reply.Answered delta → ⊥
  answered_not is = cc

  done_not : told ≡ reply.Done → ⊥
  done_not is = cc

  consumed_not : (c : ℕ) (result : Result Answer Refusal) → IsConsumed w c result told new → ⊥
  consumed_not c (Ok a) did = let is = did.0 in cc
  consumed_not c (Err why) did = refused_not why did.refused

  published_not : (c : ℕ) (fails : Bool) → IsPublished w c fails told new → ⊥
  published_not c false did = let is = did.0 in cc
  published_not c true did = refused_not _ did.0

  delivered_not : (c : ℕ) (set : Option Set) → IsDelivered w c set told new → ⊥
  delivered_not c None did = refused_not _ did.refused
  delivered_not c (Some set) did = let is = did.0 in cc

  taken_not : (c t : ℕ) (why : Option Refusal) → IsTakenOver w c t why told new → ⊥
  taken_not c t None did = let is = did.0 in cc
  taken_not c t (Some why) did = refused_not why did.refused

  tried_not : (c : ℕ) (first : Option ℕ) → IsTried w c first told new → ⊥
  tried_not c None did = refused_not _ did.refused
  tried_not c (Some t) did = taken_not c t (kernel.refused (shown w.kernel) (takes_over c (w.agents c) t)) did

  stolen_not : (c : ℕ) (busy : Bool) → IsStolen w c busy told new → ⊥
  stolen_not c true did = refused_not _ did.refused
  stolen_not c false did = tried_not c did.0 did.2

  first_of : (c n : ℕ) (names : List ℕ) → IsCommitted w c n names told new → (c ≡ cpu) × (slice_get names 0 ≡ Some thread)
  first_of c n [] did = absurd did
  first_of c n (t ∷ rest) did = let same = same_committed cpu thread c t did.0 in (sym same.0, ap (λ name. Some name) (sym same.1))

  picked : (c n : ℕ) (why : Option Refusal) → IsPicked w c n why told new
      → (c ≡ cpu) × (slice_get (ready_list (shown w.kernel) c n (w.agents c).list) 0 ≡ Some thread)
  picked c n None did = first_of c n (ready_list (shown w.kernel) c n (w.agents c).list) did
  picked c n (Some why) did = absurd (refused_not why did.0)

  takes_by : (c n : ℕ) → (c ≡ cpu) × (slice_get (ready_list (shown w.kernel) c n (w.agents c).list) 0 ≡ Some thread)
      → TakesTheFirst w (event.Pick c n) cpu thread
  takes_by c n did =
      record {
        aseq = n;
        pick = ap (λ at. event.Pick at n) did.0;
        first = subst (λ at. slice_get (ready_list (shown w.kernel) at n (w.agents at).list) 0 ≡ Some thread) did.0 did.1;
      }

  takes : (e : Event) → IsNoCommit e → Step w e told new → TakesTheFirst w e cpu thread
  takes (event.Env c) none step = absurd (env_not c (kernel.reply w.kernel (call.Env c)) step.tells)
  takes (event.Agent c) none step = absurd (agent_not c (kernel.reply w.kernel (call.Agent c)) none step.tells)
  takes (event.Publish c fails) none step = absurd (published_not c fails (on_cpu (is_cpu (shown w.kernel) c) (IsPublished w c fails told new) step))
  takes (event.Consume c) none step =
      let result = kernel.reply w.kernel (call.Consume c (w.agents c).sent_items) in
      absurd (consumed_not c result (on_cpu (is_cpu (shown w.kernel) c) (IsConsumed w c result told new) step))
  takes (event.Deliver c k) none step =
      absurd (delivered_not c (slice_get w.sent k) (on_cpu (is_cpu (shown w.kernel) c) (IsDelivered w c (slice_get w.sent k) told new) step))
  takes (event.Answer c asker) none step =
      let did = on_cpu (are_cpus w c asker) (IsAnswered w c asker told new) step in
      let is = did.tells in absurd (answered_not is)
  takes (event.Pick c n) none step =
      let why = pick_refused (shown w.kernel) c n (w.agents c).list in
      takes_by c n (picked c n why (on_cpu (is_cpu (shown w.kernel) c) (IsPicked w c n why told new) step))
  takes (event.Steal c) none step =
      let busy = is_some (on (shown w.kernel) c) in
      absurd (stolen_not c busy (on_cpu (is_cpu (shown w.kernel) c) (IsStolen w c busy told new) step))
  takes (event.Crash c) none step =
      let did = on_cpu (is_cpu (shown w.kernel) c) _ step in let is = did.0 in absurd (done_not is)

pub commits_take_the_first : CommitsTakeTheFirst
commits_take_the_first w new e cpu thread none step = takes w new cpu thread e none step
