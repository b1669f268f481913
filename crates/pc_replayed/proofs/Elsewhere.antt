-- What agents of CPUs that are not there are like changes nothing.
use Rattle.std.proofs.Common.{◌≡◌, ◌∙◌, ℕ, Bool, true, false, if◌then◌else◌, List, [], ◌∷◌, ◌++◌, Option, Some, None, Result, Ok, Err, MatchBool, refl, sym, ap, subst}
use Rattle.std.specs.Prelude.{◌==◌, is_some, nat_lt, slice_get}
use Rattle.pc_calls.specs.AgentCalls.{commits, rouses}
use Rattle.pc_calls.specs.declared.call.AgentCall.TheVariants as agent_call
use Rattle.pc_calls.specs.declared.call.Answer.{Answer}
use Rattle.pc_calls.specs.declared.call.Call.{Call}
use Rattle.pc_calls.specs.declared.call.Call.TheVariants as call
use Rattle.pc_calls.specs.declared.call.EnvCall.TheVariants as env
use Rattle.pc_calls.specs.declared.event.Event.{Event}
use Rattle.pc_calls.specs.declared.event.Event.TheVariants as event
use Rattle.pc_calls.specs.declared.event.Reply.{Reply}
use Rattle.pc_calls.specs.declared.event.Reply.TheVariants as reply
use Rattle.pc_calls.specs.declared.limits.Limits.{Limits}
use Rattle.pc_calls.specs.declared.refusal.Refusal.{Refusal}
use Rattle.pc_calls.specs.declared.refusal.Refusal.TheVariants as refusal
use Rattle.pc_kernel.specs.PlainKernel.{PlainKernel, content, kinds}
use Rattle.pc_kernel.specs.Reads.{is_cpu, on, shown}
use Rattle.pc_kernel.specs.Steps as kernel
use Rattle.pc_kernel.specs.Steps.{after, after_of, at, changed, refused}
use Rattle.pc_lab.specs.Moments as lab
use Rattle.pc_lab.specs.Moments.{Leads, Moment}
use Rattle.pc_messages.proofs.Bools.{first_true, second_true}
use Rattle.pc_messages.specs.Items.{pairs_in}
use Rattle.pc_agent.specs.PlainAgent.{PlainAgent, Set, copied, fresh, pick_refused, ready_list, stealing, taking_in}
use Rattle.pc_agent.specs.Publishing.{sent_after}
use Rattle.pc_agent.specs.Running.{FindsFirst, left_by, takes_over}
use Rattle.pc_world.specs.PlainWorld.{PlainWorld}
use Rattle.pc_world.specs.Steps.{IsAnswerSet, IsAnswered, IsBadCpu, IsCalled, IsCommitted, IsConsumed, IsDelivered, IsPicked, IsPublished, IsRefused, IsStolen, IsTakenOver, IsTried, Step, are_cpus}

-- ---- the same world with other agents

-- the world with these agents
abbrev pub with_agents : PlainWorld → (ℕ → PlainAgent) → PlainWorld
with_agents w agents = record w { agents = agents }

-- they are the world's own on each CPU that is there
abbrev pub Alike : PlainWorld → (ℕ → PlainAgent) → Type 0
Alike w agents = (c : ℕ) → is_cpu (shown w.kernel) c ≡ true → agents c ≡ w.agents c

-- this holds of the new world with such agents
pub record Follows (new : PlainWorld) (Holds : PlainWorld → Type 0) : Type 0 where
  pub agents : ℕ → PlainAgent
  pub holds : Holds (with_agents new agents)
  pub alike : Alike new agents

abbrev world : PlainKernel → (ℕ → PlainAgent) → List Set → PlainWorld
world P agents sent = record { kernel = P; agents = agents; sent = sent }

-- ---- limits stay

changed_limits : (P : PlainKernel) (made : Call) → (changed P made).limits ≡ P.limits
changed_limits P (call.Env (env.Create queue ready mask)) = refl
changed_limits P (call.Env (env.Wake thread)) = refl
changed_limits P (call.Env (env.Block cpu ran)) = refl
changed_limits P (call.Env (env.YieldNow cpu ran)) = refl
changed_limits P (call.Env (env.Preempt cpu ran)) = refl
changed_limits P (call.Env (env.Die cpu ran)) = refl
changed_limits P (call.Env (env.SetAffinity thread mask)) = refl
changed_limits P (call.Env (env.SetPriority thread level)) = refl
changed_limits P (call.Env (env.Tick cpu)) = refl
changed_limits P (call.Consume cpu count) = refl
changed_limits P (call.Agent (agent_call.Associate thread queue number)) = refl
changed_limits P (call.Agent (agent_call.Commit cpu thread aseq)) = refl
changed_limits P (call.Agent (agent_call.Sleep cpu aseq)) = refl
changed_limits P (call.Agent (agent_call.Rouse cpu)) = refl
changed_limits P (call.Agent (agent_call.Config queue None)) = refl
changed_limits P (call.Agent (agent_call.Config queue (Some cpu))) = refl

limits_of : (why : Option Refusal) (P Q : PlainKernel) → Q.limits ≡ P.limits → (after_of why Q P).limits ≡ P.limits
limits_of None P Q same = same
limits_of (Some refused) P Q same = refl

after_limits : (P : PlainKernel) (made : Call) → (after P made).limits ≡ P.limits
after_limits P made = limits_of (refused (shown P) made) P (changed P made) (changed_limits P made)

was_there : (P Q : PlainKernel) (c : ℕ) → Q.limits ≡ P.limits → is_cpu (shown Q) c ≡ true → is_cpu (shown P) c ≡ true
was_there P Q c same there = sym (ap (λ (l : Limits). nat_lt c l.cpus) same) ∙ there

-- ---- what one CPU's agent does

module _ (w new : PlainWorld) (agents : ℕ → PlainAgent) (alike : Alike w agents) where
  -- refused, and nothing changes
  refuses : (why : Refusal) (told : Reply) → IsRefused w why told new → Follows new (IsRefused (with_agents w agents) why told)
  refuses why told does =
      record {
        agents = agents;
        holds = record { refused = does.refused; same = ap (λ v. with_agents v agents) does.same };
        alike = subst (λ v. Alike v agents) (sym does.same) alike;
      }

  -- a call of the kernel changes no agent
  calls : (made : Call) (told : Reply) → IsCalled w made told new → Follows new (IsCalled (with_agents w agents) made told)
  calls made told does =
      record {
        agents = agents;
        holds = record { tells = does.tells; after = ap (λ v. with_agents v agents) does.after };
        alike = subst (λ v. Alike v agents) (sym does.after) (λ c there. alike c (was_there w.kernel (after w.kernel made) c (after_limits w.kernel made) there));
      }

  -- it is refused for a CPU that is not there, or does as the world's own does
  on_cpu : (there : Bool) (told : Reply) (Does : Type 0) (Holds : PlainWorld → Type 0) → (there ≡ true → Does → Follows new Holds)
      → MatchBool there Does (IsBadCpu w told new) → Follows new (λ v. MatchBool there (Holds v) (IsBadCpu (with_agents w agents) told v))
  on_cpu true told Does Holds follows does = follows refl does
  on_cpu false told Does Holds follows does = refuses refusal.BadCpu told does

  module _ (c : ℕ) (there : is_cpu (shown w.kernel) c ≡ true) where
    own : w.agents c ≡ agents c
    own = sym (alike c there)

    -- the agent becomes another one, and what else changes goes by what it was
    acts : (becomes : PlainAgent → PlainAgent) (P : PlainAgent → PlainKernel) (sent : List Set) (Holds : PlainWorld → Type 0)
        → ((p : PlainAgent) → (P p).limits ≡ w.kernel.limits)
        → new ≡ world (P (w.agents c)) (at w.agents c (becomes (w.agents c))) sent
        → ((v : PlainWorld) → v ≡ world (P (agents c)) (at agents c (becomes (agents c))) sent → Holds v)
        → Follows new Holds
    acts becomes P sent Holds limits is holds =
        let later : ℕ → PlainAgent = at agents c (becomes (w.agents c)) in
        record {
          agents = later;
          holds = holds (with_agents new later)
              (ap (λ v. with_agents v later) is ∙ ap (λ p. record { kernel = P p; agents = at agents c (becomes p); sent = sent }) own);
          alike = subst (λ v. Alike v later) (sym is) (λ d below.
              ap (λ p. if d == c then becomes (w.agents c) else p) (alike d (was_there w.kernel (P (w.agents c)) d (limits (w.agents c)) below)));
        }

    publishes : (fails : Bool) (told : Reply) → IsPublished w c fails told new → Follows new (IsPublished (with_agents w agents) c fails told)
    publishes false told does =
        acts (sent_after (kinds w.kernel) c (content w.kernel c)) (λ p. w.kernel) (w.sent ++ pairs_in (content w.kernel c) ∷ [])
        (IsPublished (with_agents w agents) c false told) (λ p. refl) does.1 (λ v is. (does.0, is))
    publishes true told does =
        acts (copied (kinds w.kernel) c (content w.kernel c)) (λ p. w.kernel) w.sent
        (IsPublished (with_agents w agents) c true told) (λ p. refl) does.1 (λ v is. (does.0, is))

    consumes : (answer : Result Answer Refusal) (told : Reply) → IsConsumed w c answer told new → Follows new (IsConsumed (with_agents w agents) c answer told)
    consumes (Ok answer) told does =
        acts (λ p. record p { sent_items = 0 }) (λ p. after w.kernel (call.Consume c p.sent_items)) w.sent
        (IsConsumed (with_agents w agents) c (Ok answer) told) (λ p. after_limits w.kernel (call.Consume c p.sent_items)) does.1
        (λ v is. (does.0 ∙ ap (λ (p : PlainAgent). reply.Consumed p.sent_items) own, is))
    consumes (Err why) told does = refuses why told does

    delivers : (sent : Option Set) (told : Reply) → IsDelivered w c sent told new → Follows new (IsDelivered (with_agents w agents) c sent told)
    delivers None told does = refuses refusal.NoDelta told does
    delivers (Some set) told does =
        acts (taking_in set) (λ p. w.kernel) w.sent (IsDelivered (with_agents w agents) c (Some set) told) (λ p. refl) does.1 (λ v is. (does.0, is))

    commits_first : (n : ℕ) (names : List ℕ) (told : Reply) → IsCommitted w c n names told new → Follows new (IsCommitted (with_agents w agents) c n names told)
    commits_first n [] told does = absurd does
    commits_first n (t ∷ rest) told does =
        acts (λ p. record p { list = rest }) (λ p. after w.kernel (commits c t n)) w.sent
        (IsCommitted (with_agents w agents) c n (t ∷ rest) told) (λ p. after_limits w.kernel (commits c t n)) does.1 (λ v is. (does.0, is))

    picks : (n : ℕ) (why : Option Refusal) (told : Reply) → IsPicked w c n why told new → Follows new (IsPicked (with_agents w agents) c n why told)
    picks n None told does =
        subst (λ (p : PlainAgent). Follows new (IsCommitted (with_agents w agents) c n (ready_list (shown w.kernel) c n p.list) told)) own
        (commits_first n (ready_list (shown w.kernel) c n (w.agents c).list) told does)
    picks n (Some why) told does =
        acts (λ p. record p { list = left_by why p.list }) (λ p. w.kernel) w.sent
        (IsPicked (with_agents w agents) c n (Some why) told) (λ p. refl) does.1 (λ v is. (does.0, is))

    takes : (t : ℕ) (why : Option Refusal) (told : Reply) → IsTakenOver w c t why told new → Follows new (IsTakenOver (with_agents w agents) c t why told)
    takes t None told does =
        acts (λ p. record p { list = p.list ++ t ∷ [] }) (λ p. after w.kernel (takes_over c p t)) w.sent
        (IsTakenOver (with_agents w agents) c t None told) (λ p. after_limits w.kernel (takes_over c p t)) does.1 (λ v is. (does.0, is))
    takes t (Some why) told does = refuses why told does

    tries : (first : Option ℕ) (told : Reply) → IsTried w c first told new → Follows new (IsTried (with_agents w agents) c first told)
    tries None told does = refuses refusal.NothingToSteal told does
    tries (Some t) told does =
        subst (λ p. Follows new (IsTakenOver (with_agents w agents) c t (refused (shown w.kernel) (takes_over c p t)) told)) own
        (takes t (refused (shown w.kernel) (takes_over c (w.agents c) t)) told does)

    steals : (busy : Bool) (told : Reply) → IsStolen w c busy told new → Follows new (IsStolen (with_agents w agents) c busy told)
    steals true told does = refuses refusal.Busy told does
    steals false told does =
        let tried = tries does.0 told does.2 in
        record {
          agents = tried.agents;
          holds = (does.0, subst (λ p. FindsFirst (stealing (shown w.kernel) (kinds w.kernel) c p) does.0) own does.1, tried.holds);
          alike = tried.alike;
        }

    crashes : (told : Reply)
        → (told ≡ reply.Done) × (new ≡ world (after w.kernel (rouses c)) (at w.agents c (fresh (w.agents c).rules)) w.sent)
        → Follows new (λ v. (told ≡ reply.Done) × (v ≡ world (after w.kernel (rouses c)) (at agents c (fresh (agents c).rules)) w.sent))
    crashes told does =
        acts (λ p. fresh p.rules) (λ p. after w.kernel (rouses c)) w.sent
        (λ v. (told ≡ reply.Done) × (v ≡ world (after w.kernel (rouses c)) (at agents c (fresh (agents c).rules)) w.sent))
        (λ p. after_limits w.kernel (rouses c)) does.1 (λ v is. (does.0, is))

  answers : (c asker : ℕ) (told : Reply) → are_cpus w c asker ≡ true → IsAnswered w c asker told new → Follows new (IsAnswered (with_agents w agents) c asker told)
  answers c asker told there does =
      let here = alike c (first_true (is_cpu (shown w.kernel) c) (is_cpu (shown w.kernel) asker) there) in
      let beside = alike asker (second_true (is_cpu (shown w.kernel) c) (is_cpu (shown w.kernel) asker) there) in
      record {
        agents = agents;
        holds = record {
          set = does.set;
          answers = subst (λ (p : PlainAgent). IsAnswerSet (kinds w.kernel) p.known (agents asker).known does.set) (sym here)
              (subst (λ (p : PlainAgent). IsAnswerSet (kinds w.kernel) (w.agents c).known p.known does.set) (sym beside) does.answers);
          tells = does.tells;
          after = ap (λ v. with_agents v agents) does.after;
        };
        alike = subst (λ v. Alike v agents) (sym does.after) alike;
      }

-- ---- one event, and those of a run

-- an event is a step from the world with such agents too, and is replied the same
pub step_follows : (w new : PlainWorld) (agents : ℕ → PlainAgent) (event : Event) (told : Reply) → Alike w agents → Step w event told new
    → Follows new (Step (with_agents w agents) event told)
step_follows w new agents (event.Env made) told alike step = calls w new agents alike (call.Env made) told step
step_follows w new agents (event.Agent made) told alike step = calls w new agents alike (call.Agent made) told step
step_follows w new agents (event.Publish c fails) told alike step =
    on_cpu w new agents alike (is_cpu (shown w.kernel) c) told (IsPublished w c fails told new) (IsPublished (with_agents w agents) c fails told)
    (λ there does. publishes w new agents alike c there fails told does) step
step_follows w new agents (event.Consume c) told alike step =
    let answer : PlainAgent → Result Answer Refusal = λ p. kernel.reply w.kernel (call.Consume c p.sent_items) in
    on_cpu w new agents alike (is_cpu (shown w.kernel) c) told (IsConsumed w c (answer (w.agents c)) told new) (IsConsumed (with_agents w agents) c (answer (agents c)) told)
    (λ there does. subst (λ p. Follows new (IsConsumed (with_agents w agents) c (answer p) told)) (sym (alike c there))
    (consumes w new agents alike c there (answer (w.agents c)) told does)) step
step_follows w new agents (event.Deliver c k) told alike step =
    on_cpu w new agents alike (is_cpu (shown w.kernel) c) told (IsDelivered w c (slice_get w.sent k) told new) (IsDelivered (with_agents w agents) c (slice_get w.sent k) told)
    (λ there does. delivers w new agents alike c there (slice_get w.sent k) told does) step
step_follows w new agents (event.Answer c asker) told alike step =
    on_cpu w new agents alike (are_cpus w c asker) told (IsAnswered w c asker told new) (IsAnswered (with_agents w agents) c asker told)
    (λ there does. answers w new agents alike c asker told there does) step
step_follows w new agents (event.Pick c n) told alike step =
    let why : PlainAgent → Option Refusal = λ p. pick_refused (shown w.kernel) c n p.list in
    on_cpu w new agents alike (is_cpu (shown w.kernel) c) told (IsPicked w c n (why (w.agents c)) told new) (IsPicked (with_agents w agents) c n (why (agents c)) told)
    (λ there does. subst (λ p. Follows new (IsPicked (with_agents w agents) c n (why p) told)) (sym (alike c there))
    (picks w new agents alike c there n (why (w.agents c)) told does)) step
step_follows w new agents (event.Steal c) told alike step =
    let busy = is_some (on (shown w.kernel) c) in
    on_cpu w new agents alike (is_cpu (shown w.kernel) c) told (IsStolen w c busy told new) (IsStolen (with_agents w agents) c busy told)
    (λ there does. steals w new agents alike c there busy told does) step
step_follows w new agents (event.Crash c) told alike step =
    on_cpu w new agents alike (is_cpu (shown w.kernel) c) told
    ((told ≡ reply.Done) × (new ≡ world (after w.kernel (rouses c)) (at w.agents c (fresh (w.agents c).rules)) w.sent))
    (λ v. (told ≡ reply.Done) × (v ≡ world (after w.kernel (rouses c)) (at agents c (fresh (agents c).rules)) w.sent))
    (λ there does. crashes w new agents alike c there told does) step

-- and so moments lead on from it
pub leads_follow : {start : PlainWorld} {moments : List Moment} {last : PlainWorld} → Leads start moments last → (agents : ℕ → PlainAgent) → Alike start agents
    → Follows last (Leads (with_agents start agents) moments)
leads_follow lab.nothing agents alike = record { agents = agents; holds = lab.nothing; alike = alike }
leads_follow {start} (lab.one_more {world = middle} {next} moments moment before low step) agents alike =
    let far = leads_follow before agents alike in
    let one = step_follows middle next far.agents moment.event moment.reply far.alike step in
    record { agents = one.agents; holds = lab.one_more moments moment far.holds low one.holds; alike = one.alike }
