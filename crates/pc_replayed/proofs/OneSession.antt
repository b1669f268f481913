-- A session of commands that leave no choice has one list of responses.
use Rattle.std.proofs.Common.{◌≡◌, ◌∙◌, ◌<◌, ℕ, Bool, true, false, true≢false, List, [], ◌∷◌, ◌++◌, All, length, length-append, MatchBool, Option, Some, None, refl, sym, ap, ap₂, subst, arith}
use Rattle.std.proofs.lemmas.Bool.{ltb-true}
use Rattle.std.proofs.lemmas.List.{get_or_append_left, get_or_push, same_from_push}
use Rattle.pc_calls.specs.AgentCalls.{rouses}
use Rattle.pc_calls.specs.Limits.{bad_field}
use Rattle.pc_calls.specs.declared.call.Call.{Call}
use Rattle.pc_calls.specs.declared.call.Call.TheVariants as call
use Rattle.pc_calls.specs.declared.event.Event.{Event}
use Rattle.pc_calls.specs.declared.event.Event.TheVariants as event
use Rattle.pc_calls.specs.declared.event.Reply.{Reply}
use Rattle.pc_calls.specs.declared.event.Reply.TheVariants as reply
use Rattle.pc_calls.specs.declared.limits.LimitField.{LimitField}
use Rattle.pc_calls.specs.declared.limits.Limits.{Limits}
use Rattle.pc_calls.specs.declared.limits.Profile.{Profile}
use Rattle.pc_calls.specs.declared.refusal.Refusal.TheVariants as refusal
use Rattle.pc_agent.specs.PlainAgent.{PlainAgent, fresh}
use Rattle.pc_kernel.specs.Reads.{is_cpu, shown}
use Rattle.pc_kernel.specs.Steps.{after}
use Rattle.pc_policy.specs.Rules.{Rules}
use Rattle.pc_script.specs.declared.command.Command.{Command}
use Rattle.pc_script.specs.declared.command.Command.TheVariants as command
use Rattle.pc_policy.specs.declared.named.PolicyName.{PolicyName}
use Rattle.pc_script.specs.declared.response.Response.{Response}
use Rattle.pc_script.specs.declared.response.Response.TheVariants as response
use Rattle.pc_session.specs.Session as session
use Rattle.pc_session.specs.Session.{IsLimited, IsPolicy, IsRun, IsSession, IsStep, PlainEnclave, Session, touched, untouched}
use Rattle.pc_world.specs.PlainWorld.{PlainWorld, copied_all, opened, opened_by, with_agent}
use Rattle.pc_world.specs.Steps.{IsBadCpu, IsCalled, IsPublished, Step}
use Rattle.pc_world.proofs.Determined.{Same, step_same}
use Rattle.pc_replayed.specs.Replays.{LeavesNoChoice}
use Rattle.pc_replayed.proofs.Elsewhere.{Alike, step_follows, with_agents}

-- ---- one step

refused_same : (w : PlainWorld) → Same (IsBadCpu w)
refused_same w t u a b h k = (h.refused ∙ sym k.refused, h.same ∙ sym k.same)

told_same : (told : Reply) (new : PlainWorld) → Same (λ t a. (t ≡ told) × (a ≡ new))
told_same told new t u a b h k = (h.0 ∙ sym k.0, h.1 ∙ sym k.1)

there_same : (there : Bool) (w : PlainWorld) (Holds : Reply → PlainWorld → Type 0) → Same Holds → Same (λ t a. MatchBool there (Holds t a) (IsBadCpu w t a))
there_same true w Holds same = same
there_same false w Holds same = refused_same w

called_same : (w : PlainWorld) (made : Call) → Same (IsCalled w made)
called_same w made t u a b h k = (h.tells ∙ sym k.tells, h.after ∙ sym k.after)

-- an event that is no answer has one step
event_same : (w : PlainWorld) (e : Event) → LeavesNoChoice (command.Event e) → Same (Step w e)
event_same w (event.Env made) clear = called_same w (call.Env made)
event_same w (event.Agent made) clear = called_same w (call.Agent made)
event_same w (event.Publish c false) clear = step_same w (event.Publish c false) tt
event_same w (event.Publish c true) clear =
    there_same (is_cpu (shown w.kernel) c) w (IsPublished w c true) (told_same (reply.Refused refusal.WireFault) (copied_all w c))
event_same w (event.Consume c) clear = step_same w (event.Consume c) tt
event_same w (event.Deliver c k) clear = step_same w (event.Deliver c k) tt
event_same w (event.Answer c asker) clear = absurd clear
event_same w (event.Pick c n) clear = step_same w (event.Pick c n) tt
event_same w (event.Steal c) clear = step_same w (event.Steal c) tt
event_same w (event.Crash c) clear =
    let new = record (with_agent w c (fresh (w.agents c).rules)) { kernel = after w.kernel (rouses c) } in
    there_same (is_cpu (shown w.kernel) c) w (λ t a. (t ≡ reply.Done) × (a ≡ new)) (told_same reply.Done new)

-- ---- sessions that are alike

-- the worlds are the same but for agents of CPUs that are not there
pub record AlikeWorlds (w v : PlainWorld) : Type 0 where
  pub agents : ℕ → PlainAgent
  pub alike : Alike w agents
  pub is : v ≡ with_agents w agents

pub record AlikeEnclaves (e d : PlainEnclave) : Type 0 where
  pub worlds : AlikeWorlds e.world d.world
  pub touch : e.is_untouched ≡ d.is_untouched

abbrev pub AlikeSessions : Session → Session → Type 0
AlikeSessions None None = Unit {0}
AlikeSessions None (Some d) = ⊥
AlikeSessions (Some e) None = ⊥
AlikeSessions (Some e) (Some d) = AlikeEnclaves e d

own_worlds : (w : PlainWorld) → AlikeWorlds w w
own_worlds w = record { agents = w.agents; alike = λ c there. refl; is = refl }

own_enclaves : (e : PlainEnclave) → AlikeEnclaves e e
own_enclaves e = record { worlds = own_worlds e.world; touch = refl }

own_sessions : (s : Session) → AlikeSessions s s
own_sessions None = tt
own_sessions (Some e) = own_enclaves e

-- these are what two steps told and left
abbrev pub SameSteps : {A : Type 0} → (A → A → Type 0) → Response → Response → A → A → Type 0
SameSteps AreAlike told said new other = (told ≡ said) × AreAlike new other

moved : {A : Type 0} (AreAlike : A → A → Type 0) (a b c d : A) → a ≡ c → b ≡ d → AreAlike c d → AreAlike a b
moved AreAlike a b c d first second alike = subst (λ x. AreAlike x b) (sym first) (subst (AreAlike c) (sym second) alike)

event_alike : (e d new other : PlainEnclave) (one : Event) (told said : Response) → LeavesNoChoice (command.Event one) → AlikeEnclaves e d
    → session.IsEvent e one told new → session.IsEvent d one said other → SameSteps AlikeEnclaves told said new other
event_alike e d new other one told said clear alike does did =
    let worlds = alike.worlds in
    let follows = step_follows e.world does.after worlds.agents one does.reply worlds.alike does.step in
    let step : Step (with_agents e.world worlds.agents) one did.reply did.after = subst (λ w. Step w one did.reply did.after) worlds.is did.step in
    let same = event_same (with_agents e.world worlds.agents) one clear does.reply did.reply (with_agents does.after follows.agents) did.after follows.holds step in
    let behind : AlikeWorlds does.after did.after = record { agents = follows.agents; alike = follows.alike; is = sym same.1 } in (
      does.tells ∙ ap response.Event same.0 ∙ sym did.tells,
      moved AlikeEnclaves new other (touched does.after) (touched did.after) does.leaves did.leaves (record { worlds = behind; touch = refl }),
    )

-- worlds that are opened with the same rules on each CPU that is there
opened_alike : (limits others : Limits) (each every : ℕ → Rules) → others ≡ limits → ((c : ℕ) → c < limits.cpus → every c ≡ each c)
    → AlikeWorlds (opened_by each limits) (opened_by every others)
opened_alike limits others each every are same =
    record {
      agents = λ c. fresh (every c);
      alike = λ c there. ap fresh (same c (ltb-true c limits.cpus there));
      is = ap (opened_by every) are;
    }

policy_alike : (b a : Bool) (e d new other : PlainEnclave) (policy : PolicyName) (told said : Response) → b ≡ a → AlikeEnclaves e d
    → IsPolicy b e policy told new → IsPolicy a d policy said other → SameSteps AlikeEnclaves told said new other
policy_alike true true e d new other policy told said same alike (tells, ruled) (says, ruling) =
    let limits : d.world.kernel.limits ≡ e.world.kernel.limits = ap (λ (w : PlainWorld). w.kernel.limits) alike.worlds.is in
    let worlds = opened_alike e.world.kernel.limits d.world.kernel.limits ruled.each ruling.each limits
    (λ c low. ruling.same c (subst (λ (l : Limits). c < l.cpus) (sym limits) low) ∙ sym (ruled.same c low)) in (
      tells ∙ sym says,
      moved AlikeEnclaves new other (untouched (opened_by ruled.each e.world.kernel.limits)) (untouched (opened_by ruling.each d.world.kernel.limits))
          ruled.opens ruling.opens (record { worlds = worlds; touch = refl }),
    )
policy_alike false false e d new other policy told said same alike (tells, is) (says, was) =
    (tells ∙ sym says, moved AlikeEnclaves new other e d is was alike)
policy_alike true false e d new other policy told said same alike does did = absurd (true≢false same)
policy_alike false true e d new other policy told said same alike does did = absurd (true≢false (sym same))

world_alike : (e d new other : PlainEnclave) (given : Command) (told said : Response) → LeavesNoChoice given → AlikeEnclaves e d
    → session.IsWorldStep e given told new → session.IsWorldStep d given said other → SameSteps AlikeEnclaves told said new other
world_alike e d new other (command.Enclave limits) told said clear alike (tells, is) (says, was) =
    (tells ∙ sym says, moved AlikeEnclaves new other e d is was alike)
world_alike e d new other (command.Event one) told said clear alike does did = event_alike e d new other one told said clear alike does did
world_alike e d new other (command.Policy policy) told said clear alike does did =
    policy_alike e.is_untouched d.is_untouched e d new other policy told said alike.touch alike does did
world_alike e d new other (command.Read question) told said clear alike does did = absurd clear
world_alike e d new other (command.Mend cpu) told said clear alike does did = absurd clear

-- before there is a world a command has one response, and leaves one session
opening_same : (profile : Profile) (given : Command) (told said : Response) (new other : Session) → LeavesNoChoice given
    → session.IsOpening profile given told new → session.IsOpening profile given said other → SameSteps AlikeSessions told said new other
opening_same profile (command.Enclave limits) told said new other clear does did = limited (bad_field profile limits) does did
  where
    limited : (field : Option LimitField) → IsLimited field limits told new → IsLimited field limits said other → SameSteps AlikeSessions told said new other
    limited None (tells, is) (says, was) =
        let begun = Some (untouched (opened limits)) in
        (tells ∙ sym says, moved AlikeSessions new other begun begun is was (own_enclaves (untouched (opened limits))))
    limited (Some field) (tells, is) (says, was) = (tells ∙ sym says, moved AlikeSessions new other None None is was tt)
opening_same profile (command.Event one) told said new other clear (tells, is) (says, was) =
    (tells ∙ sym says, moved AlikeSessions new other None None is was tt)
opening_same profile (command.Policy policy) told said new other clear (tells, is) (says, was) =
    (tells ∙ sym says, moved AlikeSessions new other None None is was tt)
opening_same profile (command.Read question) told said new other clear does did = absurd clear
opening_same profile (command.Mend cpu) told said new other clear does did = absurd clear

step_alike : (profile : Profile) (s r new other : Session) (given : Command) (told said : Response) → LeavesNoChoice given → AlikeSessions s r
    → IsStep profile s given told new → IsStep profile r given said other → SameSteps AlikeSessions told said new other
step_alike profile None None new other given told said clear alike does did = opening_same profile given told said new other clear does did
step_alike profile None (Some d) new other given told said clear alike does did = absurd alike
step_alike profile (Some e) None new other given told said clear alike does did = absurd alike
step_alike profile (Some e) (Some d) new other given told said clear alike (next, does, is) (last, did, was) =
    let same = world_alike e d next last given told said clear alike does did in
    (same.0, moved AlikeSessions new other (Some next) (Some last) is was same.1)

-- ---- a run

each_before : (commands : List Command) (given : Command) → All LeavesNoChoice (commands ++ given ∷ []) → All LeavesNoChoice commands
each_before commands given all = λ k d below.
    subst LeavesNoChoice (get_or_append_left commands (given ∷ []) d k below) (all k d (omega (arith, below, length-append commands (given ∷ []))))

each_last : (commands : List Command) (given : Command) → All LeavesNoChoice (commands ++ given ∷ []) → LeavesNoChoice given
each_last commands given all =
    subst LeavesNoChoice (get_or_push commands given given (length commands) refl) (all (length commands) given (omega (arith, length-append commands (given ∷ []))))

none_pushed : {X : Type 0} (xs : List X) (x : X) → [] ≡ xs ++ x ∷ [] → ⊥
none_pushed xs x same = let size = ap length same in omega (arith, size, length-append xs (x ∷ []))

runs_alike : {profile : Profile} {begin from : Session} {commands others : List Command} {told said : List Response} {end' last : Session}
    → AlikeSessions begin from → IsRun profile begin commands told end' → IsRun profile from others said last
    → commands ≡ others → All LeavesNoChoice commands → (told ≡ said) × AlikeSessions end' last
runs_alike alike session.none session.none same clear = (refl, alike)
runs_alike alike session.none (session.one_more before responses given response run step) same clear = absurd (none_pushed before given same)
runs_alike alike (session.one_more before responses given response run step) session.none same clear = absurd (none_pushed before given (sym same))
runs_alike {profile} {end'} {last} alike (session.one_more {m} before responses given response run step)
    (session.one_more {m = n} earlier replies other reply ran did) same clear =
    let parts = same_from_push before earlier given other same in
    let so_far = runs_alike alike run ran parts.0 (each_before before given clear) in
    let next = step_alike profile m n end' last given response reply (each_last before given clear) so_far.1 step
    (subst (λ c. IsStep profile n c reply last) (sym parts.1) did) in
    (ap₂ (λ ts t. ts ++ t ∷ []) so_far.0 next.0, next.1)

-- a session of the same commands has the same responses
pub one_session : (profile : Profile) (commands : List Command) (told said : List Response) → All LeavesNoChoice commands
    → IsSession profile commands told → IsSession profile commands said → told ≡ said
one_session profile commands told said clear (end', run) (last, ran) = (runs_alike tt run ran refl clear).0
