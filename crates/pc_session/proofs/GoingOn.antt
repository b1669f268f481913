-- A session goes on, whatever it is asked.
use Rattle.std.proofs.Common.{ℕ, ◌≤◌, ◌↔◌, Bool, true, false, IsTrue, List, [], ◌∷◌, ◌++◌, Option, Some, None, refl, sym, subst, inl, append-nil, append_assoc}
use Rattle.pc_calls.specs.declared.event.Event.{Event}
use Rattle.pc_calls.specs.declared.event.Reply.{Reply}
use Rattle.pc_calls.specs.declared.limits.Limits.{Limits}
use Rattle.pc_calls.specs.declared.limits.LimitField.{LimitField}
use Rattle.pc_calls.specs.declared.limits.Profile.{Profile}
use Rattle.pc_calls.specs.Limits.{bad_field}
use Rattle.pc_join.specs.Sets.{has}
use Rattle.pc_view.specs.Prefixes.{upto}
use Rattle.pc_script.specs.declared.command.Command.{Command}
use Rattle.pc_script.specs.declared.command.Command.TheVariants.{Enclave, Event as OneEvent, Read, Policy, Mend}
use Rattle.pc_policy.specs.declared.named.PolicyName.{PolicyName}
use Rattle.pc_script.specs.declared.response.Response.{Response}
use Rattle.pc_script.specs.declared.response.Response.TheVariants as response
use Rattle.pc_agent.specs.PlainAgent.{Set}
use Rattle.pc_world.specs.Facts.{EveryEventHasAStep, RunsAreBegun}
use Rattle.pc_world.specs.Mends.{EveryCpuCanBeMended, MendedIsReached}
use Rattle.pc_calls.specs.declared.refusal.Refusal.TheVariants.{TooLate}
use Rattle.pc_policy.specs.Rules.{usual}
use Rattle.pc_world.specs.PlainWorld.{PlainWorld, opened, opened_by}
use Rattle.pc_world.specs.Reached.{Leads, LeadsTo, Reached}
use Rattle.pc_world.specs.Steps.{Step}
use Rattle.pc_session.specs.GoingOn.{SessionsGoOn}
use Rattle.pc_policy.specs.Names.{rules_named}
use Rattle.pc_session.specs.Session.{PlainEnclave, Session, IsLimited, IsOpening, IsPolicy, IsRun, IsSession, IsStep, IsWorldStep, none, one_more, touched, untouched}
use Rattle.pc_session.proofs.Answerable.{read_has}

-- one event more leads further
leads_on : (w new last : PlainWorld) (events : List Event) (event : Event) → Leads w events new → LeadsTo new event last → Leads w (events ++ event ∷ []) last
leads_on w new last [] event same step = (last, subst (λ v. LeadsTo v event last) same step, refl)
leads_on w new last (e ∷ events) event (next, first, rest) step = (next, first, leads_on next new last events event rest step)

reached_on : (limits : Limits) (w new : PlainWorld) (event : Event) (told : Reply) → Reached limits w → Step w event told new → Reached limits new
reached_on limits w new event told reached step =
    record { rules = reached.rules; events = reached.events ++ event ∷ []; leads = leads_on (opened_by reached.rules limits) w new reached.events event reached.leads (inl (told, step)) }

-- the world of a session, where there is one, is one that events lead to
abbrev IsWell : PlainEnclave → Type 0
IsWell e = (limits : Limits) × Reached limits e.world

abbrev StandsWell : Session → Type 0
StandsWell None = Unit {0}
StandsWell (Some e) = IsWell e

ruled_well : (b : Bool) (e new : PlainEnclave) (policy : PolicyName) (told : Response) → IsWell e → IsPolicy b e policy told new → IsWell new
ruled_well true e new policy told well (tells, ruled) =
    subst IsWell (sym ruled.opens) (e.world.kernel.limits, record { rules = ruled.each; events = []; leads = refl })
ruled_well false e new policy told well (tells, same) = subst IsWell (sym same) well

opens_well : (o : Option LimitField) (limits : Limits) (told : Response) (new : Session) → IsLimited o limits told new → StandsWell new
opens_well None limits told new (tells, is) = subst StandsWell (sym is) (limits, record { rules = λ c. usual; events = []; leads = refl })
opens_well (Some field) limits told new (tells, is) = subst StandsWell (sym is) tt

begins_well : (profile : Profile) (command : Command) (told : Response) (new : Session) → IsOpening profile command told new → StandsWell new
begins_well profile (Enclave limits) told new opens = opens_well (bad_field profile limits) limits told new opens
begins_well profile (OneEvent event) told new (tells, is) = subst StandsWell (sym is) tt
begins_well profile (Read read) told new (tells, is) = subst StandsWell (sym is) tt
begins_well profile (Policy policy) told new (tells, is) = subst StandsWell (sym is) tt
begins_well profile (Mend cpu) told new (tells, is) = subst StandsWell (sym is) tt

module _ (reached : MendedIsReached) where
  keeps_well : (e new : PlainEnclave) (command : Command) (told : Response) → IsWell e → IsWorldStep e command told new → IsWell new
  keeps_well e new (Enclave asked) told well (tells, same) = subst IsWell (sym same) well
  keeps_well e new (OneEvent event) told (limits, leads) does =
      subst IsWell (sym does.leaves) (limits, reached_on limits e.world does.after event does.reply leads does.step)
  keeps_well e new (Read read) told well (tells, same) = subst IsWell (sym same) well
  keeps_well e new (Policy policy) told well does = ruled_well e.is_untouched e new policy told well does
  keeps_well e new (Mend cpu) told (limits, well) does =
      subst IsWell (sym does.leaves) (limits, reached limits e.world does.after cpu does.reply well does.mended)

  steps_well : (profile : Profile) (s new : Session) (command : Command) (told : Response) → StandsWell s → IsStep profile s command told new → StandsWell new
  steps_well profile None new command told well opens = begins_well profile command told new opens
  steps_well profile (Some e) new command told well (e', step, is) = subst StandsWell (sym is) (keeps_well e e' command told well step)

  runs_well : {profile : Profile} {s e : Session} {commands : List Command} {told : List Response} → StandsWell s → IsRun profile s commands told e → StandsWell e
  runs_well well none = well
  runs_well {profile} {e} well (one_more {m} commands told command response before step) = steps_well profile m e command response (runs_well well before) step

-- ---- the next command
module _ (events : EveryEventHasAStep) (begun : RunsAreBegun) (mended : EveryCpuCanBeMended) (led : MendedIsReached)
    (the_greatest : (set : Set) (t n : ℕ) → (n ≤ upto set t) ↔ ((m : ℕ) → 1 ≤ m → m ≤ n → IsTrue (has set t m))) where
  policy_next : (b : Bool) (e : PlainEnclave) (policy : PolicyName) → (told : Response) × (new : PlainEnclave) × IsPolicy b e policy told new
  policy_next true e policy =
      let rules = rules_named policy in
      (response.Ruled policy, untouched (opened_by (λ c. rules) e.world.kernel.limits), (refl, record { each = λ c. rules; same = λ c h. refl; opens = refl }))
  policy_next false e policy = (response.Refused TooLate, e, (refl, refl))

  world_next : (e : PlainEnclave) (command : Command) → IsWell e → (told : Response) × (new : PlainEnclave) × IsWorldStep e command told new
  world_next e (Enclave asked) well = (response.HaveEnclave, e, (refl, refl))
  world_next e (OneEvent event) (limits, reached) =
      let next = events limits e.world event reached in
      (response.Event next.0, touched next.1, record { reply = next.0; after = next.1; step = next.2; tells = refl; leaves = refl })
  world_next e (Read read) (limits, reached) =
      let next = read_has the_greatest e.world read (λ t. begun limits e.world t reached) in
      (next.0, e, (next.1, refl))
  world_next e (Policy policy) well = policy_next e.is_untouched e policy
  world_next e (Mend cpu) (limits, reached) =
      let next = mended limits e.world cpu reached in
      (response.Event next.0, touched next.1, record { reply = next.0; after = next.1; mended = next.2; tells = refl; leaves = refl })

  opening_next : (o : Option LimitField) (limits : Limits) → (told : Response) × (new : Session) × IsLimited o limits told new
  opening_next None limits = (response.Opened, Some (untouched (opened limits)), (refl, refl))
  opening_next (Some field) limits = (response.BadLimits field, None, (refl, refl))

  session_next : (profile : Profile) (s : Session) (command : Command) → StandsWell s → (told : Response) × (new : Session) × IsStep profile s command told new
  session_next profile None (Enclave limits) well = opening_next (bad_field profile limits) limits
  session_next profile None (OneEvent event) well = (response.NoEnclave, None, (refl, refl))
  session_next profile None (Read read) well = (response.NoEnclave, None, (refl, refl))
  session_next profile None (Policy policy) well = (response.NoEnclave, None, (refl, refl))
  session_next profile None (Mend cpu) well = (response.NoEnclave, None, (refl, refl))
  session_next profile (Some e) command well =
      let next = world_next e command well in
      (next.0, Some next.1, (next.1, next.2, refl))

  goes_on : (profile : Profile) (more commands : List Command) (told : List Response) (s : Session) → IsRun profile None commands told s
      → (later : List Response) × IsSession profile (commands ++ more) (told ++ later)
  goes_on profile [] commands told s run =
      ([], subst (λ cs. IsSession profile cs (told ++ [])) (sym (append-nil commands)) (subst (λ ts. IsSession profile commands ts) (sym (append-nil told)) (s, run)))
  goes_on profile (command ∷ more) commands told s run =
      let next = session_next profile s command (runs_well led tt run) in
      let rest = goes_on profile more (commands ++ command ∷ []) (told ++ next.0 ∷ []) next.1 (one_more commands told command next.0 run next.2) in (
        next.0 ∷ rest.0,
        subst (λ cs. IsSession profile cs (told ++ (next.0 ∷ rest.0))) (append_assoc commands (command ∷ []) more)
            (subst (λ ts. IsSession profile (commands ++ command ∷ [] ++ more) ts) (append_assoc told (next.0 ∷ []) rest.0) rest.1),
      )

  pub sessions_go_on : SessionsGoOn
  sessions_go_on profile commands more told (s, run) = goes_on profile more commands told s run
