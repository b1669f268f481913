-- A session goes through a run's moments, from the world that its opening opens.
use Rattle.std.proofs.Common.{◌≡◌, ◌∙◌, ◌<◌, ℕ, true, false, List, [], ◌∷◌, ◌++◌, append_assoc, append-nil, map, Some, None, refl, sym, ap, subst}
use Rattle.std.proofs.lemmas.Bool.{lt-ltb, ltb-true}
use Rattle.std.proofs.lemmas.List.{map-append}
use Rattle.pc_calls.specs.Limits.{bad_field}
use Rattle.pc_calls.specs.declared.limits.Limits.{Limits}
use Rattle.pc_calls.specs.declared.limits.Profile.{Profile}
use Rattle.pc_calls.specs.declared.limits.Profile.TheVariants.{One, Two}
use Rattle.pc_agent.specs.PlainAgent.{PlainAgent, fresh}
use Rattle.pc_lab.specs.Moments as lab
use Rattle.pc_lab.specs.Moments.{Leads, Moment}
use Rattle.pc_policy.proofs.Orders.{usual_rules}
use Rattle.pc_policy.specs.Names.{is_usual, rules_named}
use Rattle.pc_policy.specs.Rules.{Rules, usual}
use Rattle.pc_script.specs.declared.command.Command.{Command}
use Rattle.pc_script.specs.declared.command.Command.TheVariants.{Enclave, Policy}
use Rattle.pc_policy.specs.declared.named.PolicyName.{PolicyName}
use Rattle.pc_script.specs.declared.response.Response.{Response}
use Rattle.pc_script.specs.declared.response.Response.TheVariants as response
use Rattle.pc_session.specs.Session as session
use Rattle.pc_session.specs.Session.{IsLimited, IsRun, IsSession, IsStep, PlainEnclave, touched, untouched}
use Rattle.pc_world.specs.PlainWorld.{PlainWorld, opened, opened_by}
use Rattle.pc_world.specs.Steps.{Step}
use Rattle.pc_replayed.specs.Replays.{AreSame, EndsWith, command_of, response_of}
use Rattle.pc_replayed.proofs.Elsewhere.{Alike, leads_follow}

-- ---- moments as commands of a session

-- a session went on by moments, behind these commands, and has this world now
pub record GoesOn (profile : Profile) (commands : List Command) (told : List Response) (moments : List Moment) (world : PlainWorld) : Type 0 where
  pub last : PlainEnclave
  pub has : last.world ≡ world
  pub run : IsRun profile None (commands ++ map command_of moments) (told ++ map response_of moments) (Some last)

mapped_more : {A : Type 0} (f : Moment → A) (before : List A) (moments : List Moment) (moment : Moment)
    → before ++ map f moments ++ f moment ∷ [] ≡ before ++ map f (moments ++ moment ∷ [])
mapped_more f before moments moment =
    append_assoc before (map f moments) (f moment ∷ []) ∙ ap (λ after. before ++ after) (sym (map-append f moments (moment ∷ [])))

went_on : (profile : Profile) (commands commands' : List Command) (told told' : List Response) (last : PlainEnclave) → commands ≡ commands' → told ≡ told'
    → IsRun profile None commands told (Some last) → IsRun profile None commands' told' (Some last)
went_on profile commands commands' told told' last same alike run =
    subst (λ cs. IsRun profile None cs told' (Some last)) same (subst (λ ts. IsRun profile None commands ts (Some last)) alike run)

goes_on : {profile : Profile} {begin : PlainWorld} {moments : List Moment} {world : PlainWorld} → Leads begin moments world
    → (commands : List Command) (told : List Response) (e : PlainEnclave) → e.world ≡ begin → IsRun profile None commands told (Some e)
    → GoesOn profile commands told moments world
goes_on {profile} lab.nothing commands told e has run =
    record {
      last = e;
      has = has;
      run = went_on profile commands (commands ++ []) told (told ++ []) e (sym (append-nil commands)) (sym (append-nil told)) run;
    }
goes_on {profile} (lab.one_more {world = middle} {next} moments moment before low step) commands told e has run =
    let far = goes_on before commands told e has run in
    let now : PlainEnclave = touched next in
    let does : IsStep profile (Some far.last) (command_of moment) (response_of moment) (Some now) = (
      now,
      record {
        reply = moment.reply;
        after = next;
        step = subst (λ w. Step w moment.event moment.reply next) (sym far.has) step;
        tells = refl;
        leaves = refl;
      },
      refl,
    ) in
    let one = session.one_more (commands ++ map command_of moments) (told ++ map response_of moments) (command_of moment) (response_of moment) far.run does in
    record {
      last = now;
      has = refl;
      run = went_on profile (commands ++ map command_of moments ++ command_of moment ∷ []) (commands ++ map command_of (moments ++ moment ∷ []))
          (told ++ map response_of moments ++ response_of moment ∷ []) (told ++ map response_of (moments ++ moment ∷ [])) now
          (mapped_more command_of commands moments moment) (mapped_more response_of told moments moment) one;
    }

-- ---- the opening

-- an enclave whose limits are within their ranges opens a world
opens : (profile : Profile) (limits : Limits) → bad_field profile limits ≡ None
    → IsRun profile None (Enclave limits ∷ []) (response.Opened ∷ []) (Some (untouched (opened limits)))
opens profile limits within =
    session.one_more [] [] (Enclave limits) response.Opened session.none
    (subst (λ field. IsLimited field limits response.Opened (Some (untouched (opened limits)))) (sym within) (refl, refl))

-- a session of these commands and responses that ends with this world
abbrev pub SessionTo : Profile → List Command → List Response → PlainWorld → Type 0
SessionTo profile commands told last = (run : IsSession profile commands told) × EndsWith last run.0

module _ (limits : Limits) (policy : PolicyName) (each : ℕ → Rules) (same : (c : ℕ) → c < limits.cpus → each c ≡ rules_named policy)
    (moments : List Moment) (plain : PlainWorld) (leads : Leads (opened_by each limits) moments plain) where
  -- by the usual policy, an enclave is all that opens the run's world
  pub usual_run : is_usual policy ≡ true → bad_field One limits ≡ None
      → SessionTo One (Enclave limits ∷ map command_of moments) (response.Opened ∷ map response_of moments) plain
  usual_run is within =
      let agents : ℕ → PlainAgent = λ c. fresh usual in
      let alike : Alike (opened_by each limits) agents = λ c there.
      ap fresh (sym (same c (ltb-true c limits.cpus there) ∙ usual_rules policy is)) in
      let follows = leads_follow leads agents alike in
      let far = goes_on follows.holds (Enclave limits ∷ []) (response.Opened ∷ []) (untouched (opened limits)) refl (opens One limits within) in
      let ends : AreSame far.last.world plain = record {
        kernel = ap (λ (w : PlainWorld). w.kernel) far.has;
        sent = ap (λ (w : PlainWorld). w.sent) far.has;
        agents = λ c low. ap (λ (w : PlainWorld). w.agents c) far.has ∙ follows.alike c (lt-ltb c plain.kernel.limits.cpus low);
      } in
      ((Some far.last, far.run), ends)

  -- by any other policy, it opens a world that the policy opens anew, where no event was taken yet
  pub ruled_run : bad_field Two limits ≡ None
      → SessionTo Two (Enclave limits ∷ Policy policy ∷ map command_of moments) (response.Opened ∷ response.Ruled policy ∷ map response_of moments) plain
  ruled_run within =
      let begin : PlainEnclave = untouched (opened_by each limits) in
      let ruled : IsStep Two (Some (untouched (opened limits))) (Policy policy) (response.Ruled policy) (Some begin) = (
        begin,
        (refl, record { each = each; same = λ c low. same c low; opens = refl }),
        refl,
      ) in
      let two = session.one_more (Enclave limits ∷ []) (response.Opened ∷ []) (Policy policy) (response.Ruled policy) (opens Two limits within) ruled in
      let far = goes_on leads (Enclave limits ∷ Policy policy ∷ []) (response.Opened ∷ response.Ruled policy ∷ []) begin refl two in
      let ends : AreSame far.last.world plain = record {
        kernel = ap (λ (w : PlainWorld). w.kernel) far.has;
        sent = ap (λ (w : PlainWorld). w.sent) far.has;
        agents = λ c low. ap (λ (w : PlainWorld). w.agents c) far.has;
      } in
      ((Some far.last, far.run), ends)
