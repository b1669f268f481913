-- A stage goes on by one event.
use Rattle.std.proofs.Common.{◌≡◌, ◌≤◌, ◌<◌, ◌+◌, ◌∙◌, ℕ, zero, suc, List, [], ◌∷◌, ◌++◌, Bool, true, false, Option, Some, None, IfSome, All, get_or, length, is_some, slice_get, unwrap_or, if◌then◌else◌, refl, sym, ap, subst, arith}
use Rattle.std.proofs.lemmas.List.{append_assoc, append-nil, length-append}
use Rattle.std.proofs.lemmas.List.Elements.{All-nil, All-push}
use Rattle.pc_calls.specs.declared.event.Event.{Event}
use Rattle.pc_calls.specs.declared.event.Reply.{Reply}
use Rattle.pc_policy.specs.Rules.{Rules, rules_of}
use Rattle.pc_policy.specs.declared.agent_policy.AgentPolicy.{AgentPolicy}
use Rattle.pc_load.specs.Loads.{Demand}
use Rattle.pc_script.specs.Grammar.{AreInRange, event_row}
use Rattle.pc_policy.specs.declared.named.PolicyName.{PolicyName}
use Rattle.pc_world.specs.PlainWorld.{opened_by, rules_at}
use Rattle.pc_world.specs.Shows.{Does, ShowsWorld, World}
use Rattle.pc_world.specs.Steps.{Step}
use Rattle.pc_lab.specs.Counting.{Counts, counted_as, counted_in, is_counted}
use Rattle.pc_lab.specs.declared.chronicle.Chronicle.{Chronicle}
use Rattle.pc_lab.specs.declared.chronicle.Chronicle.TheVariants.{Untold, Script}
use Rattle.pc_lab.specs.declared.counted.Counted.{Counted}
use Rattle.pc_lab.specs.declared.counted.Counted.TheVariants.{Commit}
use Rattle.pc_lab.specs.Creations.{Creation, creation_at, creation_in, creations_of, is_posted}
use Rattle.pc_lab.specs.Limits.{limits_for}
use Rattle.pc_lab.specs.Moments.{IsNoAnswer, IsNoCommit, IsPlayable, IsWritten, Leads, Moment, last_tick}
use Rattle.pc_lab.specs.Moments as moments
use Rattle.pc_lab.specs.Stages.{Holds, IsRun, MayCome, Tells, text_in}
use Rattle.pc_policy.specs.Names.{AreAll, rules_named}
use Rattle.pc_lab.specs.Texts.{body_text, moment_text}
use Rattle.pc_lab.proofs.Comings.{first_on, many_on}
use Rattle.pc_lab.proofs.Counting as counting
use Rattle.pc_lab.proofs.Texts.{last_one, one_more}
use Rattle.pc_lab.proofs.Readiness.{behind_more, behind_none, told_more}
use Rattle.pc_lab.specs.Waiters.{AreBehind, AreNext, since_in, wait_in}
use Rattle.pc_lab.specs.Waiting.{ended_by, ready_in}
use Rattle.pc_lab.specs.declared.waits.Wait.{Wait}
use Rattle.pc_lab.specs.declared.waits.Waiter.{Waiter}
use Rattle.pc_calls.specs.declared.event.Reply.TheVariants.{Committed}

-- the rules of a CPU are those of the policy at its place
rules_there : (policies : List AgentPolicy) (c : ℕ) (other : AgentPolicy) → c < length policies → rules_at policies c ≡ rules_of (get_or policies c other)
rules_there [] c other low = absurd (omega (arith, low))
rules_there (policy ∷ policies) zero other low = refl
rules_there (policy ∷ policies) (suc c) other low = rules_there policies c other (omega (arith, low))

-- of policies that have the same rules, each has them
each_at : (rules : Rules) (policies : List AgentPolicy) → All (λ policy. rules_of policy ≡ rules) policies → (c : ℕ) → c < length policies → rules_at policies c ≡ rules
each_at rules [] all c low = absurd (omega (arith, low))
each_at rules (policy ∷ policies) all c low = rules_there (policy ∷ policies) c policy low ∙ all c policy low

-- at the start nothing has happened
pub opened : (load : Demand) (policy : PolicyName) (before : List ℕ) (world : World) (chronicle : Chronicle) (policies : List AgentPolicy) (tally : List ℕ)
    → AreAll (rules_named policy) (limits_for load).cpus policies → ShowsWorld world (opened_by (rules_at policies) (limits_for load)) → Holds before chronicle []
    → ((what : Counted) → counted_in tally what ≡ 0) → IsRun load policy before world chronicle None 0 tally [] [] 0
opened load policy before world chronicle policies tally all shows holds counts =
    record {
      each = rules_at policies;
      same = λ c low. each_at (rules_named policy) policies all.each c (omega (arith, low, all.many));
      moments = [];
      plain = opened_by (rules_at policies) (limits_for load);
      leads = moments.nothing;
      written = All-nil IsWritten;
      answers_none = All-nil (λ moment. IsNoAnswer moment.event);
      commits_none = All-nil (λ moment. IsNoCommit moment.event);
      created = refl;
      many = refl;
      shows = shows;
      last = refl;
      holds = holds;
      number = refl;
      counts = counts;
      ended = refl;
      are_told = refl;
      behind = behind_none load;
    }

-- a chronicle to which one moment's lines were added holds that one too
holds_one : (before : List ℕ) (old new : Chronicle) (moments : List Moment) (moment : Moment) → Holds before old moments
    → Tells (last_tick None moments) moment.tick moment.event old new → Holds before new (moments ++ moment ∷ [])
holds_one before Untold Untold moments moment holds tells = tells
holds_one before Untold (Script new) moments moment holds tells = absurd tells
holds_one before (Script old) Untold moments moment holds tells = absurd tells
holds_one before (Script old) (Script new) moments moment holds tells =
    let lines = moment_text (last_tick None moments) moment in
    tells ∙ ap (λ text. text ++ lines) holds ∙ append_assoc before (body_text moments) lines ∙ ap (λ text. before ++ text) (sym (one_more None moments moment))

-- a creation that was accepted is the one that was asked for
accepted : (posted : Bool) (asked : Option Creation) (one : Creation) → (if posted then asked else None) ≡ Some one → asked ≡ Some one
accepted true asked one is = is
accepted false asked one is = cc

-- an event was taken
pub goes_on : (load : Demand) (policy : PolicyName) (before : List ℕ) (old new : World) (chronicle chronicle' : Chronicle) (told : Option ℕ)
    (tick events : ℕ) (tally tally' : List ℕ) (waits waits' : List Wait) (waiters waiters' : List Waiter) (came came' : ℕ) (event : Event) (reply : Reply)
    → IsRun load policy before old chronicle told events tally waits waiters came → IfSome told (λ last. last ≤ tick)
    → MayCome load (record { tick = tick; came = came }) event → AreInRange (event_row event).fields → IsPlayable event
    → Does (λ w. Step w event) old new reply → Tells told tick event chronicle chronicle'
    → Counts (counted_as event reply) tally tally'
    → length waits' ≡ length waits + (if is_counted Commit (counted_as event reply) then 1 else 0)
    → waits' ≡ waits ++ ended_by (wait_in waiters tick) reply
    → ((cpu thread : ℕ) → reply ≡ Committed cpu thread → thread < length waiters)
    → AreNext (λ t. unwrap_or (ready_in t (record { tick = tick; event = event; reply = reply })) (since_in waiters t)) waiters waiters'
    → came' ≡ came + (if is_some (creation_in (record { tick = tick; event = event; reply = reply })) then 1 else 0)
    → IsRun load policy before new chronicle' (Some tick) (events + 1) tally' waits' waiters' came'
goes_on load policy before old new chronicle chronicle' told tick events tally tally' waits waits' waiters waiters' came came' event reply run low next ranges none does tells counts more ends known begins comes =
    let moment : Moment = record { tick = tick; event = event; reply = reply } in
    let after = does run.plain run.shows in
    record {
      each = run.each;
      same = run.same;
      moments = run.moments ++ moment ∷ [];
      plain = after.0;
      leads = moments.one_more run.moments moment run.leads (subst (λ last. IfSome last (λ t. t ≤ tick)) run.last low) after.1;
      written = All-push IsWritten run.moments moment run.written ranges;
      answers_none = All-push (λ m. IsNoAnswer m.event) run.moments moment run.answers_none none.0;
      commits_none = All-push (λ m. IsNoCommit m.event) run.moments moment run.commits_none none.1;
      created = first_on run.moments moment (creations_of load) run.created
          (λ one is. subst (λ n. slice_get (creations_of load) n ≡ Some one) run.many (next one (accepted (is_posted reply) (creation_at tick event) one is)));
      many = comes ∙ ap (λ n. n + (if is_some (creation_in moment) then 1 else 0)) run.many ∙ sym (many_on run.moments moment);
      shows = after.2;
      last = sym (last_one None run.moments moment);
      holds = holds_one before chronicle chronicle' run.moments moment run.holds (subst (λ last. Tells last tick event chronicle chronicle') run.last tells);
      number = ap (λ n. n + 1) run.number ∙ sym (length-append run.moments (moment ∷ []));
      counts = λ what. counts what ∙ ap (λ n. n + (if is_counted what (counted_as event reply) then 1 else 0)) (run.counts what)
          ∙ sym (counting.one_more what run.moments moment);
      ended = more ∙ ap (λ n. n + (if is_counted Commit (counted_as event reply) then 1 else 0)) run.ended
          ∙ sym (counting.one_more Commit run.moments moment);
      are_told = told_more load run.moments moment waiters waits waits' run.behind run.are_told ends known;
      behind = behind_more load run.moments moment waiters waiters' run.behind begins;
    }

-- one thread more is kept, and nothing has happened
pub waits_on : (load : Demand) (policy : PolicyName) (before : List ℕ) (world : World) (chronicle : Chronicle) (told : Option ℕ) (events : ℕ) (tally : List ℕ)
    (waits waits' : List Wait) (waiters waiters' : List Waiter) (came : ℕ) → IsRun load policy before world chronicle told events tally waits waiters came
    → waits' ≡ waits → ((moments : List Moment) → AreBehind load moments waiters → AreBehind load moments waiters')
    → IsRun load policy before world chronicle told events tally waits' waiters' came
waits_on load policy before world chronicle told events tally waits waits' waiters waiters' came run same behind =
    record {
      each = run.each;
      same = run.same;
      moments = run.moments;
      plain = run.plain;
      leads = run.leads;
      written = run.written;
      answers_none = run.answers_none;
      commits_none = run.commits_none;
      created = run.created;
      many = run.many;
      shows = run.shows;
      last = run.last;
      holds = run.holds;
      number = run.number;
      counts = run.counts;
      ended = ap length same ∙ run.ended;
      are_told = same ∙ run.are_told;
      behind = behind run.moments run.behind;
    }

-- what a chronicle has holds no moments yet
pub holds_own : (chronicle : Chronicle) → Holds (text_in chronicle) chronicle []
holds_own Untold = tt
holds_own (Script text) = sym (append-nil text.items)
