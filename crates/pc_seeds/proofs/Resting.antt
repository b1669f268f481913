-- A run without restarts does not come to rest while a thread waits.
use Rattle.std.proofs.Common.{◌≡◌, ◌<◌, ℕ, zero, suc, Bool, true, false, List, [], ◌∷◌, ◌++◌, length, map, All, None, refl, sym, ◌∙◌, ap, subst, arith}
use Rattle.std.proofs.lemmas.Bool.{false≢true}
use Rattle.pc_messages.specs.State.{phase_of, state_of}
use Rattle.pc_calls.specs.declared.leaving.Leaving.TheVariants as how
use Rattle.pc_calls.specs.declared.limits.Limits.{Limits}
use Rattle.pc_kernel.specs.Answers.{Shows as ShowsKernel}
use Rattle.pc_kernel.specs.PlainKernel.{PlainKernel, is_known, kinds}
use Rattle.pc_kernel.specs.Reads.{reported_of, shown}
use Rattle.pc_kernel.specs.Rows.{KernelRows}
use Rattle.pc_kernel.specs.Steps.{is_dead}
use Rattle.pc_policy.specs.Rules.{Rules}
use Rattle.pc_run_queue.specs.Runs.{may_run}
use Rattle.pc_world.specs.PlainWorld.{PlainWorld}
use Rattle.pc_world.specs.Shows.{ShowsWorld}
use Rattle.pc_world.proofs.Taken.{alive}
use Rattle.pc_protocol.specs.Machine.{Machine, Shows}
use Rattle.pc_protocol.specs.Protocol.{Protocol}
use Rattle.pc_protocol.specs.Resting.{IsAtRest}
use Rattle.pc_protocol.specs.Running.{IsLife, RestIsDone, TakesEach}
use Rattle.pc_threads.specs.declared.settings.plans.Step.{Step}
use Rattle.pc_threads.specs.declared.settings.plans.Step.TheVariants.{Block, Die, Preempt, Yield}
use Rattle.pc_threads.specs.Settings.{IsPlan, Plan, is_die, IsLife as IsLifeOfSteps}
use Rattle.pc_seeds.specs.declared.driver.Driver.{Driver}
use Rattle.pc_seeds.specs.Driving.{HasNothingToDo, IsInRun, deed_of, deeds_of}
use Rattle.pc_seeds.specs.Ending.{IsHeldUp}

-- a step that is no death is no deed of one
no_death : (step : Step) → is_die step ≡ false → (deed_of step).leaving ≡ how.Die → ⊥
no_death (Yield n) e d = cc
no_death (Block n) e d = cc
no_death (Preempt n) e d = cc
no_death (Die n) e d = cc

goes_on : (steps : List Step) → All (λ step. is_die step ≡ false) steps → All (λ deed. deed.leaving ≡ how.Die → ⊥) (map deed_of steps)
goes_on [] h k d low = absurd (omega arith)
goes_on (step ∷ steps) h zero d low = no_death step (h 0 step (omega arith))
goes_on (step ∷ steps) h (suc k) d low = goes_on steps (λ j s below. h (suc j) s (omega arith)) k d (omega arith)

map_end : (steps : List Step) (n : ℕ) → map deed_of (steps ++ Die n ∷ []) ≡ map deed_of steps ++ record { leaving = how.Die; ran = n } ∷ []
map_end [] n = refl
map_end (step ∷ steps) n = ap (λ l. deed_of step ∷ l) (map_end steps n)

-- the steps of a thread are a life of deeds
life_of : (plan : Plan) → IsLifeOfSteps plan.steps → IsLife (deeds_of plan).deeds
life_of plan h =
    record { before = map deed_of h.before; ran = h.ticks; ends = ap (map deed_of) h.ends ∙ map_end h.before h.ticks; goes_on = goes_on h.before h.goes_on }

pub lives_of : (cpus : ℕ) (plans : List Plan) → All (IsPlan cpus) plans → All (λ plan. IsLife plan.deeds) (map deeds_of plans)
lives_of cpus [] h k d low = absurd (omega arith)
lives_of cpus (plan ∷ plans) h zero d low = life_of plan (h 0 plan (omega arith)).life
lives_of cpus (plan ∷ plans) h (suc k) d low = lives_of cpus plans (λ j p below. h (suc j) p (omega arith)) k d (omega arith)

many_of : (plans : List Plan) → length (map deeds_of plans) ≡ length plans
many_of [] = refl
many_of (plan ∷ plans) = ap suc (many_of plans)

-- a thread that is held up is alive
told_of : (b : Bool) (P : PlainKernel) (t c : ℕ) → is_known P t ≡ b → may_run (reported_of (shown P) t) c ≡ true → may_run (state_of (kinds P t)) c ≡ true
told_of true P t c known may = let same : reported_of (shown P) t ≡ state_of (kinds P t) = rw known refl in subst (λ o. may_run o c ≡ true) same may
told_of false P t c known may = let none : reported_of (shown P) t ≡ None = rw known refl in absurd (false≢true (subst (λ o. may_run o c ≡ true) none may))

is_alive : (k : KernelRows) (P : PlainKernel) (t c : ℕ) → ShowsKernel k P → IsHeldUp k t c → is_dead (phase_of (kinds P t)) ≡ false
is_alive k P t c shows held = alive (kinds P t) c (told_of (is_known P t) P t c refl (subst (λ r. may_run (reported_of r t) c ≡ true) shows.reads held.may))

-- at rest no thread of the plans is held up
pub none_held : RestIsDone → (rules : ℕ → Rules) (limits : Limits) (cpus : ℕ) (plans : List Plan) (machine : Machine) (driver : Driver) (k : KernelRows) (t c : ℕ) → All (IsPlan cpus) plans → ((c : ℕ) → TakesEach (rules c) c)
    → IsInRun rules limits plans machine driver → ((p : Protocol) → Shows machine p → IsAtRest p × HasNothingToDo driver) → ((w : PlainWorld) → ShowsWorld machine.world w → ShowsKernel k w.kernel) → IsHeldUp k t c → t < length plans → ⊥
none_held rest_is_done rules limits cpus plans machine driver k t c sound takes run rests shows held low =
    let r = run.0 in
    let here = run.2 in
    let P = r.protocol.world.kernel in
    let still = rests r.protocol here.shows in
    let dead =
    rest_is_done rules limits (map deeds_of plans) r (lives_of cpus plans sound) (λ d inside. takes d) run.1
    record { rests = still.0; none_told = here.keeps.told ∙ still.1.none_told; none_blocked = here.keeps.blocked ∙ still.1.none_blocked }
    t (subst (λ n. t < n) (sym (many_of plans)) low) in
    let alive_there = is_alive k P t c (shows r.protocol.world here.shows.world) held in
    absurd (false≢true (sym alive_there ∙ ap is_dead dead))
