-- The driver of a run by a seed does the steps of the protocol's.
use Rattle.std.proofs.Common.{◌≡◌, ◌<◌, ◌≤◌, ◌==◌, ℕ, zero, suc, Bool, true, false, List, [], ◌∷◌, ◌++◌, length, map, All, drop, get_or, set, replicate, Option, Some, None, option_map, slice_get, if◌then◌else◌, nat_lt, refl, sym, ◌∙◌, ap, subst, inl, inr, arith}
use Rattle.std.specs.Option.{option_map_or}
use Rattle.std.proofs.lemmas.Bool.Decides.{eqb_tells, nat_tests}
use Rattle.std.proofs.lemmas.List.{get_or-set_other, get_or-set_same, length-set}
use Rattle.std.proofs.lemmas.Option.{slice_get-map}
use Rattle.pc_world.proofs.Places.{at_other, at_same}
use Rattle.pc_calls.specs.declared.call.EnvCall.{EnvCall}
use Rattle.pc_calls.specs.declared.call.EnvCall.TheVariants.{Wake}
use Rattle.pc_calls.specs.declared.event.Reply.{Reply}
use Rattle.pc_calls.specs.declared.event.Reply.TheVariants as reply
use Rattle.pc_calls.specs.declared.limits.Limits.{Limits}
use Rattle.pc_calls.specs.declared.call.Posted.{Posted}
use Rattle.pc_calls.specs.Leavings.{call_for}
use Rattle.pc_kernel.specs.Answers.{Shows as ShowsKernel}
use Rattle.pc_kernel.specs.PlainKernel.{PlainKernel}
use Rattle.pc_kernel.specs.Reads.{on, seen, shown}
use Rattle.pc_kernel.specs.Rows.{KernelRows}
use Rattle.pc_kernel.specs.Steps.{at}
use Rattle.pc_policy.specs.declared.agent_policy.AgentPolicy.{AgentPolicy}
use Rattle.pc_policy.specs.Rules.{Rules, rules_of}
use Rattle.pc_world.specs.PlainWorld.{rules_at}
use Rattle.pc_protocol.specs.Machine.{CallsByEnv, Does, Machine, Shows}
use Rattle.pc_protocol.specs.Protocol.{OfAgent, Protocol, opening}
use Rattle.pc_protocol.specs.Running.{Deed, TakesEach, asked, blocked_by, created, noticing, onward}
use Rattle.pc_threads.specs.declared.settings.plans.Step.{Step}
use Rattle.pc_threads.specs.declared.settings.plans.ThreadPlan.{ThreadPlan}
use Rattle.pc_threads.specs.Settings.{Plan, plan_of}
use Rattle.pc_seeds.specs.declared.driver.Driver.{Driver}
use Rattle.pc_seeds.specs.Driving.{Accepts, Creates, DoesDeed, DrivesOn, IsIdle, IsInRun, StaysInRun, TakesStep, created_by, deed_of, deeds_of, left_of}

-- a step more of a run
pub stays : (plans : List Plan) (old new : Machine) (was is : Driver) → DrivesOn plans old was new is → StaysInRun plans old was new is
stays plans old new was is drives rules limits run =
    let next = drives run.0 run.2 in (next.0, onward run.1 next.1, next.2)

pub stays_on : (plans : List Plan) (old mid new : Machine) (was amid is : Driver) → StaysInRun plans old was mid amid → StaysInRun plans mid amid new is → StaysInRun plans old was new is
stays_on plans old mid new was amid is first second rules limits run = second rules limits (first rules limits run)

pub stays_here : (plans : List Plan) (machine : Machine) (driver : Driver) → StaysInRun plans machine driver machine driver
stays_here plans machine driver rules limits run = run

-- the start of a run, behind the creation of its threads
pub begun : (rules : ℕ → Rules) (limits : Limits) (plans : List Plan) (old new : Machine) (driver : Driver) → Shows old (opening rules limits) → Creates plans old new → IsIdle plans driver
    → IsInRun rules limits plans new driver
begun rules limits plans old new driver opened creates idle =
    let x = creates (opening rules limits) opened in (
      record { protocol = x.0; left = asked (map deeds_of plans); told = []; blocked = None },
      created x.1,
      record { shows = x.2; keeps = idle _ refl refl refl },
    )

-- a call that is accepted
pub is_accepted : (made : EnvCall) (old new : Machine) (told : Reply) (posted : Posted) → CallsByEnv made old told new → told ≡ reply.Posted posted → Accepts made old new
is_accepted made old new told posted calls is p h =
    let x = calls p h in (x.0, record { called = x.1.0; is_made = x.1.1; posted = posted; answered = x.1.2 ∙ is }, x.2)

-- nothing is created
pub creates_none : (machine : Machine) → Creates [] machine machine
creates_none machine p h = (p, refl, h)

-- the first of some threads is created, and then the others
pub creates_first : (plan : Plan) (plans : List Plan) (old mid new : Machine) → Accepts (created_by (deeds_of plan)) old mid → Creates plans mid new → Creates (plan ∷ plans) old new
creates_first plan plans old mid new first others p h =
    let x = first p h in
    let y = others x.0 x.2 in
    (y.0, (x.0, x.1, y.1), y.2)

pub drop_at : {X : Type 0} (xs : List X) (i : ℕ) (x : X) → slice_get xs i ≡ Some x → drop i xs ≡ x ∷ drop (suc i) xs
drop_at [] i x e = cc
drop_at (y ∷ xs) zero x e = let same : y ≡ x = cc in ap (λ z. z ∷ xs) same
drop_at (y ∷ xs) (suc i) x e = drop_at xs i x e

-- the driver wakes whom it blocked
pub wakes : (plans : List Plan) (old new : Machine) (was is : Driver) (t : ℕ) → was.blocked ≡ Some t → is.done ≡ was.done → is.told ≡ was.told → is.blocked ≡ None → Accepts (Wake t) old new → DrivesOn plans old was new is
wakes plans old new was is t blocked done told none accepts r here =
    let x = accepts r.protocol here.shows in
    let keeps = here.keeps in (
      record { protocol = x.0; left = r.left; told = r.told; blocked = None },
      inr (inr (inr (t, record { was = keeps.blocked ∙ blocked; accepted = x.1; left = refl; told = refl; blocked = refl }))),
      record {
        shows = x.2;
        keeps = record {
          left = λ u. keeps.left u ∙ ap (λ d. left_of plans d.items u) (sym done);
          told = keeps.told ∙ ap (λ l. l.items) (sym told);
          blocked = sym none;
          each = ap (λ d. length d.items) done ∙ keeps.each;
        };
      },
    )

at_alike : {X : Type 0} (f g : ℕ → X) (i : ℕ) (x : X) (n : ℕ) → ((m : ℕ) → f m ≡ g m) → at f i x n ≡ at g i x n
at_alike f g i x n same = ap (λ y. if n == i then x else y) (same n)

left_known : (plans : List Plan) (done : List ℕ) (t n : ℕ) (plan : Plan) → slice_get plans t ≡ Some plan → get_or done t 0 ≡ n → left_of plans done t ≡ map deed_of (drop n plan.steps)
left_known plans done t n plan there many = rw there (ap (λ k. map deed_of (drop k plan.steps)) many)

left_alike : (plans : List Plan) (done done' : List ℕ) (u : ℕ) → get_or done' u 0 ≡ get_or done u 0 → left_of plans done' u ≡ left_of plans done u
left_alike plans done done' u same = ap (λ k. option_map_or (λ plan. map deed_of (drop k plan.steps)) (slice_get plans u) []) same

-- a thread that has done a step more
pub takes_step : (plans : List Plan) (t n : ℕ) (step : Step) (plan : Plan) (was is : Driver) → slice_get plans t ≡ Some plan → t < length was.done.items → get_or was.done.items t 0 ≡ n → slice_get plan.steps n ≡ Some step
    → is.done.items ≡ set was.done.items t (suc n) → is.told ≡ was.told → is.blocked ≡ was.blocked → TakesStep plans t step was is
takes_step plans t n step plan was is there low many next done told blocked =
    record {
      rest = rest;
      next = left_known plans was.done.items t n plan there many ∙ ap (map deed_of) (drop_at plan.steps n step next);
      left = left;
      told = told;
      blocked = blocked;
      each = ap length done ∙ length-set was.done.items t (suc n);
    }
  where
    rest : List Deed
    rest = map deed_of (drop (suc n) plan.steps)

    left : (u : ℕ) → left_of plans is.done.items u ≡ at (left_of plans was.done.items) t rest u
    left u = elim (eqb_tells u t) [
      | inl e ↦
          subst (λ v. left_of plans is.done.items v ≡ at (left_of plans was.done.items) t rest v) (sym e.1)
          (left_known plans is.done.items t (suc n) plan there (ap (λ l. get_or l t 0) done ∙ get_or-set_same was.done.items t (suc n) 0 low) ∙ sym (at_same (left_of plans was.done.items) t rest))
      | inr other ↦
          left_alike plans was.done.items is.done.items u (ap (λ l. get_or l u 0) done ∙ get_or-set_other was.done.items t u (suc n) 0 other.1)
          ∙ sym (at_other (left_of plans was.done.items) t u rest other.1)
    ]

-- nothing was done
pub nothing_done : (plans : List Plan) (driver : Driver) → ((t : ℕ) → get_or driver.done.items t 0 ≡ 0) → length driver.done.items ≡ length plans → driver.told.items ≡ [] → driver.blocked ≡ None → IsIdle plans driver
nothing_done plans driver none each told blocked r left none_told none_blocked =
    record { left = λ t. ap (λ f. f t) left ∙ idle_left plans driver.done.items t (none t); told = none_told ∙ sym told; blocked = none_blocked ∙ sym blocked; each = each }
  where
    of_plan : (o : Option Plan) (k : ℕ) → k ≡ 0 → option_map_or (λ plan. plan.deeds) (option_map deeds_of o) [] ≡ option_map_or (λ plan. map deed_of (drop k plan.steps)) o []
    of_plan None k e = refl
    of_plan (Some plan) k e = sym (ap (λ n. map deed_of (drop n plan.steps)) e)

    idle_left : (plans : List Plan) (done : List ℕ) (t : ℕ) → get_or done t 0 ≡ 0 → asked (map deeds_of plans) t ≡ left_of plans done t
    idle_left plans done t e = ap (λ o. option_map_or (λ plan. plan.deeds) o []) (slice_get-map deeds_of plans t) ∙ of_plan (slice_get plans t) (get_or done t 0) e

pub none_of_replicate : (n t : ℕ) → ◌≡◌ {A = ℕ} (get_or (replicate n 0) t 0) 0
none_of_replicate zero t = refl
none_of_replicate (suc n) zero = refl
none_of_replicate (suc n) (suc t) = none_of_replicate n t

-- a thread that is read on a CPU is on it
on_there : (b : Bool) (o : Option ℕ) (P : PlainKernel) (c t : ℕ) → nat_lt c P.limits.cpus ≡ b → on (shown P) c ≡ Some t → P.on c ≡ Some t
on_there true o P c t there e = let here : on (shown P) c ≡ P.on c = rw there refl in sym here ∙ e
on_there false o P c t there e = let none : on (shown P) c ≡ None = rw there refl in cc

pub runs_on : (k : KernelRows) (P : PlainKernel) (c t : ℕ) → ShowsKernel k P → on (seen k) c ≡ Some t → P.on c ≡ Some t
runs_on k P c t h e = on_there (nat_lt c P.limits.cpus) None P c t refl (ap (λ r. on r c) (sym h.reads) ∙ e)

-- what is read on a CPU that is there is on it
pub read_on : (k : KernelRows) (P : PlainKernel) (c : ℕ) → ShowsKernel k P → nat_lt c P.limits.cpus ≡ true → P.on c ≡ on (seen k) c
read_on k P c h there = let here : on (shown P) c ≡ P.on c = rw there refl in sym here ∙ ap (λ r. on r c) (sym h.reads)

pub is_there : (k : KernelRows) (P : PlainKernel) (c : ℕ) → ShowsKernel k P → c < k.limits.cpus → nat_lt c P.limits.cpus ≡ true
is_there k P c h low = let same : k.limits.cpus ≡ P.limits.cpus = ap (λ r. r.limits.cpus) h.reads in grind (arith, nat_tests)

-- a thread does its next step
pub does_deed : (plans : List Plan) (c t : ℕ) (step : Step) (old new : Machine) (was amid is : Driver) → ((p : Protocol) → Shows old p → p.world.kernel.on c ≡ Some t) → TakesStep plans t step was amid
    → is.done ≡ amid.done → is.told ≡ amid.told → is.blocked ≡ blocked_by (deed_of step).leaving t → Accepts (call_for (deed_of step).leaving c (deed_of step).ran) old new → DoesDeed plans c old was new is
does_deed plans c t step old new was amid is runs takes done told blocked accepts r before behind free was_told here =
    let x = accepts r.protocol here.shows in
    let keeps = here.keeps in (
      record { protocol = x.0; left = at r.left t takes.rest; told = before ++ behind; blocked = blocked_by (deed_of step).leaving t },
      record {
        free = free;
        before = before;
        behind = behind;
        was_told = was_told;
        thread = t;
        runs = runs r.protocol here.shows;
        deed = deed_of step;
        rest = takes.rest;
        next = keeps.left t ∙ takes.next;
        accepted = x.1;
        left = refl;
        told = refl;
        blocked = refl;
      },
      record {
        shows = x.2;
        keeps = record {
          left = λ u. at_alike r.left (left_of plans was.done.items) t takes.rest u keeps.left ∙ sym (takes.left u) ∙ ap (λ d. left_of plans d.items u) (sym done);
          told = keeps.told ∙ ap (λ l. l.items) (sym takes.told) ∙ ap (λ l. l.items) (sym told);
          blocked = sym blocked;
          each = ap (λ d. length d.items) done ∙ takes.each ∙ keeps.each;
        };
      },
    )

-- the driver takes one of the CPUs that it was told
pub takes_cpu : (plans : List Plan) (old new : Machine) (was amid is : Driver) (c : ℕ) (before behind : List ℕ) → was.blocked ≡ None → was.told.items ≡ before ++ c ∷ behind → amid.told.items ≡ before ++ behind
    → amid.done ≡ was.done → amid.blocked ≡ was.blocked → DoesDeed plans c old amid new is → DrivesOn plans old was new is
takes_cpu plans old new was amid is c before behind free was_told told done blocked does r here =
    let keeps = here.keeps in
    let next =
    does r before behind (keeps.blocked ∙ free) (keeps.told ∙ was_told)
    record {
      shows = here.shows;
      keeps = record {
        left = λ u. keeps.left u ∙ ap (λ d. left_of plans d.items u) (sym done);
        told = sym told;
        blocked = keeps.blocked ∙ sym blocked;
        each = ap (λ d. length d.items) done ∙ keeps.each;
      };
    } in
    (next.0, inr (inr (inl (c, next.1))), next.2)

-- an agent does a step
pub serves : (plans : List Plan) (old new : Machine) (was is : Driver) (c : ℕ) → Does c old new → is.done ≡ was.done → is.blocked ≡ was.blocked
    → ((p q : Protocol) → Shows old p → Shows new q → OfAgent p c q → is.told.items ≡ noticing c (p.world.kernel.on c) (q.world.kernel.on c) was.told.items) → DrivesOn plans old was new is
serves plans old new was is c does done blocked told r here =
    let x = does r.protocol here.shows in
    let keeps = here.keeps in (
      record { protocol = x.0; left = r.left; told = noticing c (r.protocol.world.kernel.on c) (x.0.world.kernel.on c) r.told; blocked = r.blocked },
      inl (c, record { step = x.1; left = refl; told = refl; blocked = refl }),
      record {
        shows = x.2;
        keeps = record {
          left = λ u. keeps.left u ∙ ap (λ d. left_of plans d.items u) (sym done);
          told = ap (noticing c (r.protocol.world.kernel.on c) (x.0.world.kernel.on c)) keeps.told ∙ sym (told r.protocol x.0 here.shows x.2 x.1);
          blocked = keeps.blocked ∙ sym blocked;
          each = ap (λ d. length d.items) done ∙ keeps.each;
        };
      },
    )

-- of copies of a policy each takes each thread, where the policy does
pub copies_take : (policy : AgentPolicy) (copies : List AgentPolicy) (c d : ℕ) → All (λ copy. rules_of copy ≡ rules_of policy) copies → TakesEach (rules_of policy) d → TakesEach (rules_at copies c) d
copies_take policy [] c d same takes = inl refl
copies_take policy (copy ∷ copies) zero d same takes = subst (λ rules. TakesEach rules d) (sym (same 0 copy (omega arith))) takes
copies_take policy (copy ∷ copies) (suc c) d same takes = copies_take policy copies c d (λ k other low. same (suc k) other (omega arith)) takes

-- each of copies of a policy has its rules
pub copies_rule : (policy : AgentPolicy) (copies : List AgentPolicy) (c : ℕ) → All (λ copy. rules_of copy ≡ rules_of policy) copies → c < length copies → rules_at copies c ≡ rules_of policy
copies_rule policy [] c same low = absurd (omega arith)
copies_rule policy (copy ∷ copies) zero same low = same 0 copy (omega arith)
copies_rule policy (copy ∷ copies) (suc c) same low = copies_rule policy copies c (λ k other less. same (suc k) other (omega arith)) (omega arith)

-- one thread more is created
pub creates_on : (items : List ThreadPlan) (i : ℕ) (x : ThreadPlan) (old mid new : Machine) → slice_get items i ≡ Some x → ((end : Machine) → Creates (map plan_of (drop i items)) mid end → Creates (map plan_of items) old end)
    → Accepts (created_by (deeds_of (plan_of x))) mid new → (end : Machine) → Creates (map plan_of (drop (suc i) items)) new end → Creates (map plan_of items) old end
creates_on items i x old mid new there so_far accepts end rest =
    so_far end (subst (λ l. Creates (map plan_of l) mid end) (sym (drop_at items i x there)) (creates_first (plan_of x) (map plan_of (drop (suc i) items)) mid new end accepts rest))

pub creates_all : (items : List ThreadPlan) (i : ℕ) (old new : Machine) → length items ≤ i → ((end : Machine) → Creates (map plan_of (drop i items)) new end → Creates (map plan_of items) old end) → Creates (map plan_of items) old new
creates_all items i old new past so_far = so_far new (subst (λ l. Creates (map plan_of l) new new) (sym (none_left items i past)) (creates_none new))
  where
    none_left : {X : Type 0} (xs : List X) (i : ℕ) → length xs ≤ i → drop i xs ≡ []
    none_left [] zero past = refl
    none_left [] (suc i) past = refl
    none_left (x ∷ xs) zero past = absurd (omega arith)
    none_left (x ∷ xs) (suc i) past = none_left xs i (omega arith)
