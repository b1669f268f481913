-- What steps still to do come to, and what all come to.
use Rattle.std.proofs.Common.{ℕ, suc, zero, ◌≡◌, ◌+◌, ◌*◌, ◌-◌, ◌^◌, ◌≤◌, ◌<◌, true, false, List, [], ◌∷◌, ◌++◌, length, drop, take, subst, map, replicate, All, Some, slice_get, get_or, sum_by, count_by, refl, sym, ap, ◌∙◌, arith, if◌then◌else◌}
use Rattle.std.specs.Option.{option_map}
use Rattle.std.proofs.Math.ListN.{set}
use Rattle.std.proofs.lemmas.Option.{slice_get-map}
use Rattle.std.proofs.lemmas.List.Sums.{sum_by-append, sum_by-cons, sum_by-le}
use Rattle.pc_threads.specs.declared.settings.plans.Step.{Step}
use Rattle.pc_threads.specs.declared.settings.plans.Step.TheVariants.{Die}
use Rattle.pc_threads.specs.declared.settings.plans.ThreadPlan.{ThreadPlan}
use Rattle.pc_threads.specs.declared.settings.plans.TheConstants.{MOST_STEPS}
use Rattle.pc_threads.specs.Settings.{IsLife, IsPlan, IsSound, Plan, Settings, is_block, is_die, messages_in, messages_of, plan_of, ran_in, steps_in, ticks}
use Rattle.pc_threads.specs.Inner.Driving.{IsOneFewer, died_in, left_of, one, sum_in, told_in}
use Rattle.pc_threads.specs.Inner.Shares.{HasPosted, Spent}

drop_next : (by : Step → ℕ) (steps : List Step) (n : ℕ) (step : Step) → slice_get steps n ≡ Some step → sum_by by (drop (suc n) steps) + by step ≡ sum_by by (drop n steps)
drop_next by [] n step e = cc
drop_next by (first ∷ steps) zero step e =
    let is : first ≡ step = cc in
    let more : sum_by by (first ∷ steps) ≡ by first + sum_by by steps = sum_by-cons by first steps in
    let here : by first ≡ by step = ap by is in
    let none : sum_by by (drop (suc zero) (first ∷ steps)) ≡ sum_by by steps = refl in
    omega (arith, more, here, none)
drop_next by (first ∷ steps) (suc n) step e = drop_next by steps n step e

-- where one thread has done one step more, that step is not left any more
fewer : (by : Step → ℕ) (plans : List Plan) (done : List ℕ) (t n later : ℕ) (plan : Plan) (step : Step) → slice_get plans t ≡ Some plan → slice_get done t ≡ Some n
    → slice_get plan.steps n ≡ Some step → later ≡ suc n → left_of by plans (set done t later) + by step ≡ left_of by plans done
fewer by [] done t n later plan step p d s l = cc
fewer by (first ∷ plans) [] t n later plan step p d s l = cc
fewer by (first ∷ plans) (m ∷ done) zero n later plan step p d s l =
    let same_plan : plan ≡ first = cc in
    let same_count : n ≡ m = cc in
    let next = drop_next by plan.steps n step s in
    let now : sum_by by (drop n plan.steps) ≡ sum_by by (drop m first.steps) = rw (same_plan, same_count) refl in
    let then' : sum_by by (drop later first.steps) ≡ sum_by by (drop (suc n) plan.steps) = rw (same_plan, l) refl in
    let left : left_of by (first ∷ plans) (set (m ∷ done) zero later) ≡ sum_by by (drop later first.steps) + left_of by plans done = refl in
    let all : left_of by (first ∷ plans) (m ∷ done) ≡ sum_by by (drop m first.steps) + left_of by plans done = refl in
    omega (arith, next, now, then', left, all)
fewer by (first ∷ plans) (m ∷ done) (suc t) n later plan step p d s l =
    let rest = fewer by plans done t n later plan step p d s l in
    let left : left_of by (first ∷ plans) (set (m ∷ done) (suc t) later) ≡ sum_by by (drop m first.steps) + left_of by plans (set done t later) = refl in
    let all : left_of by (first ∷ plans) (m ∷ done) ≡ sum_by by (drop m first.steps) + left_of by plans done = refl in
    omega (arith, rest, left, all)

pub is_one_fewer : (plans : List Plan) (done : List ℕ) (t n : ℕ) (plan : Plan) (step : Step) → slice_get plans t ≡ Some plan → slice_get done t ≡ Some n
    → slice_get plan.steps n ≡ Some step → IsOneFewer plans step done (set done t (n + 1))
is_one_fewer plans done t n plan step p d s by = fewer by plans done t n (n + 1) plan step p d s (omega arith)

-- at the start all steps are left
pub all_left : (by : Step → ℕ) (plans : List Plan) → left_of by plans (replicate (length plans) 0) ≡ sum_in by plans
all_left by [] = refl
all_left by (plan ∷ plans) =
    let rest = all_left by plans in
    let more : sum_in by (plan ∷ plans) ≡ sum_by by plan.steps + sum_in by plans = sum_by-cons (λ (p : Plan). sum_by by p.steps) plan plans in
    omega (arith, rest, more)

none_in : (by : Step → ℕ) (steps : List Step) → sum_by one steps ≡ 0 → sum_by by steps ≡ 0
none_in by [] e = refl
none_in by (step ∷ steps) e =
    let more : sum_by one (step ∷ steps) ≡ 1 + sum_by one steps = sum_by-cons one step steps in
    absurd (omega (arith, e, more))

-- where no step is left, nothing is
pub none_left : (by : Step → ℕ) (plans : List Plan) (done : List ℕ) → left_of one plans done ≡ 0 → left_of by plans done ≡ 0
none_left by [] done e = refl
none_left by (plan ∷ plans) [] e = refl
none_left by (plan ∷ plans) (n ∷ done) e =
    let here = none_in by (drop n plan.steps) (omega (arith, e)) in
    let rest = none_left by plans done (omega (arith, e)) in
    omega (arith, here, rest)

ones : (steps : List Step) → sum_by one steps ≡ length steps
ones [] = refl
ones (step ∷ steps) =
    let rest = ones steps in
    let more : sum_by one (step ∷ steps) ≡ 1 + sum_by one steps = sum_by-cons one step steps in
    omega (arith, rest, more)

-- the count of all steps
pub ones_in : (plans : List Plan) → sum_in one plans ≡ steps_in plans
ones_in [] = refl
ones_in (plan ∷ plans) =
    let rest = ones_in plans in
    let here = ones plan.steps in
    let more : sum_in one (plan ∷ plans) ≡ sum_by one plan.steps + sum_in one plans = sum_by-cons (λ (p : Plan). sum_by one p.steps) plan plans in
    let more' : steps_in (plan ∷ plans) ≡ length plan.steps + steps_in plans = sum_by-cons (λ (p : Plan). length p.steps) plan plans in
    omega (arith, rest, here, more, more')

pub told_all : (steps : List Step) → sum_by told_in steps ≡ length steps + count_by is_block steps
told_all [] = refl
told_all (step ∷ steps) =
    let rest = told_all steps in
    let more : sum_by told_in (step ∷ steps) ≡ told_in step + sum_by told_in steps = sum_by-cons told_in step steps in
    let more' : count_by is_block (step ∷ steps) ≡ (if is_block step then 1 else 0) + count_by is_block steps = sum_by-cons (λ (s : Step). if is_block s then 1 else 0) step steps in
    let here : told_in step ≡ 1 + (if is_block step then 1 else 0) = refl in
    omega (arith, rest, more, more', here)

-- the messages of all threads: one for each thread that is created, and those of the steps
pub told_in_all : (plans : List Plan) → length plans + sum_in told_in plans ≡ messages_in plans
told_in_all [] = refl
told_in_all (plan ∷ plans) =
    let rest = told_in_all plans in
    let here = told_all plan.steps in
    let more : sum_in told_in (plan ∷ plans) ≡ sum_by told_in plan.steps + sum_in told_in plans = sum_by-cons (λ (p : Plan). sum_by told_in p.steps) plan plans in
    let more' : messages_in (plan ∷ plans) ≡ messages_of plan + messages_in plans = sum_by-cons messages_of plan plans in
    let own : messages_of plan ≡ 1 + length plan.steps + count_by is_block plan.steps = refl in
    omega (arith, rest, here, more, more', own)

pub ran_in_all : (plans : List Plan) → sum_in ticks plans ≡ ran_in plans
ran_in_all plans = refl

blocks_few : (steps : List Step) → count_by is_block steps ≤ length steps
blocks_few [] = omega arith
blocks_few (step ∷ steps) =
    let rest = blocks_few steps in
    let more' : count_by is_block (step ∷ steps) ≡ (if is_block step then 1 else 0) + count_by is_block steps = sum_by-cons (λ (s : Step). if is_block s then 1 else 0) step steps in
    let one : (if is_block step then 1 else 0) ≤ 1 = elim (is_block step) as (λ b. (if b then 1 else 0) ≤ 1) [ true ↦ omega arith | false ↦ omega arith ] in
    omega (arith, rest, more', one)

plans_few : (cpus : ℕ) (plans : List Plan) → All (IsPlan cpus) plans → messages_in plans ≤ length plans * (2 * MOST_STEPS + 1)
plans_few cpus plans all =
    sum_by-le messages_of (2 * MOST_STEPS + 1) plans (λ k d low.
    let few = (all k d low).life.few in
    let blocks = blocks_few (get_or plans k d).steps in
    omega (arith, few, blocks))

-- sound settings ask for few messages
pub messages_few : (settings : Settings) → IsSound settings → messages_in settings.threads < 2 ^ 32
messages_few settings sound =
    let most = plans_few sound.cpus settings.threads sound.threads in
    let few = sound.threads_few in
    omega (arith, most, few)

lives_on : (steps : List Step) → All (λ step. is_die step ≡ false) steps → sum_by died_in steps ≡ 0
lives_on [] all = refl
lives_on (step ∷ steps) all =
    let rest = lives_on steps (λ k d low. all (suc k) d (omega arith)) in
    let here : died_in step ≡ 0 = ap (λ b. if b then 1 else 0) (all zero step (omega arith)) in
    let more : sum_by died_in (step ∷ steps) ≡ died_in step + sum_by died_in steps = sum_by-cons died_in step steps in
    omega (arith, rest, here, more)

dies_once : (steps : List Step) → IsLife steps → sum_by died_in steps ≡ 1
dies_once steps life =
    let before = lives_on life.before life.goes_on in
    let last : sum_by died_in (Die life.ticks ∷ []) ≡ 1 = refl in
    let whole : sum_by died_in steps ≡ sum_by died_in life.before + sum_by died_in (Die life.ticks ∷ []) = ap (sum_by died_in) life.ends ∙ sum_by-append died_in life.before (Die life.ticks ∷ []) in
    omega (arith, before, last, whole)

-- each thread dies once
pub deaths_in : (cpus : ℕ) (plans : List Plan) → All (IsPlan cpus) plans → sum_in died_in plans ≡ length plans
deaths_in cpus [] all = refl
deaths_in cpus (plan ∷ plans) all =
    let rest = deaths_in cpus plans (λ k d low. all (suc k) d (omega arith)) in
    let here = dies_once plan.steps (all zero plan (omega arith)).life in
    let more : sum_in died_in (plan ∷ plans) ≡ sum_by died_in plan.steps + sum_in died_in plans = sum_by-cons (λ (p : Plan). sum_by died_in p.steps) plan plans in
    omega (arith, rest, here, more)

-- what was left then and is not left now was posted
pub record IsOnTheWay (plans : List Plan) (then' now : List ℕ) (before after : Spent) : Type 0 where
  pub cpus : after.cpus ≡ before.cpus
  pub created : after.created ≡ before.created
  pub told : after.told + left_of told_in plans now ≡ before.told + left_of told_in plans then'
  pub ran : after.ran + left_of ticks plans now ≡ before.ran + left_of ticks plans then'
  pub left : after.left + left_of one plans now ≡ before.left + left_of one plans then'
  pub died : after.died + left_of died_in plans now ≡ before.died + left_of died_in plans then'

pub on_at_once : (plans : List Plan) (now : List ℕ) (spent : Spent) → IsOnTheWay plans now now spent spent
on_at_once plans now spent = record { cpus = refl; created = refl; told = refl; ran = refl; left = refl; died = refl }

pub on_further : (plans : List Plan) (first then' now : List ℕ) (start before after : Spent) (step : Step) → IsOnTheWay plans first then' start before
    → IsOneFewer plans step then' now → HasPosted 0 (told_in step) (ticks step) 1 (died_in step) before after → IsOnTheWay plans first now start after
on_further plans first then' now start before after step way less posted =
    let told = less told_in in
    let ran = less ticks in
    let left = less one in
    let died = less died_in in
    record {
      cpus = omega (arith, way.cpus, posted.cpus_stay);
      created = omega (arith, way.created, posted.created_more);
      told = omega (arith, way.told, posted.told_more, told);
      ran = omega (arith, way.ran, posted.ran_more, ran);
      left = omega (arith, way.left, posted.left_more, left);
      died = omega (arith, way.died, posted.died_more, died);
    }

pub on_the_end : (plans : List Plan) (first now : List ℕ) (before after : Spent) → IsOnTheWay plans first now before after → left_of one plans now ≡ 0
    → HasPosted 0 (left_of told_in plans first) (left_of ticks plans first) (left_of one plans first) (left_of died_in plans first) before after
on_the_end plans first now before after way none =
    let told = none_left told_in plans now none in
    let ran = none_left ticks plans now none in
    let died = none_left died_in plans now none in
    record {
      cpus_stay = way.cpus;
      created_more = omega (arith, way.created);
      told_more = omega (arith, way.told, told);
      ran_more = omega (arith, way.ran, ran);
      left_more = omega (arith, way.left, none);
      died_more = omega (arith, way.died, died);
    }

-- a list that is filled from nothing
pub filled : (old items : List ℕ) (n m : ℕ) → items ≡ take n old ++ replicate (n - m) 0 → old ≡ [] → m ≡ 0 → items ≡ replicate n 0
filled old items n m is empty none = is ∙ rw (empty, none) (ap (λ (xs : List ℕ). xs ++ replicate (n - 0) 0) (take_none n) ∙ ap (λ (k : ℕ). replicate k 0) (less_none n))
  where
    take_none : (n : ℕ) → take {A = ℕ} n [] ≡ []
    take_none zero = refl
    take_none (suc n) = refl

    less_none : (n : ℕ) → n - 0 ≡ n
    less_none n = omega arith

slice_get_at : {X : Type 0} (xs : List X) (i : ℕ) (x : X) → i < length xs → x ≡ get_or xs i x → slice_get xs i ≡ Some x
slice_get_at [] i x low is = absurd (omega arith)
slice_get_at (y ∷ ys) zero x low is = ap Some (sym is)
slice_get_at (y ∷ ys) (suc i) x low is = slice_get_at ys i x (omega arith) is

-- the next step of a thread, by what the code reads
pub one_done : (plans : List ThreadPlan) (done : List ℕ) (t n : ℕ) (plan : ThreadPlan) (step : Step) → t < length plans → t < length done → plan ≡ get_or plans t plan
    → n ≡ get_or done t n → n < length plan.steps.items → step ≡ get_or plan.steps.items n step → IsOneFewer (map plan_of plans) step done (set done t (n + 1))
one_done plans done t n plan step there begun is_plan is_count left is_step =
    is_one_fewer (map plan_of plans) done t n (plan_of plan) step
    (slice_get-map plan_of plans t ∙ ap (option_map plan_of) (slice_get_at plans t plan there is_plan))
    (slice_get_at done t n begun is_count)
    (slice_get_at plan.steps.items n step left is_step)

-- what the first plans come to, with what the next one comes to, is not more than what all do
pub amount_more : (by : Plan → ℕ) (plans : List ThreadPlan) (i : ℕ) (plan : ThreadPlan) → i < length plans → plan ≡ get_or plans i plan
    → sum_by by (map plan_of (take i plans)) + by (plan_of plan) ≤ sum_by by (map plan_of plans)
amount_more by [] i plan low is = absurd (omega arith)
amount_more by (first ∷ plans) zero plan low is =
    let more : sum_by by (map plan_of (first ∷ plans)) ≡ by (plan_of first) + sum_by by (map plan_of plans) = sum_by-cons by (plan_of first) (map plan_of plans) in
    let same : by (plan_of plan) ≡ by (plan_of first) = ap (λ (p : ThreadPlan). by (plan_of p)) is in
    let none : sum_by by (map plan_of (take zero (first ∷ plans))) ≡ 0 = refl in
    omega (arith, more, same, none)
amount_more by (first ∷ plans) (suc i) plan low is =
    let rest = amount_more by plans i plan (omega arith) is in
    let more : sum_by by (map plan_of (first ∷ plans)) ≡ by (plan_of first) + sum_by by (map plan_of plans) = sum_by-cons by (plan_of first) (map plan_of plans) in
    let more' : sum_by by (map plan_of (take (suc i) (first ∷ plans))) ≡ by (plan_of first) + sum_by by (map plan_of (take i plans)) =
    sum_by-cons by (plan_of first) (map plan_of (take i plans)) in
    omega (arith, rest, more, more')

-- each plan of a list of sound ones is sound
pub plan_there : (cpus : ℕ) (plans : List ThreadPlan) (k : ℕ) (plan : ThreadPlan) → All (IsPlan cpus) (map plan_of plans) → k < length plans → plan ≡ get_or plans k plan
    → IsPlan cpus (plan_of plan)
plan_there cpus [] k plan all low is = absurd (omega arith)
plan_there cpus (first ∷ plans) zero plan all low is = subst (λ p. IsPlan cpus (plan_of p)) (sym is) (all zero (plan_of first) (omega arith))
plan_there cpus (first ∷ plans) (suc k) plan all low is = plan_there cpus plans k plan (λ j d low. all (suc j) d (omega arith)) (omega arith) is
