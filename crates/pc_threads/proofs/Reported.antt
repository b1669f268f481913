-- What a run's shares come to when all have come back.
use Rattle.std.proofs.Common.{ℕ, pos, nat_abs, ◌≡◌, ◌↔◌, ◌≤◌, false, Option, None, Some, Result, Err, List, [], length, All, refl, sym, ap, ◌∙◌, arith}
use Rattle.std.proofs.lemmas.Bool.Decides.{nat_tests}
use Rattle.pc_calls.specs.Limits.{bad_field, is_outside}
use Rattle.pc_calls.specs.declared.limits.LimitField.{LimitField}
use Rattle.pc_calls.specs.declared.limits.LimitsFault.{LimitsFault}
use Rattle.pc_calls.specs.declared.limits.LimitsFault.TheVariants.{BadLimits}
use Rattle.pc_calls.specs.declared.limits.Profile.TheVariants.{One}
use Rattle.pc_calls.specs.declared.limits.TheConstants.{MOST_CPUS}
use Rattle.pc_kernel.specs.PlainKernel.{start, threads}
use Rattle.pc_kernel.specs.Reads.{Reads, seen}
use Rattle.pc_threads.specs.Inner.Driving.{died_in, one, sum_in, told_in}
use Rattle.pc_threads.specs.Inner.Shares.{HasPosted, Spent, unspent}
use Rattle.pc_threads.specs.declared.report.LoadReport.{LoadReport}
use Rattle.pc_threads.specs.Pages.{IsReplay, Pages}
use Rattle.pc_threads.specs.Reports.{DoesAll, TellsItsBook}
use Rattle.pc_threads.specs.Settings.{IsPlan, IsSound, Plan, Settings, messages_in, ran_in, steps_in, ticks}
use Rattle.pc_threads.specs.Totals.{committed_by, created_by, died_by, in_all, left_by, limits_on, ran_by, told_by}
use Rattle.pc_threads.proofs.Counted.{threads_counted}
use Rattle.pc_threads.proofs.Steps.{deaths_in, ones_in, ran_in_all, told_in_all}

-- a book's known threads are those that its calls created
pub known_created : (book : Pages) → IsReplay book → (seen book.kernel).threads ≡ in_all created_by book.calls
known_created book h =
    let shown = ap (λ (r : Reads). r.threads) h.shown.reads in
    let all = threads_counted book.kernel.limits [] book.calls h.accepted in
    let none : threads (start book.kernel.limits) ≡ 0 = refl in
    omega (arith, shown, all, none)

-- a thread for each plan was created and died, and all their messages posted, with all their ticks and steps
pub record IsAllPosted (cpus : ℕ) (plans : List Plan) (spent : Spent) : Type 0 where
  pub cpus_are : spent.cpus ≡ cpus
  pub created_all : spent.created ≡ length plans
  pub told_all : spent.told ≡ messages_in plans
  pub ran_all : spent.ran ≡ ran_in plans
  pub left_all : spent.left ≡ steps_in plans
  pub died_all : spent.died ≡ length plans

pub all_posted : (cpus bound count : ℕ) (plans : List Plan) (first then' last : Spent) → All (IsPlan bound) plans → count ≡ length plans
    → first ≡ unspent cpus → HasPosted count count 0 0 0 first then'
    → HasPosted 0 (sum_in told_in plans) (sum_in ticks plans) (sum_in one plans) (sum_in died_in plans) then' last → IsAllPosted cpus plans last
all_posted cpus bound count plans first then' last sound many none created done =
    let c = ap (λ (s : Spent). s.cpus) none in
    let n = ap (λ (s : Spent). s.created) none in
    let t = ap (λ (s : Spent). s.told) none in
    let r = ap (λ (s : Spent). s.ran) none in
    let l = ap (λ (s : Spent). s.left) none in
    let d = ap (λ (s : Spent). s.died) none in
    let told = told_in_all plans in
    let ran = ran_in_all plans in
    let left = ones_in plans in
    let died = deaths_in bound plans sound in
    record {
      cpus_are = omega (arith, c, created.cpus_stay, done.cpus_stay);
      created_all = omega (arith, many, n, created.created_more, done.created_more);
      told_all = omega (arith, many, t, created.told_more, done.told_more, told);
      ran_all = omega (arith, r, created.ran_more, done.ran_more, ran);
      left_all = omega (arith, l, created.left_more, done.left_more, left);
      died_all = omega (arith, d, created.died_more, done.died_more, died);
    }

-- the limits of a run on 1 to 64 CPUs have no field out of its range
pub no_bad_limit : (cpus : ℕ) → 1 ≤ cpus → cpus ≤ MOST_CPUS → bad_field One (limits_on cpus) ≡ None
no_bad_limit cpus some few =
    let fits : is_outside cpus MOST_CPUS ≡ false = grind (arith, nat_tests) in
    rw fits refl

-- so many CPUs as sound settings say are 1 to 64
pub sound_cpus : (settings : Settings) (cpus : ℕ) → pos cpus ≡ settings.cpus → IsSound settings → (1 ≤ cpus) × (cpus ≤ MOST_CPUS)
sound_cpus settings cpus named sound =
    let same : cpus ≡ sound.cpus = ap nat_abs (named ∙ sound.cpus_is) in
    (omega (arith, same, sound.cpus_some), omega (arith, same, sound.cpus_few))

-- a limit is not told to be bad where none is
pub no_bad : {A : Type 0} (r : Result A LimitsFault) (fault : LimitsFault) (field : LimitField) (bad : Option LimitField)
    → ((f : LimitField) → (r ≡ Err (BadLimits f)) ↔ (bad ≡ Some f)) → r ≡ Err fault → fault ≡ BadLimits field → bad ≡ None → ⊥
no_bad r fault field bad is e f none =
    let some : bad ≡ Some field = (is field).0 (e ∙ ap Err f) in
    let no : None ≡ Some field = sym none ∙ some in cc

-- a report of a book whose shares have all come back
pub does_all : (settings : Settings) (report : LoadReport) (book : Pages) (spent : Spent) → IsAllPosted (nat_abs settings.cpus) settings.threads spent
    → book.kernel.limits ≡ limits_on spent.cpus → in_all created_by book.calls ≡ spent.created → in_all told_by book.calls ≡ spent.told → in_all ran_by book.calls ≡ spent.ran
    → in_all left_by book.calls ≡ spent.left → in_all died_by book.calls ≡ spent.died → (in_all created_by book.calls ≡ in_all died_by book.calls → in_all committed_by book.calls ≡ in_all left_by book.calls)
    → (seen book.kernel).threads ≡ in_all created_by book.calls → report.book ≡ book → TellsItsBook report → DoesAll settings report
does_all settings report book spent all limits created told ran left died again known same tells =
    let committed : in_all committed_by book.calls ≡ in_all left_by book.calls = again (omega (arith, created, died, all.created_all, all.died_all)) in
    record {
      limits = ap (λ (b : Pages). b.kernel.limits) same ∙ limits ∙ ap limits_on all.cpus_are;
      threads = omega (arith, tells.threads, ap (λ (b : Pages). (seen b.kernel).threads) same, known, created, all.created_all);
      messages = omega (arith, tells.messages, ap (λ (b : Pages). in_all told_by b.calls) same, told, all.told_all);
      commits = omega (arith, tells.commits, ap (λ (b : Pages). in_all committed_by b.calls) same, committed, left, all.left_all);
      ran = omega (arith, tells.ran, ap (λ (b : Pages). in_all ran_by b.calls) same, ran, all.ran_all);
    }
