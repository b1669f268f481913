-- The first of faults that may be there.
use Rattle.std.proofs.Common.{ℕ, ◌≡◌, ◌+◌, ◌<◌, ◌≤◌, Bool, true, false, cond, not, ltb, List, [], ◌∷◌, map, length, take, position, Option, Some, None, option_map, pos, nat_abs, min, tests, refl, sym, ap, ◌∙◌, rules}
use Rattle.std.proofs.lemmas.List.{length-map, take_min}
use Rattle.std.specs.List.{prefix_len}
use Rattle.pc_calls.specs.declared.limits.TheConstants.{MOST_CPUS, MOST_THREADS}
use Rattle.pc_threads.specs.declared.settings.restarts.TheConstants.{MOST_RESTARTS}
use Rattle.pc_threads.specs.declared.settings.plans.ThreadPlan.{ThreadPlan}
use Rattle.pc_threads.specs.declared.settings.restarts.Restart.{Restart}
use Rattle.pc_threads.specs.declared.settings.faults.ConfigFault.{ConfigFault}
use Rattle.pc_threads.specs.declared.settings.faults.ConfigFault.TheVariants.{BadCpus, TooManyThreads, BadThread, BadRestart}
use Rattle.pc_load.specs.Loads.{is_between}
use Rattle.pc_threads.specs.Settings.{Settings, plan_of, is_thread, is_restart, faults_of, faults_on, first_fault, fault_if}

-- nothing is told by what is not there
pub first_more : {F : Type 0} (fault : Option F) (rest : List (Option F)) → fault ≡ None → first_fault (fault ∷ rest) ≡ first_fault rest
first_more None rest e = refl
first_more (Some f) rest e = cc

pub first_told : {F : Type 0} (fault : Option F) (rest : List (Option F)) (f : F) → fault ≡ Some f → first_fault (fault ∷ rest) ≡ Some f
first_told None rest f e = cc
first_told (Some g) rest f e = e

pub no_fault : {F : Type 0} (test : Bool) (f : F) → test ≡ false → fault_if test f ≡ None
no_fault test f e = rw e refl

prefix_len_map : {X Y : Type 0} (p : Y → Bool) (f : X → Y) (xs : List X) → prefix_len p (map f xs) ≡ prefix_len (λ x. p (f x)) xs
prefix_len_map p f [] = refl
prefix_len_map p f (x ∷ xs) = ap (λ n. cond (p (f x)) (1 + n) 0) (prefix_len_map p f xs)

pub position_map : {X Y : Type 0} (p : Y → Bool) (f : X → Y) (xs : List X) → position p (map f xs) ≡ position (λ x. p (f x)) xs
position_map p f xs = rw (prefix_len_map, length-map) refl

-- no fault of too many
pub not_too_many : {F : Type 0} (most n : ℕ) (f : F) → n ≤ most → fault_if (ltb most n) f ≡ None
not_too_many most n f h = let e : ltb most n ≡ false = search (rules, tests) in rw e refl

pub too_many : {F : Type 0} (most n : ℕ) (f : F) → most < n → fault_if (ltb most n) f ≡ Some f
too_many most n f h = let e : ltb most n ≡ true = search (rules, tests) in rw e refl

threads_fit : (threads : List ThreadPlan) → length threads ≤ MOST_THREADS → fault_if (ltb MOST_THREADS (length (map plan_of threads))) TooManyThreads ≡ None
threads_fit threads h = not_too_many MOST_THREADS (length (map plan_of threads)) TooManyThreads (rw length-map h)

-- what the code looks at, for threads that are not too many: the first bad thread, and the first bad restart of those allowed
pub record Looked (cpus : ℕ) (threads : List ThreadPlan) (restarts : List Restart) (thread restart : Option ℕ) : Type 0 where
  pub fit : length threads ≤ MOST_THREADS
  pub thread_is : thread ≡ position (λ plan. not (is_thread cpus (plan_of plan))) threads
  pub restart_is : restart ≡ position (λ r. not (is_restart cpus r)) (take (min MOST_RESTARTS (length restarts)) restarts)

-- the list of faults, by what was looked at
pub faults_looked : (cpus : ℕ) (threads : List ThreadPlan) (restarts : List Restart) (thread restart : Option ℕ) → Looked cpus threads restarts thread restart
    → first_fault (faults_on cpus (map plan_of threads) restarts)
    ≡ first_fault (option_map BadThread thread ∷ option_map BadRestart restart ∷ fault_if (ltb MOST_RESTARTS (length restarts)) (BadRestart MOST_RESTARTS) ∷ [])
faults_looked cpus threads restarts thread restart h =
    let bad : List (Option ConfigFault) = option_map BadThread (position (λ plan. not (is_thread cpus plan)) (map plan_of threads))
    ∷ option_map BadRestart (position (λ r. not (is_restart cpus r)) (take MOST_RESTARTS restarts))
    ∷ fault_if (ltb MOST_RESTARTS (length restarts)) (BadRestart MOST_RESTARTS) ∷ [] in
    let t : position (λ plan. not (is_thread cpus plan)) (map plan_of threads) ≡ thread =
    position_map (λ plan. not (is_thread cpus plan)) plan_of threads ∙ sym h.thread_is in
    let r : position (λ r. not (is_restart cpus r)) (take MOST_RESTARTS restarts) ≡ restart =
    ap (position (λ r. not (is_restart cpus r))) (sym (take_min MOST_RESTARTS restarts)) ∙ sym h.restart_is in
    first_more (fault_if (ltb MOST_THREADS (length (map plan_of threads))) TooManyThreads) bad (threads_fit threads h.fit)
    ∙ ap (λ o. first_fault (option_map BadThread o ∷ option_map BadRestart (position (λ r. not (is_restart cpus r)) (take MOST_RESTARTS restarts))
    ∷ fault_if (ltb MOST_RESTARTS (length restarts)) (BadRestart MOST_RESTARTS) ∷ [])) t
    ∙ ap (λ o. first_fault (option_map BadThread thread ∷ option_map BadRestart o
    ∷ fault_if (ltb MOST_RESTARTS (length restarts)) (BadRestart MOST_RESTARTS) ∷ [])) r

-- each of them where it is the first, and none
pub thread_told : (cpus : ℕ) (threads : List ThreadPlan) (restarts : List Restart) (thread restart : Option ℕ) (place : ℕ) → Looked cpus threads restarts thread restart
    → thread ≡ Some place → Some (BadThread place) ≡ first_fault (faults_on cpus (map plan_of threads) restarts)
thread_told cpus threads restarts thread restart place h e = sym (faults_looked cpus threads restarts thread restart h ∙ rw e refl)

pub restart_told : (cpus : ℕ) (threads : List ThreadPlan) (restarts : List Restart) (thread restart : Option ℕ) (place : ℕ) → Looked cpus threads restarts thread restart
    → thread ≡ None → restart ≡ Some place → Some (BadRestart place) ≡ first_fault (faults_on cpus (map plan_of threads) restarts)
restart_told cpus threads restarts thread restart place h e f = sym (faults_looked cpus threads restarts thread restart h ∙ rw (e, f) refl)

pub excess_told : (cpus : ℕ) (threads : List ThreadPlan) (restarts : List Restart) (thread restart : Option ℕ) → Looked cpus threads restarts thread restart
    → thread ≡ None → restart ≡ None → MOST_RESTARTS < length restarts → Some (BadRestart MOST_RESTARTS) ≡ first_fault (faults_on cpus (map plan_of threads) restarts)
excess_told cpus threads restarts thread restart h e f more =
    sym (faults_looked cpus threads restarts thread restart h ∙ rw (e, f) (first_told _ [] _ (too_many MOST_RESTARTS (length restarts) (BadRestart MOST_RESTARTS) more)))

pub nothing_told : (cpus : ℕ) (threads : List ThreadPlan) (restarts : List Restart) (thread restart : Option ℕ) → Looked cpus threads restarts thread restart
    → thread ≡ None → restart ≡ None → length restarts ≤ MOST_RESTARTS → None ≡ first_fault (faults_on cpus (map plan_of threads) restarts)
nothing_told cpus threads restarts thread restart h e f few =
    sym (faults_looked cpus threads restarts thread restart h ∙ rw (e, f) (first_more _ [] (not_too_many MOST_RESTARTS (length restarts) (BadRestart MOST_RESTARTS) few)))

-- the faults of settings with a good count of CPUs
pub with_cpus : (s : Settings) (cpus : ℕ) → s.cpus ≡ pos cpus → is_between 1 MOST_CPUS s.cpus ≡ true → first_fault (faults_of s) ≡ first_fault (faults_on cpus s.threads s.restarts)
with_cpus s cpus e h =
    first_more (fault_if (not (is_between 1 MOST_CPUS s.cpus)) BadCpus) (faults_on (nat_abs s.cpus) s.threads s.restarts)
    (ap (λ b. fault_if (not b) BadCpus) h) ∙ ap (λ z. first_fault (faults_on (nat_abs z) s.threads s.restarts)) e
