-- Settings without fault are sound, and the other way round.
use Rattle.std.proofs.Common.{ℕ, ℤ, pos, negsuc, nat_abs, ◌≡◌, ◌+◌, ◌^◌, ◌<◌, ◌≤◌, Bool, true, false, ◌&&◌, cond, not, leb, ltb, List, [], ◌∷◌, length, get_or, take, min, position, Option, Some, None, option_map, All, refl, sym, ap, ◌∙◌, arith, rules, tests}
use Rattle.std.specs.List.{prefix_len, position_or_len}
use Rattle.std.proofs.lemmas.List.{take_min}
use Rattle.std.proofs.lemmas.List.Elements.{All-cons}
use Rattle.std.proofs.Math.Seq.{take-length}
use Rattle.std.proofs.lemmas.List.Sums.{position_or_len_is}
use Rattle.pc_messages.proofs.Bools.{both, first_true, second_true}
use Rattle.pc_calls.specs.declared.limits.TheConstants.{MOST_CPUS, MOST_THREADS}
use Rattle.pc_threads.specs.declared.settings.restarts.TheConstants.{MOST_RESTARTS, MOST_TURN}
use Rattle.pc_threads.specs.declared.settings.restarts.Restart.{Restart}
use Rattle.pc_threads.specs.declared.settings.faults.ConfigFault.TheVariants.{BadCpus, TooManyThreads, BadThread, BadRestart}
use Rattle.pc_load.specs.Loads.{is_between, is_cpu, is_mask}
use Rattle.pc_threads.specs.Settings.{Settings, Plan, first_fault, fault_if, is_life, is_thread, is_restart, faults_of, faults_on, IsPlan, IsReturn, IsSound, SoundSettingsHaveNoFault}
use Rattle.pc_threads.proofs.Faults.{first_more, not_too_many, with_cpus}
use Rattle.pc_threads.proofs.Lives.{lives_end}

-- where nothing is told there is no fault in front, and none behind
pub none_more : {F : Type 0} (fault : Option F) (rest : List (Option F)) → first_fault (fault ∷ rest) ≡ None → (fault ≡ None) × (first_fault rest ≡ None)
none_more None rest e = (refl, e)
none_more (Some f) rest e = cc

none_if : {F : Type 0} (test : Bool) (f : F) → fault_if test f ≡ None → test ≡ false
none_if false f e = refl
none_if true f e = cc

none_at : {X F : Type 0} (told : X → F) (place : Option X) → option_map told place ≡ None → place ≡ None
none_at told None e = refl
none_at told (Some x) e = cc

was_not : (b : Bool) → not b ≡ false → b ≡ true
was_not true e = refl
was_not false e = cc

prefix_more : {X : Type 0} (p : X → Bool) (x : X) (xs : List X) (passes : Bool) → p x ≡ passes → length xs + 1 ≤ cond (not passes) (1 + prefix_len (λ x. not (p x)) xs) 0
    → (length xs ≤ prefix_len (λ x. not (p x)) xs → All (λ x. p x ≡ false) xs) → All (λ x. p x ≡ false) (x ∷ xs)
prefix_more p x xs true e h rest = absurd (omega arith)
prefix_more p x xs false e h rest = All-cons (λ x. p x ≡ false) x xs e (rest (omega arith))

prefix_all : {X : Type 0} (p : X → Bool) (xs : List X) → length xs ≤ prefix_len (λ x. not (p x)) xs → All (λ x. p x ≡ false) xs
prefix_all p [] h = λ k d below. absurd (omega arith)
prefix_all p (x ∷ xs) h = prefix_more p x xs (p x) refl (omega arith) (prefix_all p xs)

found_or_not : {X : Type 0} (n : ℕ) (xs : List X) (test : Bool) → ltb n (length xs) ≡ test → cond test (Some n) None ≡ None → length xs ≤ n
found_or_not n xs true e h = cc
found_or_not n xs false e h = search (rules, tests)

-- nothing is found where no element passes
pub nowhere_all : {X : Type 0} (p : X → Bool) (xs : List X) → position p xs ≡ None → All (λ x. p x ≡ false) xs
nowhere_all p xs e = prefix_all p xs (found_or_not (position_or_len p xs) xs _ refl e)

pub all_nowhere : {X : Type 0} (p : X → Bool) (xs : List X) → All (λ x. p x ≡ false) xs → position p xs ≡ None
all_nowhere p [] h = refl
all_nowhere p (x ∷ xs) h =
    let n = position_or_len_is p (x ∷ xs) (length (x ∷ xs)) x (omega arith) (λ k below. h k x below) (λ below. absurd (omega arith)) in
    let past : ltb (length (x ∷ xs)) (length (x ∷ xs)) ≡ false = search (rules, tests) in
    ap (λ n. cond (ltb n (length (x ∷ xs))) (Some n) None) n ∙ ap (λ b. cond b (Some (length (x ∷ xs))) None) past

between : (low high : ℕ) (z : ℤ) → is_between low high z ≡ true → (n : ℕ) × (z ≡ pos n) × (low ≤ n) × (n ≤ high)
between low high (pos n) h =
    let first : leb low n ≡ true = first_true (leb low n) (leb n high) h in
    let second : leb n high ≡ true = second_true (leb low n) (leb n high) h in
    (n, refl, search (rules, tests), search (rules, tests))
between low high (negsuc n) h = cc

cpu_there : (cpus : ℕ) (z : ℤ) → is_cpu cpus z ≡ true → (n : ℕ) × (z ≡ pos n) × (n < cpus)
cpu_there cpus (pos n) h = let second : ltb n cpus ≡ true = second_true (leb 0 n) (ltb n cpus) h in (n, refl, search (rules, tests))
cpu_there cpus (negsuc n) h = cc

mask_there : (cpus : ℕ) (z : ℤ) → is_mask cpus z ≡ true → (n : ℕ) × (z ≡ pos n) × (0 < n) × (n < 2 ^ cpus)
mask_there cpus (pos n) h =
    let first : ltb 0 n ≡ true = first_true (ltb 0 n) (ltb n (2 ^ cpus)) h in
    let second : ltb n (2 ^ cpus) ≡ true = second_true (ltb 0 n) (ltb n (2 ^ cpus)) h in
    (n, refl, search (rules, tests), search (rules, tests))
mask_there cpus (negsuc n) h = cc

plan_of_test : (cpus : ℕ) (plan : Plan) → is_thread cpus plan ≡ true → IsPlan cpus plan
plan_of_test cpus plan h =
    let front = first_true (is_cpu cpus plan.queue && is_mask cpus plan.mask) (is_life plan.steps) h in
    let queue = cpu_there cpus plan.queue (first_true (is_cpu cpus plan.queue) (is_mask cpus plan.mask) front) in
    let mask = mask_there cpus plan.mask (second_true (is_cpu cpus plan.queue) (is_mask cpus plan.mask) front) in
    record {
      queue = queue.0;
      queue_is = queue.1;
      queue_there = queue.2;
      mask = mask.0;
      mask_is = mask.1;
      mask_some = mask.2;
      mask_there = mask.3;
      life = (lives_end plan.steps).0 (second_true (is_cpu cpus plan.queue && is_mask cpus plan.mask) (is_life plan.steps) h);
    }

test_of_plan : (cpus : ℕ) (plan : Plan) → IsPlan cpus plan → is_thread cpus plan ≡ true
test_of_plan cpus plan h =
    let queue : is_cpu cpus plan.queue ≡ true = rw h.queue_is (let below = h.queue_there in search (rules, tests)) in
    let mask : is_mask cpus plan.mask ≡ true =
    rw h.mask_is (let some = h.mask_some in let below = h.mask_there in both (ltb 0 h.mask) (ltb h.mask (2 ^ cpus)) (search (rules, tests)) (search (rules, tests))) in
    both (is_cpu cpus plan.queue && is_mask cpus plan.mask) (is_life plan.steps)
    (both (is_cpu cpus plan.queue) (is_mask cpus plan.mask) queue mask) ((lives_end plan.steps).1 h.life)

return_of_test : (cpus : ℕ) (restart : Restart) → is_restart cpus restart ≡ true → IsReturn cpus restart
return_of_test cpus restart h =
    let front = first_true (is_cpu cpus restart.cpu && leb 2 cpus) (is_between 1 MOST_TURN restart.turn) h in
    let cpu = cpu_there cpus restart.cpu (first_true (is_cpu cpus restart.cpu) (leb 2 cpus) front) in
    let two : leb 2 cpus ≡ true = second_true (is_cpu cpus restart.cpu) (leb 2 cpus) front in
    let turn = between 1 MOST_TURN restart.turn (second_true (is_cpu cpus restart.cpu && leb 2 cpus) (is_between 1 MOST_TURN restart.turn) h) in
    record {
      cpu = cpu.0;
      cpu_is = cpu.1;
      cpu_there = cpu.2;
      peer = search (rules, tests);
      turn = turn.0;
      turn_is = turn.1;
      turn_first = turn.2;
      turn_last = turn.3;
    }

test_of_return : (cpus : ℕ) (restart : Restart) → IsReturn cpus restart → is_restart cpus restart ≡ true
test_of_return cpus restart h =
    let cpu : is_cpu cpus restart.cpu ≡ true = rw h.cpu_is (let below = h.cpu_there in search (rules, tests)) in
    let two : leb 2 cpus ≡ true = let peer = h.peer in search (rules, tests) in
    let turn : is_between 1 MOST_TURN restart.turn ≡ true =
    rw h.turn_is (let first = h.turn_first in let last = h.turn_last in both (leb 1 h.turn) (leb h.turn MOST_TURN) (search (rules, tests)) (search (rules, tests))) in
    both (is_cpu cpus restart.cpu && leb 2 cpus) (is_between 1 MOST_TURN restart.turn) (both (is_cpu cpus restart.cpu) (leb 2 cpus) cpu two) turn

take_whole : {X : Type 0} (most : ℕ) (xs : List X) → length xs ≤ most → take most xs ≡ xs
take_whole most xs h =
    let few : min most (length xs) ≡ length xs = omega arith in
    sym (take_min most xs) ∙ ap (λ n. take n xs) few ∙ take-length xs

not_over : (most n : ℕ) → ltb most n ≡ false → n ≤ most
not_over most n h = search (rules, tests)

-- the parts of settings on so many CPUs
record IsSoundOn (cpus : ℕ) (threads : List Plan) (restarts : List Restart) : Type 0 where
  threads_few : length threads ≤ MOST_THREADS
  planned : All (IsPlan cpus) threads
  restarts_few : length restarts ≤ MOST_RESTARTS
  returning : All (IsReturn cpus) restarts

sound_on : (cpus : ℕ) (threads : List Plan) (restarts : List Restart) → first_fault (faults_on cpus threads restarts) ≡ None → IsSoundOn cpus threads restarts
sound_on cpus threads restarts e =
    let bad_thread = position (λ plan. not (is_thread cpus plan)) threads in
    let bad_restart = position (λ restart. not (is_restart cpus restart)) (take MOST_RESTARTS restarts) in
    let last = fault_if (ltb MOST_RESTARTS (length restarts)) (BadRestart MOST_RESTARTS) ∷ [] in
    let first = none_more (fault_if (ltb MOST_THREADS (length threads)) TooManyThreads) (option_map BadThread bad_thread ∷ option_map BadRestart bad_restart ∷ last) e in
    let second = none_more (option_map BadThread bad_thread) (option_map BadRestart bad_restart ∷ last) first.1 in
    let third = none_more (option_map BadRestart bad_restart) last second.1 in
    let fourth = none_more (fault_if (ltb MOST_RESTARTS (length restarts)) (BadRestart MOST_RESTARTS)) [] third.1 in
    let plans = nowhere_all (λ plan. not (is_thread cpus plan)) threads (none_at BadThread bad_thread second.0) in
    let few = not_over MOST_RESTARTS (length restarts) (none_if _ (BadRestart MOST_RESTARTS) fourth.0) in
    let whole = take_whole MOST_RESTARTS restarts few in
    let returns = nowhere_all (λ restart. not (is_restart cpus restart)) restarts
    (ap (position (λ restart. not (is_restart cpus restart))) (sym whole) ∙ none_at BadRestart bad_restart third.0) in
    record {
      threads_few = not_over MOST_THREADS (length threads) (none_if _ TooManyThreads first.0);
      planned = λ k d below. plan_of_test cpus (get_or threads k d) (was_not _ (plans k d below));
      restarts_few = few;
      returning = λ k d below. return_of_test cpus (get_or restarts k d) (was_not _ (returns k d below));
    }

fine_on : (cpus : ℕ) (threads : List Plan) (restarts : List Restart) → IsSoundOn cpus threads restarts → first_fault (faults_on cpus threads restarts) ≡ None
fine_on cpus threads restarts h =
    let plans = all_nowhere (λ plan. not (is_thread cpus plan)) threads
    (λ k d below. ap not (test_of_plan cpus (get_or threads k d) (h.planned k d below))) in
    let returns = all_nowhere (λ restart. not (is_restart cpus restart)) restarts
    (λ k d below. ap not (test_of_return cpus (get_or restarts k d) (h.returning k d below))) in
    let bad_restart = position (λ restart. not (is_restart cpus restart)) (take MOST_RESTARTS restarts) in
    let last = fault_if (ltb MOST_RESTARTS (length restarts)) (BadRestart MOST_RESTARTS) ∷ [] in
    first_more (fault_if (ltb MOST_THREADS (length threads)) TooManyThreads) (option_map BadThread (position (λ plan. not (is_thread cpus plan)) threads) ∷ option_map BadRestart bad_restart ∷ last)
    (not_too_many MOST_THREADS (length threads) TooManyThreads h.threads_few)
    ∙ first_more (option_map BadThread (position (λ plan. not (is_thread cpus plan)) threads)) (option_map BadRestart bad_restart ∷ last) (ap (option_map BadThread) plans)
    ∙ first_more (option_map BadRestart bad_restart) last
    (ap (λ xs. option_map BadRestart (position (λ restart. not (is_restart cpus restart)) xs)) (take_whole MOST_RESTARTS restarts h.restarts_few) ∙ ap (option_map BadRestart) returns)
    ∙ first_more (fault_if (ltb MOST_RESTARTS (length restarts)) (BadRestart MOST_RESTARTS)) [] (not_too_many MOST_RESTARTS (length restarts) (BadRestart MOST_RESTARTS) h.restarts_few)

sound_of : (s : Settings) → first_fault (faults_of s) ≡ None → IsSound s
sound_of s e =
    let counted = none_more (fault_if (not (is_between 1 MOST_CPUS s.cpus)) BadCpus) (faults_on (nat_abs s.cpus) s.threads s.restarts) e in
    let cpus = between 1 MOST_CPUS s.cpus (was_not _ (none_if _ BadCpus counted.0)) in
    let on = sound_on cpus.0 s.threads s.restarts (ap (λ z. first_fault (faults_on (nat_abs z) s.threads s.restarts)) (sym cpus.1) ∙ counted.1) in
    record {
      cpus = cpus.0;
      cpus_is = cpus.1;
      cpus_some = cpus.2;
      cpus_few = cpus.3;
      threads_few = on.threads_few;
      threads = on.planned;
      restarts_few = on.restarts_few;
      restarts = on.returning;
    }

fine_of : (s : Settings) → IsSound s → first_fault (faults_of s) ≡ None
fine_of s h =
    let some = h.cpus_some in let few = h.cpus_few in
    let good : is_between 1 MOST_CPUS s.cpus ≡ true =
    rw h.cpus_is (both (leb 1 h.cpus) (leb h.cpus MOST_CPUS) (search (rules, tests)) (search (rules, tests))) in
    with_cpus s h.cpus h.cpus_is good
    ∙ fine_on h.cpus s.threads s.restarts
    (record { threads_few = h.threads_few; planned = h.threads; restarts_few = h.restarts_few; returning = h.restarts })

pub sound_without_fault : SoundSettingsHaveNoFault
sound_without_fault s = (sound_of s, fine_of s)
