-- The faults of a load whose numbers are in range.
use Rattle.std.proofs.Common.{ℕ, ℤ, pos, nat_abs, ◌≡◌, ◌≤◌, ◌<◌, true, false, ltb, List, length, Some, refl, ap, rules, tests}
use Rattle.pc_calls.specs.Conditions.{first_of}
use Rattle.pc_calls.specs.declared.limits.TheConstants.{MOST_CPUS, MOST_THREADS}
use Rattle.pc_load.specs.declared.load.TheConstants.{LAST_TICK}
use Rattle.pc_load.specs.declared.load.LoadFault.TheVariants.{BadCpus, BadUntil, TooManyThreads}
use Rattle.pc_load.specs.Loads.{Need, demand, fault_of, is_between, thread_faults}

pub bad_cpus : (cpus until : ℤ) (needs : List Need) → is_between 1 MOST_CPUS cpus ≡ false → fault_of (demand cpus until needs) ≡ Some BadCpus
bad_cpus cpus until needs h = rw h refl

pub bad_until : (cpus until : ℤ) (needs : List Need) → is_between 1 MOST_CPUS cpus ≡ true → is_between 0 LAST_TICK until ≡ false
    → fault_of (demand cpus until needs) ≡ Some BadUntil
bad_until cpus until needs h k = rw (h, k) refl

pub too_many : (cpus until : ℤ) (needs : List Need) → is_between 1 MOST_CPUS cpus ≡ true → is_between 0 LAST_TICK until ≡ true → MOST_THREADS < length needs
    → fault_of (demand cpus until needs) ≡ Some TooManyThreads
too_many cpus until needs h k more = let e : ltb MOST_THREADS (length needs) ≡ true = search (rules, tests) in rw (h, k, e) refl

pub of_threads : (cpus until : ℤ) (count : ℕ) (needs : List Need) → is_between 1 MOST_CPUS cpus ≡ true → cpus ≡ pos count → is_between 0 LAST_TICK until ≡ true
    → length needs ≤ MOST_THREADS → fault_of (demand cpus until needs) ≡ first_of (thread_faults count (pos 0) 0 needs)
of_threads cpus until count needs h is k few =
    let e : ltb MOST_THREADS (length needs) ≡ false = search (rules, tests) in
    rw (h, k, e) (ap (λ z. first_of (thread_faults (nat_abs z) (pos 0) 0 needs)) is)
