-- A load without a fault is played within the ranges of limits, and variants without a fault have values in theirs.
use Rattle.std.proofs.Common.{◌≡◌, ◌∙◌, ◌<◌, ◌≤◌, ◌+◌, ◌-◌, ◌^◌, ◌&&◌, not, ℕ, ℤ, zero, suc, pos, negsuc, nat_abs, max, min, Bool, true, false, ltb, leb, Contains, List, [], ◌∷◌, ◌++◌, length, get_or, map, None, All, refl, sym, subst, arith}
use Rattle.std.proofs.lemmas.List.Elements.{All-cons, All-head, All-nil, All-tail}
use Rattle.pc_policy.proofs.Policies.{named_again}
use Rattle.pc_policy.specs.Names.{IsReadAgain, order_of}
use Rattle.std.proofs.lemmas.Bool.{and_from, and_parts, false≢true, le-leb, leb-true, ltb-false, not-false, not_from_true}
use Rattle.std.proofs.lemmas.Option.{none-some}
use Rattle.pc_calls.specs.Conditions.{first_of}
use Rattle.pc_calls.specs.Limits.{bad_field, is_outside}
use Rattle.pc_calls.specs.declared.limits.Profile.TheVariants.{One, Two}
use Rattle.pc_calls.specs.declared.limits.TheConstants.{MOST_CPUS, MOST_THREADS, MOST_THREADS_TWO}
use Rattle.pc_lab.specs.Limits.{limits_for}
use Rattle.pc_load.specs.Loads.{Demand, demand, end_of, is_between, thread_faults}
use Rattle.pc_load.specs.Variants.{Choice, bad_variants, choice_of, is_new, is_variant, or_plain, variant_fault, plain, plain_order}
use Rattle.pc_load.specs.declared.load.LoadFault.TheVariants.{BadCpus, BadUntil, TooManyThreads}
use Rattle.pc_load.specs.declared.load.TheConstants.{LAST_TICK}
use Rattle.pc_load.specs.declared.variant.TheConstants.{MOST_VARIANTS}
use Rattle.pc_load.specs.declared.variant.Variant.{Variant}
use Rattle.pc_load.specs.declared.variant.VariantFault.TheVariants.{Bad, TooMany}
use Rattle.pc_replayed.specs.Replays.{AreMade, IsMade}
use Rattle.pc_script.specs.Grammar.{AreInRange, row_of}
use Rattle.pc_script.specs.declared.command.Command.TheVariants.{Enclave}

-- where none of several conditions holds, the first does not
none_first : {X : Type 0} (holds : Bool) (x : X) (others : List (Bool × X)) → first_of ((holds, x) ∷ others) ≡ None → (holds ≡ false) × (first_of others ≡ None)
none_first true x others none = absurd (none-some x (sym none))
none_first false x others none = (refl, none)

-- ---- a load

pub record IsRoomy (load : Demand) : Type 0 where
  pub some_cpus : 1 ≤ nat_abs load.cpus
  pub few_cpus : nat_abs load.cpus ≤ 64
  pub few_threads : length load.threads ≤ 4096

size_of : (low high : ℕ) (z : ℤ) → is_between low high z ≡ true → (low ≤ nat_abs z) × (nat_abs z ≤ high)
size_of low high (pos n) within =
    let parts = and_parts (leb low n) (leb n high) within in
    (leb-true low n parts.0, leb-true n high parts.1)
size_of low high (negsuc n) within = absurd (false≢true within)

pub roomy : (load : Demand) → IsMade load → IsRoomy load
roomy load made =
    let threads = thread_faults (nat_abs made.cpus) (pos 0) 0 made.threads in
    let many = ltb MOST_THREADS (length made.threads) in
    let cpus = none_first (not (is_between 1 MOST_CPUS made.cpus)) BadCpus ((not (is_between 0 LAST_TICK made.until), BadUntil) ∷ (many, TooManyThreads) ∷ threads) made.fine in
    let until = none_first (not (is_between 0 LAST_TICK made.until)) BadUntil ((many, TooManyThreads) ∷ threads) cpus.1 in
    let few = none_first many TooManyThreads threads until.1 in
    let size = size_of 1 MOST_CPUS made.cpus (not-false (is_between 1 MOST_CPUS made.cpus) cpus.0) in
    let asked : IsRoomy (demand made.cpus (end_of made.until) made.threads) =
    record { some_cpus = size.0; few_cpus = size.1; few_threads = ltb-false MOST_THREADS (length made.threads) few.0 } in
    subst IsRoomy (sym made.is) asked

inside : (n greatest : ℕ) → 1 ≤ n → n ≤ greatest → is_outside n greatest ≡ false
inside n greatest some few = not_from_true (leb 1 n && leb n greatest) (and_from (leb 1 n) (leb n greatest) (le-leb 1 n some) (le-leb n greatest few))

-- the limits on which a load without a fault is played are those of some kernel, in both profiles
pub within_one : (load : Demand) → IsRoomy load → bad_field One (limits_for load) ≡ None
within_one load room =
    let first : is_outside (nat_abs load.cpus) MOST_CPUS ≡ false = inside (nat_abs load.cpus) MOST_CPUS room.some_cpus room.few_cpus in
    let second : is_outside (max (min (length load.threads) (2 ^ 32 - 1)) 1) MOST_THREADS ≡ false =
    inside (max (min (length load.threads) (2 ^ 32 - 1)) 1) MOST_THREADS (omega arith) (omega (arith, room.few_threads)) in
    rw (first, second) refl

pub within_two : (load : Demand) → IsRoomy load → bad_field Two (limits_for load) ≡ None
within_two load room =
    let first : is_outside (nat_abs load.cpus) MOST_CPUS ≡ false = inside (nat_abs load.cpus) MOST_CPUS room.some_cpus room.few_cpus in
    let second : is_outside (max (min (length load.threads) (2 ^ 32 - 1)) 1) MOST_THREADS_TWO ≡ false =
    inside (max (min (length load.threads) (2 ^ 32 - 1)) 1) MOST_THREADS_TWO (omega arith) (omega (arith, room.few_threads)) in
    rw (first, second) refl

-- and can be written
pub limits_written : (load : Demand) → IsRoomy load → AreInRange (row_of (Enclave (limits_for load))).fields
limits_written load room = (omega (arith, room.few_cpus), (omega arith, (omega arith, (omega arith, (omega arith, tt)))))

-- ---- variants

variant_there : (variants : List Variant) (before : List Choice) (place k : ℕ) (d : Variant) → first_of (bad_variants before place (map choice_of variants)) ≡ None
    → k < length variants → is_variant (choice_of (get_or variants k d)) ≡ true
variant_there [] before place k d none below = absurd (omega (arith, below))
variant_there (variant ∷ variants) before place zero d none below =
    let choice = choice_of variant in
    let good = is_variant choice && is_new choice.name before in
    let first = none_first (not good) (Bad place) (bad_variants (before ++ choice ∷ []) (place + 1) (map choice_of variants)) none in
    (and_parts (is_variant choice) (is_new choice.name before) (not-false good first.0)).0
variant_there (variant ∷ variants) before place (suc k) d none below =
    let choice = choice_of variant in
    let good = is_variant choice && is_new choice.name before in
    let first = none_first (not good) (Bad place) (bad_variants (before ++ choice ∷ []) (place + 1) (map choice_of variants)) none in
    variant_there variants (before ++ choice ∷ []) (place + 1) k d first.1 (omega (arith, below))

-- the plain variant is without a fault
or_plain_fine : (asked : List Choice) → variant_fault asked ≡ None → variant_fault (or_plain asked) ≡ None
or_plain_fine [] fine = refl
or_plain_fine (choice ∷ asked) fine = fine

pub variant_good : (choices : List Choice) (variants : List Variant) (variant : Variant) → map choice_of variants ≡ choices → AreMade choices
    → Contains variants variant → is_variant (choice_of variant) ≡ true
variant_good choices variants variant chosen made there =
    let fine : variant_fault (map choice_of variants) ≡ None =
    subst (λ cs. variant_fault cs ≡ None) (sym (chosen ∙ made.are)) (or_plain_fine made.asked made.fine) in
    let none = none_first (ltb MOST_VARIANTS (length (map choice_of variants))) TooMany (bad_variants [] 0 (map choice_of variants)) fine in
    subst (λ v. is_variant (choice_of v) ≡ true) there.2 (variant_there variants [] 0 there.0 variant none.1 there.1)

-- each order of a choice is one that a text names
abbrev IsSpelled : Choice → Type 0
IsSpelled choice = (text : List ℕ) × (choice.order ≡ order_of text)

plain_spelled : (asked : List Choice) → All IsSpelled asked → All IsSpelled (or_plain asked)
plain_spelled [] spelled = All-cons IsSpelled plain [] (plain_order, refl) (All-nil IsSpelled)
plain_spelled (choice ∷ asked) spelled = spelled

spelled_there : (variants : List Variant) → All IsSpelled (map choice_of variants) → (k : ℕ) (d : Variant) → k < length variants
    → IsSpelled (choice_of (get_or variants k d))
spelled_there [] spelled k d below = absurd (omega (arith, below))
spelled_there (variant ∷ variants) spelled zero d below = All-head IsSpelled (choice_of variant) (map choice_of variants) spelled
spelled_there (variant ∷ variants) spelled (suc k) d below =
    spelled_there variants (All-tail IsSpelled (choice_of variant) (map choice_of variants) spelled) k d (omega (arith, below))

pub variant_again : (choices : List Choice) (variants : List Variant) (variant : Variant) → map choice_of variants ≡ choices → AreMade choices
    → Contains variants variant → IsReadAgain variant.policy.order
variant_again choices variants variant chosen made there =
    let all : All IsSpelled (map choice_of variants) =
    subst (All IsSpelled) (sym (chosen ∙ made.are)) (plain_spelled made.asked made.spelled) in
    let its = spelled_there variants all there.0 variant there.1 in
    subst (λ v. IsReadAgain v.policy.order) there.2 (named_again its.0 (get_or variants there.0 variant).policy.order (sym its.1))
