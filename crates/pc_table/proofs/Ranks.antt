-- The number of a rank stands at its place in an ascending list.
use Rattle.std.proofs.Common.{ℕ, zero, suc, ◌≡◌, ◌+◌, ◌-◌, ◌*◌, ◌≤◌, ◌<◌, ◌⊎◌, inl, inr, ◌∙◌, Bool, true, false, cond, nat_le, List, [], ◌∷◌, length, take, drop, get_or, min, Some, refl, sym, ap, subst, arith, All, Contains}
use Rattle.std.specs.List.{count_by, filter, fold, reduce, slice_get}
use Rattle.std.specs.List.Sorted.{IsNonDecreasing, IsPermutation}
use Rattle.std.proofs.lemmas.Bool.Decides.{leb_tells, nat_tests}
use Rattle.std.proofs.lemmas.Grind.{common_steps, div_ceil_times}
use Rattle.std.proofs.lemmas.Option.{gets}
use Rattle.std.proofs.lemmas.Bool.{le-leb, leb-true}
use Rattle.std.proofs.lemmas.List.{get_or-drop, get_or-take, length-drop, length-take, length-take-le}
use Rattle.std.proofs.Math.Nat.{mul-le-mul, mul-le-mul_right}
use Rattle.std.proofs.lemmas.List.Elements.{All-from_get_or, All-tail, All-weaker, Contains-get_or, filter_passes}
use Rattle.std.proofs.lemmas.List.Sorted.{Contains-permutation, IsPermutation-sym, length_permutation, sum_by-IsPermutation}
use Rattle.std.proofs.lemmas.List.Sums.{count_by-le-length, sum_by-append, sum_by-take-drop}
use Rattle.pc_table.specs.Percentiles.{at_most, of_rank, percentile, rank_in}

-- the least of numbers, from one on
least_from : (xs : List ℕ) (a v : ℕ) → v ≤ a → All (λ x. v ≤ x) xs → (a ≡ v) ⊎ Contains xs v → fold min a xs ≡ v
least_from [] a v low all (inl same) = same
least_from [] a v low all (inr there) = absurd (omega (arith, there.1))
least_from (x ∷ xs) a v low all (inl same) =
    let head : v ≤ x = all 0 x (omega arith) in
    least_from xs (min a x) v (omega arith) (All-tail (λ y. v ≤ y) x xs all) (inl (omega arith))
least_from (x ∷ xs) a v low all (inr (zero, below, same)) =
    let head : v ≤ x = all 0 x (omega arith) in
    let here : x ≡ v = same in
    least_from xs (min a x) v (omega arith) (All-tail (λ y. v ≤ y) x xs all) (inl (omega arith))
least_from (x ∷ xs) a v low all (inr (suc k, below, same)) =
    let head : v ≤ x = all 0 x (omega arith) in
    least_from xs (min a x) v (omega arith) (All-tail (λ y. v ≤ y) x xs all) (inr (k, omega (arith, below), same))

-- the least of numbers is one of them, and none is below it
least_in : (xs : List ℕ) (v : ℕ) → All (λ x. v ≤ x) xs → Contains xs v → reduce min xs ≡ Some v
least_in [] v all there = absurd (omega (arith, there.1))
least_in (x ∷ xs) v all (zero, below, same) =
    let head : v ≤ x = all 0 x (omega arith) in
    ap Some (least_from xs x v head (All-tail (λ y. v ≤ y) x xs all) (inl same))
least_in (x ∷ xs) v all (suc k, below, same) =
    let head : v ≤ x = all 0 x (omega arith) in
    ap Some (least_from xs x v head (All-tail (λ y. v ≤ y) x xs all) (inr (k, omega (arith, below), same)))

behind : (b : Bool) (x : ℕ) (xs : List ℕ) (v : ℕ) → Contains xs v → Contains (cond b (x ∷ xs) xs) v
behind true x xs v there = (suc there.0, omega (arith, there.1), there.2)
behind false x xs v there = there

-- what passes a test is kept
kept : (p : ℕ → Bool) (xs : List ℕ) (v : ℕ) → p v ≡ true → Contains xs v → Contains (filter p xs) v
kept p [] v passes there = absurd (omega (arith, there.1))
kept p (x ∷ xs) v passes (zero, below, same) =
    subst (λ b. Contains (cond b (x ∷ filter p xs) (filter p xs)) v) (sym (ap p same ∙ passes)) (0, omega arith, same)
kept p (x ∷ xs) v passes (suc k, below, same) = behind (p x) x (filter p xs) v (kept p xs v passes (k, omega (arith, below), same))

all_counted : (p : ℕ → Bool) (xs : List ℕ) → All (λ x. p x ≡ true) xs → count_by p xs ≡ length xs
all_counted p [] all = refl
all_counted p (x ∷ xs) all =
    let here : p x ≡ true = all 0 x (omega arith) in
    let rest = all_counted p xs (All-tail (λ y. p y ≡ true) x xs all) in
    let parts = sum_by-append (λ y. cond (p y) 1 0) (x ∷ []) xs in
    let one : count_by p (x ∷ []) ≡ 1 = ap (λ b. 0 + cond b 1 0) here in
    omega (arith, rest, parts, one)

none_counted : (p : ℕ → Bool) (xs : List ℕ) → All (λ x. p x ≡ false) xs → count_by p xs ≡ 0
none_counted p [] all = refl
none_counted p (x ∷ xs) all =
    let here : p x ≡ false = all 0 x (omega arith) in
    let rest = none_counted p xs (All-tail (λ y. p y ≡ false) x xs all) in
    let parts = sum_by-append (λ y. cond (p y) 1 0) (x ∷ []) xs in
    let none : count_by p (x ∷ []) ≡ 0 = ap (λ b. 0 + cond b 1 0) here in
    omega (arith, rest, parts, none)

-- a number that is more is not at most
above : (m w : ℕ) → w < m → nat_le m w ≡ false
above m w less = grind (arith, nat_tests)

-- up to a place there are as many at or below the number that stands there
many : (xs : List ℕ) (i v : ℕ) → IsNonDecreasing xs → i < length xs → v ≡ get_or xs i 0 → i + 1 ≤ at_most xs v
many xs i v up below is =
    let p : ℕ → Bool = λ m. nat_le m v in
    let long : length (take (i + 1) xs) ≡ i + 1 = length-take-le (i + 1) xs (omega arith) in
    let front : All (λ x. p x ≡ true) (take (i + 1) xs) =
    All-from_get_or (λ x. p x ≡ true) (take (i + 1) xs) 0 (λ k low.
    let near : k < i + 1 = omega (arith, long, low) in
    let reads = get_or-take (i + 1) xs k 0 near in
    let order = up k i 0 (omega arith) below in
    le-leb _ v (omega (arith, reads, order, is))) in
    let counted = all_counted p (take (i + 1) xs) front in
    let parts = sum_by-take-drop (λ x. cond (p x) 1 0) xs (i + 1) in
    omega (arith, counted, parts, long)

-- below it there are at most those in front of its place
few : (xs : List ℕ) (i v w : ℕ) → IsNonDecreasing xs → i < length xs → v ≡ get_or xs i 0 → w < v → at_most xs w ≤ i
few xs i v w up below is less =
    let p : ℕ → Bool = λ m. nat_le m w in
    let short : length (drop i xs) ≡ length xs - i = length-drop i xs in
    let back : All (λ x. p x ≡ false) (drop i xs) =
    All-from_get_or (λ x. p x ≡ false) (drop i xs) 0 (λ k low.
    let reads = get_or-drop i xs k 0 in
    let order = up i (i + k) 0 (omega arith) (omega (arith, short, low)) in
    above _ w (omega (arith, reads, order, is, less))) in
    let counted = none_counted p (drop i xs) back in
    let parts = sum_by-take-drop (λ x. cond (p x) 1 0) xs i in
    let front = count_by-le-length p (take i xs) in
    omega (arith, counted, parts, front, length-take i xs)

-- two numbers of which the other is not less
not_less : (v w a b : ℕ) → ((nat_le v w ≡ true) × (v ≤ w)) ⊎ ((nat_le v w ≡ false) × (w < v)) → (w < v → a ≤ b) → b < a → v ≤ w
not_less v w a b (inl told) fewer more = told.1
not_less v w a b (inr told) fewer more = absurd (omega (arith, fewer told.1, more))

-- the number of a rank is found at its place in an ascending list of the same numbers
ranked : (ys xs : List ℕ) (rank : ℕ) → IsPermutation ys xs → IsNonDecreasing xs → 1 ≤ rank → rank ≤ length xs
    → of_rank rank ys ≡ Some (get_or xs (rank - 1) 0)
ranked ys xs rank perm up low high =
    let v : ℕ = get_or xs (rank - 1) 0 in
    let same : (w : ℕ) → at_most xs w ≡ at_most ys w = λ w. sum_by-IsPermutation (λ m. cond (nat_le m w) 1 0) ys xs perm in
    let p : ℕ → Bool = λ n. nat_le rank (at_most ys n) in
    let under : rank - 1 < length xs = omega arith in
    let passes : p v ≡ true = le-leb rank (at_most ys v) (omega (arith, many xs (rank - 1) v up under refl, same v)) in
    let there : Contains ys v = Contains-permutation xs ys v (IsPermutation-sym ys xs perm) (Contains-get_or xs (rank - 1) 0 under) in
    let least : (w : ℕ) → p w ≡ true → v ≤ w = λ w told.
    let enough : rank ≤ at_most ys w = leb-true rank (at_most ys w) told in
    let fewer : w < v → at_most ys w ≤ rank - 1 = λ less. omega (arith, few xs (rank - 1) v w up under refl less, same w) in
    not_less v w (at_most ys w) (rank - 1) (leb_tells v w) fewer (omega (arith, enough)) in
    least_in (filter p ys) v (All-weaker (λ w. p w ≡ true) (λ w. v ≤ w) least (filter p ys) (filter_passes p ys)) (kept p ys v passes there)

-- the rank of a percentile of some numbers is one of theirs
rank_low : (percent count : ℕ) → 1 ≤ percent → 1 ≤ count → 1 ≤ rank_in percent count
rank_low percent count low some =
    let bounds = div_ceil_times (percent * count) 100 (omega arith) in
    let more : 1 * 1 ≤ percent * count = mul-le-mul low some in
    omega (arith, bounds.0, more)

rank_high : (percent count : ℕ) → percent ≤ 100 → rank_in percent count ≤ count
rank_high percent count high =
    let bounds = div_ceil_times (percent * count) 100 (omega arith) in
    let less : percent * count ≤ 100 * count = mul-le-mul_right count high in
    omega (arith, bounds.1, less)

there : (xs : List ℕ) (i : ℕ) → i < length xs → Some (get_or xs i 0) ≡ slice_get xs i
there xs i below = grind (arith, common_steps, gets)

-- a percentile of numbers is found at its rank in an ascending list of them
pub percentile_there : (percent : ℕ) (ys xs : List ℕ) → IsPermutation ys xs → IsNonDecreasing xs → 1 ≤ percent → percent ≤ 100
    → percentile percent ys ≡ slice_get xs (rank_in percent (length xs) - 1)
percentile_there percent [] [] perm up low high = refl
percentile_there percent (y ∷ ys) [] perm up low high = absurd (omega (arith, length_permutation (y ∷ ys) [] perm))
percentile_there percent [] (x ∷ xs) perm up low high = absurd (omega (arith, length_permutation [] (x ∷ xs) perm))
percentile_there percent (y ∷ ys) (x ∷ xs) perm up low high =
    let many : length (x ∷ xs) ≡ length (y ∷ ys) = length_permutation (y ∷ ys) (x ∷ xs) perm in
    let rank : ℕ = rank_in percent (length (x ∷ xs)) in
    let least : 1 ≤ rank = rank_low percent (length (x ∷ xs)) low (omega arith) in
    let most : rank ≤ length (x ∷ xs) = rank_high percent (length (x ∷ xs)) high in
    ap (λ n. of_rank (rank_in percent n) (y ∷ ys)) (sym many)
    ∙ ranked (y ∷ ys) (x ∷ xs) rank perm up least most
    ∙ there (x ∷ xs) (rank - 1) (omega (arith, least, most))
