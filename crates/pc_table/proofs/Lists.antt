-- Lists that grow by one.
use Rattle.std.proofs.Common.{ℕ, zero, suc, ◌≡◌, ◌+◌, ◌-◌, ◌∙◌, ◌<◌, ◌≤◌, Bool, true, false, cond, if◌then◌else◌, ◌==◌, ◌||◌, List, [], ◌∷◌, ◌++◌, length, take, get_or, map, max, codes, decimal, Option, Some, None, IsPermutation, refl, sym, ap, arith, append_assoc}
use Rattle.std.specs.List.{filter, flat_map, join_with_byte, list_any, range_with_len}
use Rattle.std.proofs.lemmas.Bool.Decides.{nat_tests}
use Rattle.std.proofs.lemmas.Grind.{flat_map-append}
use Rattle.std.proofs.lemmas.List.{append-nil, map-append, take_more}
use Rattle.std.proofs.lemmas.List.Elements.{filter-append}
use Rattle.std.proofs.lemmas.List.Sorted.{length_permutation, sum_by-IsPermutation}
use Rattle.pc_table.specs.Sheets.{widest}
use Rattle.pc_table.specs.Values.{is_told, sum_of, told, told_to}
use Rattle.pc_table.specs.declared.rows.Percents.{Percents}

-- the longest of texts with one more
pub widest_more : (texts : List (List ℕ)) (text : List ℕ) → widest (texts ++ text ∷ []) ≡ max (widest texts) (length text)
widest_more [] text = omega arith
widest_more (first ∷ texts) text = omega (arith, widest_more texts text)

-- the same, of what is made of a list
pub grown : {X : Type 0} (f : X → List ℕ) (xs : List X) (x : X) → widest (map f (xs ++ x ∷ [])) ≡ max (widest (map f xs)) (length (f x))
grown f xs x = ap widest (map-append f xs (x ∷ [])) ∙ widest_more (map f xs) (f x)

-- a range with one more
range_more : (a n : ℕ) → range_with_len a (n + 1) ≡ range_with_len a n ++ (a + n) ∷ []
range_more a zero = ap (λ b. b ∷ []) (omega arith)
range_more a (suc n) =
    let more : suc n + 1 ≡ suc (n + 1) = omega arith in
    ap (range_with_len a) more ∙ ap (λ rest. a ∷ rest) (range_more (a + 1) n) ∙ ap (λ b. a ∷ (range_with_len (a + 1) n ++ b ∷ [])) (omega arith)

-- what is made of each number, with one more
pub over_more : {X : Type 0} (f : ℕ → List X) (n : ℕ) → flat_map f (range_with_len 0 (n + 1)) ≡ flat_map f (range_with_len 0 n) ++ f n
over_more f n =
    ap (flat_map f) (range_more 0 n) ∙ flat_map-append f (range_with_len 0 n) ((0 + n) ∷ [])
    ∙ ap (λ rest. flat_map f (range_with_len 0 n) ++ rest) (append-nil (f (0 + n)) ∙ ap f (omega arith))

kept_one : {X Y : Type 0} (f : X → Y) (b : Bool) (x : X) → map f (cond b (x ∷ []) []) ≡ (if b then f x ∷ [] else [])
kept_one f true x = refl
kept_one f false x = refl

-- what is made of those that pass a test, with one more
kept_more : {X Y : Type 0} (f : X → Y) (p : X → Bool) (xs : List X) (x : X)
    → map f (filter p (xs ++ x ∷ [])) ≡ map f (filter p xs) ++ (if p x then f x ∷ [] else [])
kept_more f p xs x =
    ap (map f) (filter-append p xs (x ∷ [])) ∙ map-append f (filter p xs) (filter p (x ∷ []))
    ∙ ap (λ rest. map f (filter p xs) ++ rest) (kept_one f (p x) x)

-- the same, as a loop over a list goes
pub kept_next : {X Y : Type 0} (f : X → Y) (p : X → Bool) (xs : List X) (i : ℕ) (d : X) → i < length xs
    → map f (filter p (take (i + 1) xs)) ≡ map f (filter p (take i xs)) ++ (if p (get_or xs i d) then f (get_or xs i d) ∷ [] else [])
kept_next f p xs i d below = ap (λ ys. map f (filter p ys)) (take_more xs i d below) ∙ kept_more f p (take i xs) (get_or xs i d)

-- what is made of the percentiles that are told, with one more
pub told_more : {Y : Type 0} (f : ℕ → Y) (percents : Percents) (percent : ℕ) → 1 ≤ percent
    → map f (told_to percents (percent + 1 - 1)) ≡ map f (told_to percents (percent - 1)) ++ (if is_told percents percent then f percent ∷ [] else [])
told_more f percents percent low =
    let same : percent + 1 - 1 ≡ (percent - 1) + 1 = omega arith in
    let place : 1 + (percent - 1) ≡ percent = omega arith in
    ap (λ n. map f (told_to percents n)) same
    ∙ ap (λ ns. map f (filter (is_told percents) ns)) (range_more 1 (percent - 1))
    ∙ kept_more f (is_told percents) (range_with_len 1 (percent - 1)) (1 + (percent - 1))
    ∙ ap (λ n. map f (told_to percents (percent - 1)) ++ (if is_told percents n then f n ∷ [] else [])) place

-- all percentiles that are told
pub told_all : {Y : Type 0} (f : ℕ → Y) (percents : Percents) (percent : ℕ) → percent ≡ 101
    → map f (told_to percents (percent - 1)) ≡ map f (told percents)
unfolding told
told_all f percents percent same = ap (λ n. map f (told_to percents (n - 1))) same

join_one : (c : ℕ) (y : List ℕ) (xs : List (List ℕ)) (x : List ℕ)
    → join_with_byte c ((y ∷ xs) ++ x ∷ []) ≡ join_with_byte c (y ∷ xs) ++ c ∷ x
join_one c y [] x = refl
join_one c y (z ∷ xs) x =
    ap (λ rest. y ++ c ∷ rest) (join_one c z xs x) ∙ sym (append_assoc y (c ∷ join_with_byte c (z ∷ xs)) (c ∷ x))

not_first : (i : ℕ) → (suc i == 0) ≡ false
not_first i = grind (arith, nat_tests)

-- texts with commas between, with one more
pub join_more : (texts : List (List ℕ)) (i : ℕ) → i < length texts
    → join_with_byte 44 (take (i + 1) texts) ≡ join_with_byte 44 (take i texts) ++ ((if i == 0 then [] else codes ",") ++ get_or texts i [])
join_more [] i below = absurd (omega (arith, below))
join_more (text ∷ texts) zero below = refl
join_more (text ∷ texts) (suc i) below =
    ap (join_with_byte 44) (take_more (text ∷ texts) (suc i) [] below) ∙ join_one 44 text (take i texts) (get_or (text ∷ texts) (suc i) [])
    ∙ ap (λ b. join_with_byte 44 (take (suc i) (text ∷ texts)) ++ ((if b then [] else codes ",") ++ get_or (text ∷ texts) (suc i) [])) (sym (not_first i))

-- some element of what is made of a list passes
pub some_of : {X Y : Type 0} (f : X → Y) (p : Y → Bool) (xs : List X) → list_any p (map f xs) ≡ list_any (λ x. p (f x)) xs
some_of f p [] = refl
some_of f p (x ∷ xs) = ap (λ b. p (f x) || b) (some_of f p xs)

-- what is made of what is made of a list, and of one more
pub mapped_end : {A B C : Type 0} (g : B → C) (f : A → B) (xs : List A) (y : B) → map g (map f xs ++ y ∷ []) ≡ map (λ x. g (f x)) xs ++ g y ∷ []
mapped_end g f [] y = refl
mapped_end g f (x ∷ xs) y = ap (λ rest. g (f x) ∷ rest) (mapped_end g f xs y)

-- the sum of waits does not go by their order
pub sum_same : (level : Option ℕ) (ys xs : List ℕ) → IsPermutation ys xs → sum_of level xs ≡ sum_of level ys
sum_same None ys xs perm = ap (λ n. Some (decimal n)) (sum_by-IsPermutation (λ x. x) ys xs perm)
sum_same (Some level) [] [] perm = refl
sum_same (Some level) (y ∷ ys) [] perm = absurd (omega (arith, length_permutation (y ∷ ys) [] perm))
sum_same (Some level) [] (x ∷ xs) perm = absurd (omega (arith, length_permutation [] (x ∷ xs) perm))
sum_same (Some level) (y ∷ ys) (x ∷ xs) perm = ap (λ n. Some (decimal n)) (sum_by-IsPermutation (λ x. x) (y ∷ ys) (x ∷ xs) perm)
