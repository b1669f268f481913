-- Lists of names.
use Rattle.std.specs.Prelude.{ℕ, ◌==◌, ◌≡◌, not, ◌&&◌, Bool, false, List, [], ◌∷◌, ◌++◌, filter, flat_map}
use Rattle.std.specs.List.{list_any}

-- the name is in the list
abbrev pub has_name : List ℕ → ℕ → Bool
has_name names t = list_any (λ x. x == t) names

-- no name is in the list twice
abbrev pub AreDistinct : List ℕ → Type 0
AreDistinct [] = Unit {0}
AreDistinct (x ∷ xs) = (has_name xs x ≡ false) × AreDistinct xs

-- the list without the name
abbrev pub without : ℕ → List ℕ → List ℕ
without t names = filter (λ x. not (x == t)) names

-- each name once, at its first place
abbrev pub firsts : List ℕ → List ℕ
firsts [] = []
firsts (x ∷ xs) = x ∷ without x (firsts xs)

-- the old names, and then the others that pass the test, each at its first place
abbrev pub with_new : (ℕ → Bool) → List ℕ → List ℕ → List ℕ
with_new test old names = old ++ firsts (filter (λ t. test t && not (has_name old t)) names)

-- the levels, the highest first
abbrev pub levels : List ℕ
levels = 7 ∷ 6 ∷ 5 ∷ 4 ∷ 3 ∷ 2 ∷ 1 ∷ 0 ∷ []

-- the names of the highest level first, those of one level in their order
abbrev pub by_level : (ℕ → ℕ) → List ℕ → List ℕ
by_level level names = flat_map (λ l. filter (λ t. level t == l) names) levels
