-- Names that are taken one after another.
use Rattle.std.proofs.Common.{ℕ, ◌≡◌, ◌==◌, ◌||◌, ◌&&◌, not, cond, Bool, true, false, List, [], ◌∷◌, ◌++◌, filter, refl, sym, ap, ◌∙◌}
use Rattle.std.proofs.lemmas.Bool.{false≢true}
use Rattle.std.proofs.lemmas.List.{append_assoc}
use Rattle.std.proofs.lemmas.List.Folds.{list_any-append}
use Rattle.pc_run_queue.specs.Names.{has_name, AreDistinct, without, firsts, with_new}
use Rattle.pc_run_queue.proofs.Counts.{eq_true, eq_sym, without_absent}

-- filters that pass the same
pub filter_same : (p q : ℕ → Bool) (xs : List ℕ) → ((t : ℕ) → p t ≡ q t) → filter p xs ≡ filter q xs
filter_same p q [] h = refl
filter_same p q (x ∷ xs) h = λ i. cond (h x i) (x ∷ filter_same p q xs h i) (filter_same p q xs h i)

-- two filters, one after the other
pub filter_twice : (p q : ℕ → Bool) (xs : List ℕ) → filter (λ t. p t && q t) xs ≡ filter q (filter p xs)
filter_twice p q [] = refl
filter_twice p q (x ∷ xs) = by_test (p x) (filter_twice p q xs)
  where
    by_test : (a : Bool) → filter (λ t. p t && q t) xs ≡ filter q (filter p xs) → cond (a && q x) (x ∷ filter (λ t. p t && q t) xs) (filter (λ t. p t && q t) xs) ≡ filter q (cond a (x ∷ filter p xs) (filter p xs))
    by_test true ih = λ i. cond (q x) (x ∷ ih i) (ih i)
    by_test false ih = ih

pub and_comm : (a b : Bool) → (a && b) ≡ (b && a)
and_comm true true = refl
and_comm true false = refl
and_comm false true = refl
and_comm false false = refl

pub and_same : (a : Bool) → (a && a) ≡ a
and_same true = refl
and_same false = refl

without_turned : (x y : ℕ) (xs : List ℕ) → without x (without y xs) ≡ without y (without x xs)
without_turned x y xs =
    sym (filter_twice (λ t. not (t == y)) (λ t. not (t == x)) xs)
    ∙ filter_same (λ t. not (t == y) && not (t == x)) (λ t. not (t == x) && not (t == y)) xs (λ t. and_comm (not (t == y)) (not (t == x)))
    ∙ filter_twice (λ t. not (t == x)) (λ t. not (t == y)) xs

without_twice : (x : ℕ) (xs : List ℕ) → without x (without x xs) ≡ without x xs
without_twice x xs =
    sym (filter_twice (λ t. not (t == x)) (λ t. not (t == x)) xs)
    ∙ filter_same (λ t. not (t == x) && not (t == x)) (λ t. not (t == x)) xs (λ t. and_same (not (t == x)))

firsts_without : (x : ℕ) (xs : List ℕ) → firsts (without x xs) ≡ without x (firsts xs)
firsts_without x [] = refl
firsts_without x (y ∷ ys) = by_test (y == x) refl (firsts_without x ys)
  where
    by_test : (b : Bool) → (y == x) ≡ b → firsts (without x ys) ≡ without x (firsts ys) → firsts (cond (not b) (y ∷ without x ys) (without x ys)) ≡ cond (not b) (y ∷ without x (without y (firsts ys))) (without x (without y (firsts ys)))
    by_test true e ih = ih ∙ sym (ap (λ n. without x (without n (firsts ys))) (eq_true y x e) ∙ without_twice x (firsts ys))
    by_test false e ih = ap (λ l. y ∷ without y l) ih ∙ ap (λ l. y ∷ l) (without_turned y x (firsts ys))

not_or : (a b : Bool) → not (a || (b || false)) ≡ (not a && not b)
not_or true b = refl
not_or false true = refl
not_or false false = refl

and_assoc : (a b c : Bool) → (a && (b && c)) ≡ ((a && b) && c)
and_assoc true b c = refl
and_assoc false b c = refl

module _ (test : ℕ → Bool) (q : List ℕ) (x : ℕ) (rest : List ℕ) where
  abbrev passes : ℕ → Bool
  passes t = test t && not (has_name q t)

  abbrev passes_after : ℕ → Bool
  passes_after t = test t && not (has_name (q ++ x ∷ []) t)

  after : (t : ℕ) → passes_after t ≡ (passes t && not (t == x))
  after t =
      ap (λ b. test t && not b) (list_any-append (λ y. y == t) q (x ∷ []))
      ∙ ap (λ b. test t && b) (not_or (has_name q t) (x == t) ∙ ap (λ b. not (has_name q t) && not b) (eq_sym x t))
      ∙ and_assoc (test t) (not (has_name q t)) (not (t == x))

  left_over : firsts (filter passes_after rest) ≡ without x (firsts (filter passes rest))
  left_over =
      ap firsts (filter_same passes_after (λ t. passes t && not (t == x)) rest after ∙ filter_twice passes (λ t. not (t == x)) rest)
      ∙ firsts_without x (filter passes rest)

  -- a name that passes and is absent is taken
  pub take_new : test x ≡ true → has_name q x ≡ false → with_new test (q ++ x ∷ []) rest ≡ with_new test q (x ∷ rest)
  take_new e f =
      append_assoc q (x ∷ []) (firsts (filter passes_after rest))
      ∙ ap (λ l. q ++ x ∷ l) left_over
      ∙ sym (ap (λ b. q ++ firsts (cond b (x ∷ filter passes rest) (filter passes rest))) (ap (λ b. b && not (has_name q x)) e ∙ ap not f))

  -- every other name is passed over
  pub pass_over : (test x && not (has_name q x)) ≡ false → with_new test q rest ≡ with_new test q (x ∷ rest)
  pass_over e = sym (ap (λ b. q ++ firsts (cond b (x ∷ filter passes rest) (filter passes rest))) e)

-- names that are distinct are each the first
has_filter : (p : ℕ → Bool) (xs : List ℕ) (t : ℕ) → has_name xs t ≡ false → has_name (filter p xs) t ≡ false
has_filter p [] t h = refl
has_filter p (x ∷ xs) t h = by_test (p x) (x == t) refl h (has_filter p xs t)
  where
    by_test : (a b : Bool) → (x == t) ≡ b → (b || has_name xs t) ≡ false → (has_name xs t ≡ false → has_name (filter p xs) t ≡ false) → has_name (cond a (x ∷ filter p xs) (filter p xs)) t ≡ false
    by_test a true e f ih = absurd (false≢true (sym f))
    by_test true false e f ih = ap (λ b. b || has_name (filter p xs) t) e ∙ ih f
    by_test false false e f ih = ih f

firsts_distinct : (p : ℕ → Bool) (xs : List ℕ) → AreDistinct xs → firsts (filter p xs) ≡ filter p xs
firsts_distinct p [] h = refl
firsts_distinct p (x ∷ xs) h = by_test (p x) (firsts_distinct p xs h.1)
  where
    by_test : (a : Bool) → firsts (filter p xs) ≡ filter p xs → firsts (cond a (x ∷ filter p xs) (filter p xs)) ≡ cond a (x ∷ filter p xs) (filter p xs)
    by_test true ih = ap (λ l. x ∷ without x l) ih ∙ ap (λ l. x ∷ l) (without_absent (filter p xs) x (has_filter p xs x h.0))
    by_test false ih = ih

and_true : (a : Bool) → (a && true) ≡ a
and_true true = refl
and_true false = refl

pub kept : (test : ℕ → Bool) (old : List ℕ) → AreDistinct old → with_new test [] old ≡ filter test old
kept test old h = ap firsts (filter_same (λ t. test t && true) test old (λ t. and_true (test t))) ∙ firsts_distinct test old h
