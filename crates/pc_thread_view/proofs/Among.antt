-- Whether messages are among others that ascend.
use Rattle.std.proofs.Common.{ℕ, ◌+◌, ◌-◌, ◌<◌, ◌≤◌, ◌≡◌, ◌==◌, ◌⊎◌, ◌||◌, nat_le, Bool, true, false, IsTrue, ◌↔◌, List, [], ◌∷◌, length, refl, sym, ap, ◌∙◌, subst, arith, inl, inr, None}
use Rattle.std.proofs.lemmas.Bool.{false≢true}
use Rattle.std.proofs.lemmas.Bool.Decides.{nat_tests}
use Rattle.pc_messages.specs.declared.kind.Kind.{Kind}
use Rattle.pc_thread_view.specs.Told.{Told, TellsSome, RiseAbove, IsSound, is_early, tells, numbers_of, IsOfThread}
use Rattle.pc_thread_view.specs.Inner.Taking.{AreAmong}
use Rattle.pc_join.specs.Ranges.{one_to}
use Rattle.pc_join.specs.Sets.{Source, IsWithin, IsVoid}
use Rattle.pc_thread_view.specs.Inner.ToldLaws.{lacks_below}
use Rattle.pc_thread_view.proofs.Gaining.{rise_from}
use Rattle.pc_messages.proofs.Bools.{or_left, or_right}

other_number : (a b : ℕ) → a < b → (a == b) ≡ false
other_number a b h = grind (arith, nat_tests)

pub no_items : (xs : List (ℕ × Kind)) → length xs ≡ 0 → xs ≡ []
no_items [] e = refl
no_items (x ∷ xs) e = absurd (omega arith)

-- by one walk
pub record IsWalk (upto : ℕ) (mine others held asked : List (ℕ × Kind)) : Type 0 where
  pub same : AreAmong others upto mine ↔ AreAmong asked upto held
  pub held_rise : RiseAbove 0 held
  pub asked_rise : RiseAbove 0 asked

pub walk_start : (upto : ℕ) (mine others : List (ℕ × Kind)) → RiseAbove 0 mine → RiseAbove 0 others → IsWalk upto mine others mine others
walk_start upto mine others h a = record { same = (λ f. f, λ f. f); held_rise = h; asked_rise = a }

after : {A B C : Type 0} → A ↔ B → B ↔ C → A ↔ C
after f g = (λ a. g.0 (f.0 a), λ c. f.1 (g.1 c))

here : (d : ℕ × Kind) (ds : List (ℕ × Kind)) → is_early (d ∷ ds) d.0 ≡ true
here d ds = ap (λ b. b || is_early ds d.0) (itself d.0)
  where
    itself : (n : ℕ) → (n == n) ≡ true
    itself n = grind (arith, nat_tests)

-- the next one asked for is there
next_there : (upto : ℕ) (next : ℕ × Kind) (more held : List (ℕ × Kind)) → (one_to upto next.0 || is_early held next.0) ≡ true → AreAmong (next ∷ more) upto held ↔ AreAmong more upto held
next_there upto next more held there = (λ f n e. f n (or_right (next.0 == n) (is_early more n) e), λ f n e. by_test f n (next.0 == n) refl e)
  where
    eq_true : (a b : ℕ) → (a == b) ≡ true → a ≡ b
    eq_true a b e = grind (arith, nat_tests)

    by_test : AreAmong more upto held → (n : ℕ) (b : Bool) → (next.0 == n) ≡ b → (b || is_early more n) ≡ true → (one_to upto n || is_early held n) ≡ true
    by_test f n true e h = subst (λ m. (one_to upto m || is_early held m) ≡ true) (eq_true next.0 n e) there
    by_test f n false e h = f n h

-- the first one held comes before all that are asked for
first_passed : (upto : ℕ) (first next : ℕ × Kind) (rest more : List (ℕ × Kind)) → RiseAbove 0 (next ∷ more) → first.0 < next.0 → AreAmong (next ∷ more) upto (first ∷ rest) ↔ AreAmong (next ∷ more) upto rest
first_passed upto first next rest more asked lt = (
  λ f n e. drop_it n (at_least n e) (f n e),
  λ f n e. keep_it n (f n e),
)
  where
    cases : (a b : ℕ) → (a < b) ⊎ (b ≤ a)
    cases a b = grind arith

    at_least : (n : ℕ) → is_early (next ∷ more) n ≡ true → next.0 ≤ n
    at_least n e = elim (cases n next.0) [ inl k ↦ absurd (false≢true (sym (lacks_below (next.0 - 1) (next ∷ more) n (omega arith, asked.1) (omega arith)) ∙ e)) | inr k ↦ k ]

    drop_it : (n : ℕ) → next.0 ≤ n → (one_to upto n || is_early (first ∷ rest) n) ≡ true → (one_to upto n || is_early rest n) ≡ true
    drop_it n le e = ap (λ b. one_to upto n || (b || is_early rest n)) (sym (other_number first.0 n (omega arith))) ∙ e

    insert : (p a b : Bool) → (p || b) ≡ true → (p || (a || b)) ≡ true
    insert true a b e = refl
    insert false true b e = refl
    insert false false b e = e

    keep_it : (n : ℕ) → (one_to upto n || is_early rest n) ≡ true → (one_to upto n || is_early (first ∷ rest) n) ≡ true
    keep_it n e = insert (one_to upto n) (first.0 == n) (is_early rest n) e

not_prefix : (upto n : ℕ) → upto < n → one_to upto n ≡ false
not_prefix upto n h = grind (arith, nat_tests)

module _ (upto : ℕ) (mine others held asked : List (ℕ × Kind)) (walk : IsWalk upto mine others held asked) (next : ℕ × Kind) (more : List (ℕ × Kind)) (a : asked ≡ next ∷ more) where
  at_next : IsWalk upto mine others held (next ∷ more)
  at_next = subst (λ x. IsWalk upto mine others held x) a walk

  pub walk_prefix : 1 ≤ next.0 → next.0 ≤ upto → IsWalk upto mine others held more
  walk_prefix h e = record {
    same = after at_next.same (next_there upto next more held (or_left (one_to upto next.0) (is_early held next.0) (yes upto next.0 h e)));
    held_rise = at_next.held_rise;
    asked_rise = rise_from next.0 0 more (omega arith) at_next.asked_rise.1;
  }
    where
      yes : (u n : ℕ) → 1 ≤ n → n ≤ u → one_to u n ≡ true
      yes u n h e = grind (arith, nat_tests)

  pub next_positive : 1 ≤ next.0
  next_positive = at_next.asked_rise.0

  pub walk_none : upto < next.0 → held ≡ [] → ¬ AreAmong others upto mine
  walk_none lt h all =
      let there : IsWalk upto mine others [] (next ∷ more) = subst (λ x. IsWalk upto mine others x (next ∷ more)) h at_next in
      false≢true (sym (ap (λ b. b || false) (not_prefix upto next.0 lt)) ∙ there.same.0 all next.0 (here next more))

  module _ (first : ℕ × Kind) (rest : List (ℕ × Kind)) (h : held ≡ first ∷ rest) where
    at_both : IsWalk upto mine others (first ∷ rest) (next ∷ more)
    at_both = subst (λ x. IsWalk upto mine others x (next ∷ more)) h at_next

    pub walk_on : first.0 < next.0 → IsWalk upto mine others rest asked
    walk_on lt = subst (λ x. IsWalk upto mine others rest x) (sym a) (record {
      same = after at_both.same (first_passed upto first next rest more at_both.asked_rise lt);
      held_rise = rise_from first.0 0 rest (omega arith) at_both.held_rise.1;
      asked_rise = at_both.asked_rise;
    })

    pub walk_found : first.0 ≡ next.0 → IsWalk upto mine others held more
    walk_found e = subst (λ x. IsWalk upto mine others x more) (sym h) (record {
      same = after at_both.same (next_there upto next more (first ∷ rest) (or_right (one_to upto next.0) (is_early (first ∷ rest) next.0) (subst (λ m. is_early (first ∷ rest) m ≡ true) e (here first rest))));
      held_rise = at_both.held_rise;
      asked_rise = rise_from next.0 0 more (omega arith) at_both.asked_rise.1;
    })

    pub walk_missing : upto < next.0 → next.0 < first.0 → ¬ AreAmong others upto mine
    walk_missing lt gt all =
        false≢true (sym (ap (λ b. b || is_early (first ∷ rest) next.0) (not_prefix upto next.0 lt) ∙ lacks_below next.0 (first ∷ rest) next.0 (gt, at_both.held_rise.1) (omega arith)) ∙ at_both.same.0 all next.0 (here next more))

pub walk_all : (upto : ℕ) (mine others held asked : List (ℕ × Kind)) → IsWalk upto mine others held asked → asked ≡ [] → AreAmong others upto mine
walk_all upto mine others held asked walk e =
    let there : IsWalk upto mine others held [] = subst (λ x. IsWalk upto mine others held x) e walk in
    there.same.1 (λ n f. absurd (false≢true f))

-- of two views
wider : (t u n : ℕ) → t ≤ u → one_to t n ≡ true → one_to u n ≡ true
wider t u n h e = grind (arith, nat_tests)

or_cases : {P : Type 0} (a b : Bool) → (a || b) ≡ true → (a ≡ true → P) → (b ≡ true → P) → P
or_cases true b e f g = f refl
or_cases false b e f g = g e

pub covers_told : (v w : Told) (mine others : List (ℕ × Kind)) (r : Bool) → mine ≡ v.early → others ≡ w.early → w.upto ≤ v.upto → IsTrue r ↔ AreAmong others v.upto mine → IsTrue r ↔ ((n : ℕ) → tells w n ≡ true → tells v n ≡ true)
covers_told v w mine others r e f h d =
    let there : IsTrue r ↔ AreAmong w.early v.upto v.early = subst (λ x. IsTrue r ↔ AreAmong w.early v.upto x) e (subst (λ x. IsTrue r ↔ AreAmong x v.upto mine) f d) in (
      λ t n k. or_cases (one_to w.upto n) (is_early w.early n) k (λ p. or_left (one_to v.upto n) (is_early v.early n) (wider w.upto v.upto n h p)) (λ q. there.0 t n q),
      λ all. there.1 (λ n k. all n (or_right (one_to w.upto n) (is_early w.early n) k)),
    )

pub exceeds : (v w : Told) → IsSound v → v.upto < w.upto → ¬ ((n : ℕ) → tells w n ≡ true → tells v n ≡ true)
exceeds v w sound lt all =
    false≢true (sym (ap (λ b. b || is_early v.early (v.upto + 1)) (not_prefix v.upto (v.upto + 1) (omega arith)) ∙ lacks_below (v.upto + 1) v.early (v.upto + 1) sound.gap (omega arith))
    ∙ all (v.upto + 1) (or_left (one_to w.upto (v.upto + 1)) (is_early w.early (v.upto + 1)) (yes w.upto (v.upto + 1) (omega arith) (omega arith))))
  where
    yes : (u n : ℕ) → 1 ≤ n → n ≤ u → one_to u n ≡ true
    yes u n h e = grind (arith, nat_tests)

pub exceeds_test : (t u : ℕ) → u < t → IsTrue (nat_le t u) → ⊥
exceeds_test t u h e = grind (arith, nat_tests)

-- of what is told, as sets
pub covers_numbers : (v w a b : Told) (r : Bool) → v ≡ a → w ≡ b → IsTrue r ↔ ((n : ℕ) → tells w n ≡ true → tells v n ≡ true) → IsTrue r ↔ IsWithin (numbers_of b) (numbers_of a)
covers_numbers v w a b r e f h =
    let P : Told → Told → Type 0 = λ x y. IsTrue r ↔ IsWithin (numbers_of y) (numbers_of x) in
    subst (λ x. P x b) e (subst (P v) f (λ t. within (h.0 t), λ all. h.1 (λ n. all (n ∷ []))))
  where
    within : ((n : ℕ) → tells w n ≡ true → tells v n ≡ true) → IsWithin (numbers_of w) (numbers_of v)
    within g [] k = k
    within g (n ∷ []) k = g n k
    within g (n ∷ d ∷ m) k = k

pub not_void : (v : Told) → TellsSome v → ¬ IsVoid (numbers_of v)
not_void v some void = false≢true (sym (void (some.0 ∷ [])) ∙ some.1)

-- a view of nothing
pub of_nothing : (s : Source) → IsOfThread (record { upto = 0; state = None; early = [] }) s
of_nothing s = record { prefix = record { kinds = []; count = refl; of_source = tt; folded = refl }; gap = tt; early = tt }
