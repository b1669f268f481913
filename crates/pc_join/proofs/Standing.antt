-- Entries by ascending names, and the place of one among them.
use Rattle.std.proofs.Common.{ℕ, suc, zero, ◌+◌, ◌/◌, ◌<◌, ◌≤◌, ◌≡◌, ◌==◌, true, false, cond, List, [], ◌∷◌, ◌++◌, length, take, drop, set, get_or, take-append-drop, Option, Some, None, IsSome, ltb, ltb-true, ltb-false, refl, sym, ap, subst, ◌∙◌, arith, inl, inr}
use Rattle.std.specs.Ordering.{nat_cmp, is_eq}
use Rattle.std.specs.List.Sorted.{IsNonDecreasingBy}
use Rattle.std.proofs.lemmas.Bool.{cases_lt, eqb-true, false≢true}
use Rattle.std.proofs.lemmas.Bool.Decides.{nat_tests}
use Rattle.pc_join.specs.ByName.{AscendFrom, IsLeastFrom, value_at}
use Rattle.pc_join.specs.Inner.Leaves.{AreOf, IsLeaf, AreBefore, IsPlaceIn, IsSetAt, begins_with}
use Rattle.pc_join.proofs.Entries.{same_or_other, at_first, at_later, none_before}

above_of : (n a : ℕ) → n ≤ a → (a == n) ≡ false → n + 1 ≤ a
above_of n a le e = grind (arith, nat_tests)

module _ {V : Type 0} where
  some_none : {Q : Type 0} {v : V} → ◌≡◌ {A = Option V} (Some v) None → Q
  some_none e = cc

  -- what stands in one of two lists
  pub left_none : (xs ys : List (ℕ × V)) (q : ℕ) → value_at xs q ≡ None → value_at (xs ++ ys) q ≡ value_at ys q
  left_none [] ys q e = refl
  left_none (x ∷ xs) ys q e = elim (same_or_other q x.0) [
    | inl same ↦ some_none (sym (at_first x xs) ∙ ap (value_at (x ∷ xs)) (sym same) ∙ e)
    | inr other ↦ at_later x (xs ++ ys) q other ∙ left_none xs ys q (sym (at_later x xs q other) ∙ e)
  ]

  pub right_none : (xs ys : List (ℕ × V)) (q : ℕ) → value_at ys q ≡ None → value_at (xs ++ ys) q ≡ value_at xs q
  right_none [] ys q e = e
  right_none (x ∷ xs) ys q e = ap (λ o. cond (is_eq (nat_cmp q x.0)) (Some x.1) o) (right_none xs ys q e)

  before_none : (n : ℕ) (xs : List (ℕ × V)) → AreBefore n xs → value_at xs n ≡ None
  before_none n [] h = refl
  before_none n (x ∷ xs) h = at_later x xs n (λ same. let lt = h.0 in absurd (omega arith)) ∙ before_none n xs h.1

  -- what stands at a place
  pub begins_there : (xs : List (ℕ × V)) (p name : ℕ) (d : ℕ × V) → begins_with (drop p xs) name ≡ true → (p < length xs) × ((get_or xs p d).0 ≡ name)
  begins_there [] zero name d e = absurd (false≢true e)
  begins_there [] (suc p) name d e = absurd (false≢true e)
  begins_there (x ∷ xs) zero name d e = (omega arith, eqb-true x.0 name e)
  begins_there (x ∷ xs) (suc p) name d e = let k = begins_there xs p name d e in let lt = k.0 in (omega arith, k.1)

  drop_at : (xs : List (ℕ × V)) (p : ℕ) (d : ℕ × V) → p < length xs → drop p xs ≡ get_or xs p d ∷ drop (suc p) xs
  drop_at [] p d lt = absurd (omega arith)
  drop_at (x ∷ xs) zero d lt = refl
  drop_at (x ∷ xs) (suc p) d lt = drop_at xs p d (omega arith)

  set_at : (xs : List (ℕ × V)) (p : ℕ) (y : ℕ × V) → p < length xs → set xs p y ≡ take p xs ++ y ∷ drop (suc p) xs
  set_at [] p y lt = absurd (omega arith)
  set_at (x ∷ xs) zero y lt = refl
  set_at (x ∷ xs) (suc p) y lt = ap (λ l. x ∷ l) (set_at xs p y (omega arith))

  -- a place at which the name stands
  name_from : (a : ℕ) (xs : List (ℕ × V)) (p name : ℕ) → AscendFrom a xs → begins_with (drop p xs) name ≡ true → a ≤ name
  name_from a [] zero name h e = absurd (false≢true e)
  name_from a [] (suc p) name h e = absurd (false≢true e)
  name_from a (x ∷ xs) zero name h e = let same = eqb-true x.0 name e in let le = h.0 in omega arith
  name_from a (x ∷ xs) (suc p) name h e = let k = name_from (x.0 + 1) xs p name h.1 e in let le = h.0 in omega arith

  guessed_before : (a : ℕ) (xs : List (ℕ × V)) (p name : ℕ) → AscendFrom a xs → begins_with (drop p xs) name ≡ true → AreBefore name (take p xs)
  guessed_before a [] zero name h e = tt
  guessed_before a [] (suc p) name h e = tt
  guessed_before a (x ∷ xs) zero name h e = tt
  guessed_before a (x ∷ xs) (suc p) name h e = (let k = name_from (x.0 + 1) xs p name h.1 e in omega arith, guessed_before (x.0 + 1) xs p name h.1 e)

  guessed_after : (a : ℕ) (xs : List (ℕ × V)) (p name : ℕ) → AscendFrom a xs → begins_with (drop p xs) name ≡ true → AscendFrom name (drop p xs)
  guessed_after a [] zero name h e = tt
  guessed_after a [] (suc p) name h e = tt
  guessed_after a (x ∷ xs) zero name h e = (let same = eqb-true x.0 name e in omega arith, h.1)
  guessed_after a (x ∷ xs) (suc p) name h e = guessed_after (x.0 + 1) xs p name h.1 e

  fits_there : (xs : List (ℕ × V)) (p name : ℕ) → begins_with (drop p xs) name ≡ true → p ≤ length xs
  fits_there [] zero name e = absurd (false≢true e)
  fits_there [] (suc p) name e = absurd (false≢true e)
  fits_there (x ∷ xs) zero name e = omega arith
  fits_there (x ∷ xs) (suc p) name e = let k = fits_there xs p name e in omega arith

  pub guessed : (xs : List (ℕ × V)) (p name : ℕ) → AscendFrom 0 xs → begins_with (drop p xs) name ≡ true → IsPlaceIn xs name p
  guessed xs p name h e = record { fits = fits_there xs p name e; before = guessed_before 0 xs p name h e; after = guessed_after 0 xs p name h e }

  -- a place found by halves
  pub above : (a : ℕ) (xs : List (ℕ × V)) (j : ℕ) (d : ℕ × V) → AscendFrom a xs → j < length xs → a ≤ (get_or xs j d).0
  above a [] j d h lt = absurd (omega arith)
  above a (x ∷ xs) zero d h lt = h.0
  above a (x ∷ xs) (suc j) d h lt = let k = above (x.0 + 1) xs j d h.1 (omega arith) in let le = h.0 in omega arith

  pub ascending : (a : ℕ) (xs : List (ℕ × V)) → AscendFrom a xs → IsNonDecreasingBy (λ (e : ℕ × V). e.0) xs
  ascending a [] h i j d le lt = absurd (omega arith)
  ascending a (x ∷ xs) h zero zero d le lt = omega arith
  ascending a (x ∷ xs) h zero (suc j) d le lt = let k = above (x.0 + 1) xs j d h.1 (omega arith) in omega arith
  ascending a (x ∷ xs) h (suc i) zero d le lt = absurd (omega arith)
  ascending a (x ∷ xs) h (suc i) (suc j) d le lt = ascending (x.0 + 1) xs h.1 i j d (omega arith) (omega arith)

  before_take : (name : ℕ) (xs : List (ℕ × V)) (p : ℕ) → p ≤ length xs → ((k : ℕ) (d : ℕ × V) → k < p → ltb (get_or xs k d).0 name ≡ true) → AreBefore name (take p xs)
  before_take name [] zero le h = tt
  before_take name [] (suc p) le h = absurd (omega arith)
  before_take name (x ∷ xs) zero le h = tt
  before_take name (x ∷ xs) (suc p) le h = (
    ltb-true x.0 name (h zero x (omega arith)),
    before_take name xs p (omega arith) (λ k d lt. h (suc k) d (omega arith)),
  )

  after_drop : (a name : ℕ) (xs : List (ℕ × V)) (p : ℕ) → p ≤ length xs → AscendFrom a xs → ((k : ℕ) (d : ℕ × V) → p ≤ k → k < length xs → ltb (get_or xs k d).0 name ≡ false) → AscendFrom name (drop p xs)
  after_drop a name [] zero le h f = tt
  after_drop a name [] (suc p) le h f = tt
  after_drop a name (x ∷ xs) zero le h f = (ltb-false x.0 name (f zero x (omega arith) (omega arith)), h.1)
  after_drop a name (x ∷ xs) (suc p) le h f = after_drop (x.0 + 1) name xs p (omega arith) h.1 (λ k d x y. f (suc k) d (omega arith) (omega arith))

  pub parted : (xs : List (ℕ × V)) (p name : ℕ) → AscendFrom 0 xs → p ≤ length xs → ((k : ℕ) (d : ℕ × V) → k < p → ltb (get_or xs k d).0 name ≡ true)
      → ((k : ℕ) (d : ℕ × V) → p ≤ k → k < length xs → ltb (get_or xs k d).0 name ≡ false) → IsPlaceIn xs name p
  parted xs p name h le low high = record { fits = le; before = before_take name xs p le low; after = after_drop 0 name xs p le h high }

  -- the least name from one on
  before_lacks : (n : ℕ) (xs : List (ℕ × V)) (q : ℕ) → AreBefore n xs → n ≤ q → value_at xs q ≡ None
  before_lacks n [] q h le = refl
  before_lacks n (x ∷ xs) q h le = at_later x xs q (λ same. let lt = h.0 in absurd (omega arith)) ∙ before_lacks n xs q h.1 le

  beyond : (xs : List (ℕ × V)) (n p q : ℕ) → IsPlaceIn xs n p → n ≤ q → value_at xs q ≡ value_at (drop p xs) q
  beyond xs n p q h le = sym (ap (λ es. value_at es q) (take-append-drop p xs)) ∙ left_none (take p xs) (drop p xs) q (before_lacks n (take p xs) q h.before le)

  not_some : {Q : Type 0} (o : Option V) → o ≡ None → IsSome o → Q
  not_some o e some = absurd (false≢true (subst (λ x. IsSome x) e some))

  past : (xs : List (ℕ × V)) (p : ℕ) → length xs ≤ p → drop p xs ≡ []
  past [] zero le = refl
  past [] (suc p) le = refl
  past (x ∷ xs) zero le = absurd (omega arith)
  past (x ∷ xs) (suc p) le = past xs p (omega arith)

  pub least_at : (xs : List (ℕ × V)) (n p : ℕ) → IsPlaceIn xs n p → (e : ℕ × V) → (p < length xs) × ((d : ℕ × V) → e ≡ get_or xs p d) → IsLeastFrom (value_at xs) n e.0
  least_at xs n p h e is =
      let there : drop p xs ≡ e ∷ drop (suc p) xs = drop_at xs p e is.0 ∙ ap (λ y. y ∷ drop (suc p) xs) (sym (is.1 e)) in
      let rise : AscendFrom n (e ∷ drop (suc p) xs) = subst (AscendFrom n) there h.after in
      record {
        held = subst (λ o. IsSome o) (sym (beyond xs n p e.0 h rise.0 ∙ ap (λ es. value_at es e.0) there ∙ at_first e (drop (suc p) xs))) refl;
        reached = rise.0;
        least = λ q some le. elim (cases_lt q e.0) [
          | inl lt ↦ not_some (value_at xs q) (beyond xs n p q h le ∙ ap (λ es. value_at es q) there ∙ none_before e.0 (e ∷ drop (suc p) xs) q (omega arith, rise.1) lt) some
          | inr le ↦ le
        ];
      }

  pub none_at : (xs : List (ℕ × V)) (n p : ℕ) → IsPlaceIn xs n p → length xs ≤ p → (q : ℕ) → IsSome (value_at xs q) → q < n
  none_at xs n p h is q some = elim (cases_lt q n) [
    | inl lt ↦ lt
    | inr le ↦ not_some (value_at xs q) (beyond xs n p q h le ∙ ap (λ es. value_at es q) (past xs p is)) some
  ]

  -- the place after all
  before_last : (a : ℕ) (front : List (ℕ × V)) (last : ℕ × V) (n : ℕ) → AscendFrom a (front ++ last ∷ []) → last.0 < n → (a < n) × AreBefore n (front ++ last ∷ [])
  before_last a [] last n h lt = (let le = h.0 in omega arith, (lt, tt))
  before_last a (x ∷ front) last n h lt = let k = before_last (x.0 + 1) front last n h.1 lt in let up = k.0 in let le = h.0 in (omega arith, (omega arith, k.1))

  whole_before : (n : ℕ) (xs : List (ℕ × V)) → AreBefore n xs → AreBefore n (take (length xs) xs)
  whole_before n [] h = tt
  whole_before n (x ∷ xs) h = (h.0, whole_before n xs h.1)

  none_after : (n : ℕ) (xs : List (ℕ × V)) → AscendFrom n (drop (length xs) xs)
  none_after n [] = tt
  none_after n (x ∷ xs) = none_after n xs

  at_end : (xs : List (ℕ × V)) (n : ℕ) → AreBefore n xs → IsPlaceIn xs n (length xs)
  at_end xs n h = record { fits = omega arith; before = whole_before n xs h; after = none_after n xs }

  pub after_last : (xs front : List (ℕ × V)) (last : ℕ × V) (n : ℕ) → xs ≡ front ++ last ∷ [] → AscendFrom 0 xs → last.0 < n → IsPlaceIn xs n (length xs)
  after_last xs front last n e h lt = at_end xs n (subst (AreBefore n) (sym e) (before_last 0 front last n (subst (AscendFrom 0) e h) lt).1)

  pub after_none : (xs : List (ℕ × V)) (n : ℕ) → xs ≡ [] → IsPlaceIn xs n (length xs)
  after_none xs n e = at_end xs n (subst (AreBefore n) (sym e) tt)

  -- an entry put at the place
  strictly : (n : ℕ) (es : List (ℕ × V)) → AscendFrom n es → begins_with es n ≡ false → AscendFrom (n + 1) es
  strictly n [] h e = tt
  strictly n (x ∷ xs) h e = (above_of n x.0 h.0 e, h.1)

  other_at : (low rest : List (ℕ × V)) (name : ℕ) (w : V) (q : ℕ) → ¬ (q ≡ name) → value_at (low ++ (name, w) ∷ rest) q ≡ value_at (low ++ rest) q
  other_at [] rest name w q ne = at_later (name, w) rest q ne
  other_at (x ∷ low) rest name w q ne = ap (λ o. cond (is_eq (nat_cmp q x.0)) (Some x.1) o) (other_at low rest name w q ne)

  here_at : (low rest : List (ℕ × V)) (name : ℕ) (w : V) → AreBefore name low → value_at (low ++ (name, w) ∷ rest) name ≡ Some w
  here_at low rest name w h = left_none low ((name, w) ∷ rest) name (before_none name low h) ∙ at_first (name, w) rest

  pub set_of : (old new : ℕ → Option V) (name : ℕ) (w : V) → new name ≡ Some w → ((q : ℕ) → ¬ (q ≡ name) → new q ≡ old q) → IsSetAt old name w new
  set_of old new name w here others q = elim (same_or_other q name) [
    | inl same ↦ ap new same ∙ here ∙ sym (ap (λ b. cond b (Some w) (old q)) (tied name q (sym same)))
    | inr other ↦ others q other ∙ sym (ap (λ b. cond b (Some w) (old q)) (apart name q other))
  ]
    where
      tied : (a b : ℕ) → a ≡ b → is_eq (nat_cmp a b) ≡ true
      tied a b e = grind (arith, nat_tests)

      apart : (a b : ℕ) → ¬ (b ≡ a) → is_eq (nat_cmp a b) ≡ false
      apart a b ne = grind (arith, nat_tests)

  ascend_put : (a : ℕ) (low high rest : List (ℕ × V)) (name : ℕ) (w : V) → AscendFrom a (low ++ high) → AreBefore name low → a ≤ name → AscendFrom (name + 1) rest → AscendFrom a (low ++ (name, w) ∷ rest)
  ascend_put a [] high rest name w h b le r = (le, r)
  ascend_put a (x ∷ low) high rest name w h b le r = (h.0, ascend_put (x.0 + 1) low high rest name w h.1 b.1 (let lt = b.0 in omega arith) r)

  own_put : (k : ℕ) (low high rest : List (ℕ × V)) (name : ℕ) (w : V) → AreOf k (low ++ high) → name / 64 ≡ k → AreOf k rest → AreOf k (low ++ (name, w) ∷ rest)
  own_put k [] high rest name w h is r = (is, r)
  own_put k (x ∷ low) high rest name w h is r = (h.0, own_put k low high rest name w h.1 is r)

  own_drop : (k : ℕ) (xs : List (ℕ × V)) (p : ℕ) → AreOf k xs → AreOf k (drop p xs)
  own_drop k [] zero h = tt
  own_drop k [] (suc p) h = tt
  own_drop k (x ∷ xs) zero h = h
  own_drop k (x ∷ xs) (suc p) h = own_drop k xs p h.1

  some_put : (low rest : List (ℕ × V)) (y : ℕ × V) → 0 < length (low ++ y ∷ rest)
  some_put [] rest y = omega arith
  some_put (x ∷ low) rest y = omega arith

  module _ (xs : List (ℕ × V)) (name p : ℕ) (h : IsPlaceIn xs name p) where
    joined : take p xs ++ drop p xs ≡ xs
    joined = take-append-drop p xs

    leaf_put : (k : ℕ) (rest : List (ℕ × V)) (w : V) → name / 64 ≡ k → AscendFrom (name + 1) rest → AreOf k rest → IsLeaf k xs → IsLeaf k (take p xs ++ (name, w) ∷ rest)
    leaf_put k rest w is r o leaf = record {
      ascend = ascend_put 0 (take p xs) (drop p xs) rest name w (subst (AscendFrom 0) (sym joined) leaf.ascend) h.before (omega arith) r;
      own = own_put k (take p xs) (drop p xs) rest name w (subst (AreOf k) (sym joined) leaf.own) is o;
      some = some_put (take p xs) rest (name, w);
    }

    -- a new name
    module _ (new : begins_with (drop p xs) name ≡ false) where
      pub absent : value_at xs name ≡ None
      absent =
          sym (ap (λ es. value_at es name) joined) ∙ left_none (take p xs) (drop p xs) name (before_none name (take p xs) h.before)
          ∙ none_before (name + 1) (drop p xs) name (strictly name (drop p xs) h.after new) (omega arith)

      pub inserted : (w : V) → IsSetAt (value_at xs) name w (value_at (take p xs ++ (name, w) ∷ drop p xs))
      inserted w = set_of (value_at xs) (value_at (take p xs ++ (name, w) ∷ drop p xs)) name w (here_at (take p xs) (drop p xs) name w h.before)
          (λ q ne. other_at (take p xs) (drop p xs) name w q ne ∙ ap (λ es. value_at es q) joined)

      pub inserted_leaf : (k : ℕ) (w : V) → k ≡ name / 64 → IsLeaf k xs → IsLeaf k (take p xs ++ (name, w) ∷ drop p xs)
      inserted_leaf k w is leaf = leaf_put k (drop p xs) w (sym is) (strictly name (drop p xs) h.after new) (own_drop k xs p leaf.own) leaf

    -- a name that is there
    module _ (there : begins_with (drop p xs) name ≡ true) (d : ℕ × V) where
      abbrev pub entry : ℕ × V
      entry = get_or xs p d

      abbrev pub rest : List (ℕ × V)
      rest = drop (suc p) xs

      lt : p < length xs
      lt = (begins_there xs p name d there).0

      is : entry.0 ≡ name
      is = (begins_there xs p name d there).1

      whole : take p xs ++ entry ∷ rest ≡ xs
      whole = ap (λ es. take p xs ++ es) (sym (drop_at xs p d lt)) ∙ joined

      named : (name, entry.1) ≡ entry
      named = λ i. (sym is i, entry.1)

      pub present : value_at xs name ≡ Some entry.1
      present = sym (ap (λ es. value_at es name) (ap (λ e. take p xs ++ e ∷ rest) named ∙ whole)) ∙ here_at (take p xs) rest name entry.1 h.before

      after : AscendFrom (name + 1) rest
      after = subst (λ n. AscendFrom (n + 1) rest) is (subst (AscendFrom name) (drop_at xs p d lt) h.after).1

      own_of : (k : ℕ) → IsLeaf k xs → name / 64 ≡ k
      own_of k leaf = subst (λ n. n / 64 ≡ k) is (subst (AreOf k) (drop_at xs p d lt) (own_drop k xs p leaf.own)).0

      written : (w : V) → set xs p (entry.0, w) ≡ take p xs ++ (name, w) ∷ rest
      written w = set_at xs p (entry.0, w) lt ∙ ap (λ n. take p xs ++ (n, w) ∷ rest) is

      pub replaced : (w : V) → IsSetAt (value_at xs) name w (value_at (set xs p (entry.0, w)))
      replaced w = subst (λ es. IsSetAt (value_at xs) name w (value_at es)) (sym (written w))
          (set_of (value_at xs) (value_at (take p xs ++ (name, w) ∷ rest)) name w (here_at (take p xs) rest name w h.before)
          (λ q ne. other_at (take p xs) rest name w q ne ∙ sym (other_at (take p xs) rest name entry.1 q ne) ∙ ap (λ es. value_at es q) (ap (λ e. take p xs ++ e ∷ rest) named ∙ whole)))

      pub replaced_leaf : (k : ℕ) (w : V) → IsLeaf k xs → IsLeaf k (set xs p (entry.0, w))
      replaced_leaf k w leaf = subst (IsLeaf k) (sym (written w)) (leaf_put k rest w (own_of k leaf) after (own_drop k xs (suc p) leaf.own) leaf)
