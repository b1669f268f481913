-- Leaves by their numbers, and what they have under a name.
use Rattle.std.proofs.Common.{ℕ, ◌+◌, ◌*◌, ◌/◌, ◌<◌, ◌≤◌, ◌≡◌, cond, List, [], ◌∷◌, ◌++◌, length, true, false, Option, Some, None, Bool, IsSome, IsTrue, MatchOption, ◌↔◌, refl, sym, ap, subst, ◌∙◌, arith, inl, inr}
use Rattle.std.specs.Global.{Vec}
use Rattle.std.specs.Ordering.{nat_cmp, is_eq}
use Rattle.std.specs.BTreeMap as tree
use Rattle.std.specs.BTreeMap.{BTreeMap}
use Rattle.std.proofs.lemmas.Bool.{cases_lt, false≢true}
use Rattle.std.proofs.lemmas.Bool.Decides.{nat_tests}
use Rattle.pc_join.specs.Sets.{Members, Source}
use Rattle.pc_join.specs.ByName.{AscendFrom, IsLeastFrom, value_at}
use Rattle.pc_join.specs.Inner.Puts.{IsPut, IsWholeAt, IsJoinedAt}
use Rattle.pc_join.specs.Inner.Leaves.{AreOf, IsLeaf, AreLeaves, IsSetAt, entries_of, found_in, held_in}
use Rattle.pc_join.proofs.Entries.{same_or_other, at_first, at_later, none_before, ordered_ascend}
use Rattle.pc_join.proofs.Standing.{left_none, right_none, set_of}

div_bounds : (n k : ℕ) → n / 64 ≡ k → (k * 64 ≤ n) × (n < k * 64 + 64)
div_bounds n k e = omega (arith, e)

clash : {X Q : Type 0} {x : X} → ◌≡◌ {A = Option X} (Some x) None → Q
clash e = cc

inside : {X : Type 0} {x y : X} → ◌≡◌ {A = Option X} (Some x) (Some y) → x ≡ y
inside e = cc

-- the same functions, shown in another way
module _ {V : Type 0} (old new old_shown new_shown : ℕ → Option V) (f : (q : ℕ) → old_shown q ≡ old q) (g : (q : ℕ) → new_shown q ≡ new q) (name : ℕ) (value : V) where
  pub fresh_as : IsSetAt old name value new → IsSetAt old_shown name value new_shown
  fresh_as h q = g q ∙ h q ∙ ap (λ o. cond (is_eq (nat_cmp name q)) (Some value) o) (sym (f q))

  module _ (known : V → Members) (is_of : V → Source → Type 0) where
    pub put_as : IsPut known is_of old name value new → IsPut known is_of old_shown name value new_shown
    put_as h = record {
      others = λ q ne. g q ∙ h.others q ne ∙ sym (f q);
      here = subst (λ o. IsJoinedAt known is_of o (Some value) (new_shown name)) (sym (f name)) (subst (λ o. IsJoinedAt known is_of (old name) (Some value) o) (sym (g name)) h.here);
    }

    pub whole_as : IsWholeAt known (old name) (Some value) (new name) → IsWholeAt known (old_shown name) (Some value) (new_shown name)
    whole_as h = subst (λ o. IsWholeAt known o (Some value) (new_shown name)) (sym (f name)) (subst (λ o. IsWholeAt known (old name) (Some value) o) (sym (g name)) h)

module _ {V : Type 0} where
  -- leaves one behind another, from a number on
  abbrev pub LeavesFrom : ℕ → List (ℕ × Vec (ℕ × V)) → Type 0
  LeavesFrom n [] = Unit {0}
  LeavesFrom n (leaf ∷ leaves) = (n ≤ leaf.0) × (IsLeaf leaf.0 leaf.1.items × LeavesFrom (leaf.0 + 1) leaves)

  from_leaves : (n : ℕ) (ls : List (ℕ × Vec (ℕ × V))) → AscendFrom n ls → ((k : ℕ) (leaf : Vec (ℕ × V)) → value_at ls k ≡ Some leaf → IsLeaf k leaf.items) → LeavesFrom n ls
  from_leaves n [] h each = tt
  from_leaves n (l ∷ ls) h each = (
    h.0,
    (
      each l.0 l.1 (at_first l ls),
      from_leaves (l.0 + 1) ls h.1 (λ k leaf e. each k leaf (at_later l ls k (λ same. clash (sym e ∙ none_before (l.0 + 1) ls k h.1 (omega (arith, same)))) ∙ e)),
    ),
  )

  pub in_a_row : (leaves : BTreeMap ℕ (Vec (ℕ × V))) → AreLeaves leaves → LeavesFrom 0 leaves.entries
  in_a_row leaves h = from_leaves 0 leaves.entries (ordered_ascend leaves h.ordered) h.each

  -- a leaf has none of the names of others
  none_of : (k : ℕ) (es : List (ℕ × V)) (q : ℕ) → AreOf k es → ¬ (q / 64 ≡ k) → value_at es q ≡ None
  none_of k [] q h ne = refl
  none_of k (e ∷ es) q h ne = at_later e es q (λ same. ne (ap (λ n. n / 64) same ∙ h.0)) ∙ none_of k es q h.1 ne

  none_from : (n : ℕ) (ls : List (ℕ × Vec (ℕ × V))) (q : ℕ) → LeavesFrom n ls → q / 64 < n → value_at (entries_of ls) q ≡ None
  none_from n [] q h lt = refl
  none_from n (l ∷ ls) q h lt =
      left_none l.1.items (entries_of ls) q (none_of l.0 l.1.items q h.1.0.own (λ same. let le = h.0 in absurd (omega (arith, same))))
      ∙ none_from (l.0 + 1) ls q h.1.1 (let le = h.0 in omega arith)

  found : (n : ℕ) (ls : List (ℕ × Vec (ℕ × V))) (q : ℕ) → LeavesFrom n ls → value_at (entries_of ls) q ≡ found_in (value_at ls (q / 64)) q
  found n [] q h = refl
  found n (l ∷ ls) q h = elim (same_or_other (q / 64) l.0) [
    | inl same ↦
        right_none l.1.items (entries_of ls) q (none_from (l.0 + 1) ls q h.1.1 (omega (arith, same)))
        ∙ ap (λ o. found_in o q) (sym (ap (value_at (l ∷ ls)) same ∙ at_first l ls))
    | inr other ↦
        left_none l.1.items (entries_of ls) q (none_of l.0 l.1.items q h.1.0.own other)
        ∙ found (l.0 + 1) ls q h.1.1
        ∙ ap (λ o. found_in o q) (sym (at_later l ls (q / 64) other))
  ]

  -- what all entries have under a name is what the leaf of the name has
  pub held_shown : (leaves : BTreeMap ℕ (Vec (ℕ × V))) → AreLeaves leaves → (q : ℕ) → value_at (entries_of leaves.entries) q ≡ held_in leaves q
  held_shown leaves h q = found 0 leaves.entries q (in_a_row leaves h)

  pub shown_as : (leaves : BTreeMap ℕ (Vec (ℕ × V))) (shown : List (ℕ × V)) → entries_of leaves.entries ≡ shown → AreLeaves leaves → (q : ℕ) → value_at shown q ≡ held_in leaves q
  shown_as leaves shown e h q = sym (ap (λ es. value_at es q) e) ∙ held_shown leaves h q

  -- all entries ascend
  from_lower : (a b : ℕ) (es : List (ℕ × V)) → a ≤ b → AscendFrom b es → AscendFrom a es
  from_lower a b [] le h = tt
  from_lower a b (e ∷ es) le h = (let k = h.0 in omega arith, h.1)

  after_leaf : (a k : ℕ) (es more : List (ℕ × V)) → AscendFrom a es → AreOf k es → a ≤ k * 64 + 64 → AscendFrom (k * 64 + 64) more → AscendFrom a (es ++ more)
  after_leaf a k [] more h own le m = from_lower a (k * 64 + 64) more le m
  after_leaf a k (e ∷ es) more h own le m = (h.0, after_leaf (e.0 + 1) k es more h.1 own.1 (let b = (div_bounds e.0 k own.0).1 in omega arith) m)

  first_own : (k : ℕ) (es : List (ℕ × V)) → AscendFrom 0 es → AreOf k es → AscendFrom (k * 64) es
  first_own k [] h own = tt
  first_own k (e ∷ es) h own = ((div_bounds e.0 k own.0).0, h.1)

  rows_ascend : (n : ℕ) (ls : List (ℕ × Vec (ℕ × V))) → LeavesFrom n ls → AscendFrom (n * 64) (entries_of ls)
  rows_ascend n [] h = tt
  rows_ascend n (l ∷ ls) h =
      from_lower (n * 64) (l.0 * 64) (l.1.items ++ entries_of ls) (let le = h.0 in omega arith)
      (after_leaf (l.0 * 64) l.0 l.1.items (entries_of ls) (first_own l.0 l.1.items h.1.0.ascend h.1.0.own) h.1.0.own (omega arith)
      (subst (λ m. AscendFrom m (entries_of ls)) (times l.0) (rows_ascend (l.0 + 1) ls h.1.1)))
    where
      times : (k : ℕ) → (k + 1) * 64 ≡ k * 64 + 64
      times k = omega arith

  pub all_ascend : (leaves : BTreeMap ℕ (Vec (ℕ × V))) → AreLeaves leaves → AscendFrom 0 (entries_of leaves.entries)
  all_ascend leaves h = rows_ascend 0 leaves.entries (in_a_row leaves h)

  pub leaves_stay : (old new : BTreeMap ℕ (Vec (ℕ × V))) → new.entries ≡ old.entries → tree.IsOrdered nat_cmp new → AreLeaves old → AreLeaves new
  leaves_stay old new e ordered h = record { ordered = ordered; each = λ j l f. h.each j l (sym (ap (λ es. value_at es j) e) ∙ f) }

  pub held_stays : (old new : BTreeMap ℕ (Vec (ℕ × V))) → new.entries ≡ old.entries → (q : ℕ) → held_in new q ≡ held_in old q
  held_stays old new e q = ap (λ es. found_in (value_at es (q / 64)) q) e

  -- nothing is held where there is no leaf
  pub empty_shown : (leaves : BTreeMap ℕ (Vec (ℕ × V))) (shown : List (ℕ × V)) (r : Bool) → entries_of leaves.entries ≡ shown → AreLeaves leaves → IsTrue r ↔ (length leaves.entries ≡ 0) → IsTrue r ↔ (length shown ≡ 0)
  empty_shown leaves shown r e h d = (λ t. ap length (sym e) ∙ ap (λ ls. length (entries_of ls)) (no_leaves leaves.entries (d.0 t)), λ none. d.1 (by_rows leaves.entries (in_a_row leaves h) (ap length e ∙ none)))
    where
      no_leaves : (ls : List (ℕ × Vec (ℕ × V))) → length ls ≡ 0 → ls ≡ []
      no_leaves [] n = refl
      no_leaves (l ∷ ls) n = absurd (omega arith)

      longer : (xs ys : List (ℕ × V)) → 0 < length xs → length (xs ++ ys) ≡ 0 → ⊥
      longer [] ys lt n = absurd (omega arith)
      longer (x ∷ xs) ys lt n = absurd (omega arith)

      by_rows : (ls : List (ℕ × Vec (ℕ × V))) → LeavesFrom 0 ls → length (entries_of ls) ≡ 0 → length ls ≡ 0
      by_rows [] rows n = refl
      by_rows (l ∷ ls) rows n = absurd (longer l.1.items (entries_of ls) rows.1.0.some n)

  -- the least name from one on
  not_some : {Q : Type 0} (o : Option V) → o ≡ None → IsSome o → Q
  not_some o e some = absurd (false≢true (subst (λ x. IsSome x) e some))

  pub next_as : (held shown : ℕ → Option V) (from : ℕ) (r : Option ℕ) → ((q : ℕ) → shown q ≡ held q)
      → MatchOption r ((name : ℕ) → IsSome (held name) → name < from) (IsLeastFrom held from) → MatchOption r ((name : ℕ) → IsSome (shown name) → name < from) (IsLeastFrom shown from)
  next_as held shown from None same h = λ q some. h q (subst (λ o. IsSome o) (same q) some)
  next_as held shown from (Some name) same h = record {
    held = subst (λ o. IsSome o) (sym (same name)) h.held;
    reached = h.reached;
    least = λ q some le. h.least q (subst (λ o. IsSome o) (same q) some) le;
  }

  module _ (leaves : BTreeMap ℕ (Vec (ℕ × V))) (are : AreLeaves leaves) where
    -- a leaf has its own names alone
    own_name : (k : ℕ) (o : Option (Vec (ℕ × V))) → tree.get nat_cmp leaves k ≡ o → (q : ℕ) → IsSome (found_in o q) → q / 64 ≡ k
    own_name k None e q some = absurd (false≢true some)
    own_name k (Some leaf) e q some = elim (same_or_other (q / 64) k) [
      | inl same ↦ same
      | inr other ↦ not_some (value_at leaf.items q) (none_of k leaf.items q (are.each k leaf e).own other) some
    ]

    there_leaf : (o : Option (Vec (ℕ × V))) (q : ℕ) → IsSome (found_in o q) → IsSome o
    there_leaf None q some = some
    there_leaf (Some leaf) q some = refl

    less_number : (a b : ℕ) → a ≤ b → a / 64 ≤ b / 64
    less_number a b le = omega arith

    name_less : (a b : ℕ) → a / 64 < b / 64 → a < b
    name_less a b lt = omega arith

    -- in the leaf of a number, a least name from one on is the least of all where no leaf before it has one
    in_leaf : (from k name : ℕ) → ((q : ℕ) → IsSome (held_in leaves q) → from ≤ q → k ≤ q / 64) → IsLeastFrom (found_in (tree.get nat_cmp leaves k)) from name → IsLeastFrom (held_in leaves) from name
    in_leaf from k name first h =
        let own : name / 64 ≡ k = own_name k (tree.get nat_cmp leaves k) refl name h.held in
        record {
          held = subst (λ j. IsSome (found_in (tree.get nat_cmp leaves j) name)) (sym own) h.held;
          reached = h.reached;
          least = λ q some le. elim (same_or_other (q / 64) k) [
            | inl same ↦ h.least q (subst (λ j. IsSome (found_in (tree.get nat_cmp leaves j) q)) same some) le
            | inr other ↦ (let up = first q some le in let lt = name_less name q (omega (arith, own)) in omega arith)
          ];
        }

    pub next_here : (from name : ℕ) → IsLeastFrom (found_in (tree.get nat_cmp leaves (from / 64))) from name → IsLeastFrom (held_in leaves) from name
    next_here from name h = in_leaf from (from / 64) name (λ q some le. less_number from q le) h

    module _ (from : ℕ) (none : (q : ℕ) → IsSome (found_in (tree.get nat_cmp leaves (from / 64)) q) → q < from) where
      later_leaf : (q : ℕ) → IsSome (held_in leaves q) → from ≤ q → from / 64 + 1 ≤ q / 64
      later_leaf q some le = elim (same_or_other (q / 64) (from / 64)) [
        | inl same ↦ (let lt = none q (subst (λ j. IsSome (found_in (tree.get nat_cmp leaves j) q)) same some) in absurd (omega arith))
        | inr other ↦ (let up = less_number from q le in omega arith)
      ]

      pub none_here : ((k : ℕ) → IsSome (tree.get nat_cmp leaves k) → k < from / 64 + 1) → (q : ℕ) → IsSome (held_in leaves q) → q < from
      none_here h q some = elim (cases_lt q from) [
        | inl lt ↦ lt
        | inr le ↦ (let up = later_leaf q some le in let low = h (q / 64) (there_leaf (tree.get nat_cmp leaves (q / 64)) q some) in absurd (omega arith))
      ]

      first_some : (k : ℕ) (o : Option (Vec (ℕ × V))) → tree.get nat_cmp leaves k ≡ o → IsSome o → (q : ℕ) × IsSome (found_in o q)
      first_some k None e some = absurd (false≢true some)
      first_some k (Some leaf) e some = by_first leaf.items (are.each k leaf e).some
        where
          by_first : (es : List (ℕ × V)) → 0 < length es → (q : ℕ) × IsSome (value_at es q)
          by_first [] lt = absurd (omega arith)
          by_first (x ∷ xs) lt = (x.0, subst (λ o. IsSome o) (sym (at_first x xs)) refl)

      pub next_later : (later : ℕ) (r : Option ℕ) → IsLeastFrom (tree.get nat_cmp leaves) (from / 64 + 1) later
          → MatchOption r ((q : ℕ) → IsSome (found_in (tree.get nat_cmp leaves later) q) → q < from) (IsLeastFrom (found_in (tree.get nat_cmp leaves later)) from)
          → MatchOption r ((q : ℕ) → IsSome (held_in leaves q) → q < from) (IsLeastFrom (held_in leaves) from)
      next_later later None next h =
          let one = first_some later (tree.get nat_cmp leaves later) refl next.held in
          let own : one.0 / 64 ≡ later = own_name later (tree.get nat_cmp leaves later) refl one.0 one.1 in
          let lt = h one.0 one.1 in let le = less_number one.0 from (omega arith) in let up = next.reached in absurd (omega (arith, own))
      next_later later (Some name) next h = in_leaf from later name (λ q some le. next.least (q / 64) (there_leaf (tree.get nat_cmp leaves (q / 64)) q some) (later_leaf q some le)) h

  -- one leaf is another
  module _ (old new : BTreeMap ℕ (Vec (ℕ × V))) (k : ℕ) (leaf : Vec (ℕ × V)) (set : IsSetAt (tree.get nat_cmp old) k leaf (tree.get nat_cmp new)) where
    number_same : (a b : ℕ) → a ≡ b → is_eq (nat_cmp b a) ≡ true
    number_same a b e = grind (arith, nat_tests)

    number_other : (a b : ℕ) → ¬ (a ≡ b) → is_eq (nat_cmp b a) ≡ false
    number_other a b ne = grind (arith, nat_tests)

    here : (j : ℕ) → j ≡ k → tree.get nat_cmp new j ≡ Some leaf
    here j same = set j ∙ ap (λ b. cond b (Some leaf) (tree.get nat_cmp old j)) (number_same j k same)

    off : (j : ℕ) → ¬ (j ≡ k) → tree.get nat_cmp new j ≡ tree.get nat_cmp old j
    off j ne = set j ∙ ap (λ b. cond b (Some leaf) (tree.get nat_cmp old j)) (number_other j k ne)

    pub are_leaves : tree.IsOrdered nat_cmp new → AreLeaves old → IsLeaf k leaf.items → AreLeaves new
    are_leaves ordered h is = record {
      ordered = ordered;
      each = λ j l e. elim (same_or_other j k) [
        | inl same ↦ subst (λ n. IsLeaf n l.items) (sym same) (subst (λ m. IsLeaf k m.items) (inside (sym (here j same) ∙ e)) is)
        | inr other ↦ h.each j l (sym (off j other) ∙ e)
      ];
    }

    pub new_here : (q : ℕ) → q / 64 ≡ k → held_in new q ≡ value_at leaf.items q
    new_here q same = ap (λ o. found_in o q) (here (q / 64) same)

    new_off : (q : ℕ) → ¬ (q / 64 ≡ k) → held_in new q ≡ held_in old q
    new_off q ne = ap (λ o. found_in o q) (off (q / 64) ne)

    module _ (name : ℕ) (is : name / 64 ≡ k) where
      -- the leaf was there
      module _ (before : Vec (ℕ × V)) (was : tree.get nat_cmp old k ≡ Some before) where
        pub old_here : (q : ℕ) → q / 64 ≡ k → held_in old q ≡ value_at before.items q
        old_here q same = ap (λ o. found_in o q) (ap (tree.get nat_cmp old) same ∙ was)

        pub fresh_lifted : (value : V) → IsSetAt (value_at before.items) name value (value_at leaf.items) → IsSetAt (held_in old) name value (held_in new)
        fresh_lifted value h q = elim (same_or_other (q / 64) k) [
          | inl same ↦ new_here q same ∙ h q ∙ ap (λ o. cond (is_eq (nat_cmp name q)) (Some value) o) (sym (old_here q same))
          | inr other ↦ new_off q other ∙ sym (ap (λ b. cond b (Some value) (held_in old q)) (number_other q name (λ e. other (ap (λ n. n / 64) e ∙ is))))
        ]

        module _ (known : V → Members) (is_of : V → Source → Type 0) (value : V) where
          pub put_lifted : IsPut known is_of (value_at before.items) name value (value_at leaf.items) → IsPut known is_of (held_in old) name value (held_in new)
          put_lifted h = record {
            others = λ q ne. elim (same_or_other (q / 64) k) [
              | inl same ↦ new_here q same ∙ h.others q ne ∙ sym (old_here q same)
              | inr other ↦ new_off q other
            ];
            here = subst (λ o. IsJoinedAt known is_of o (Some value) (held_in new name)) (sym (old_here name is))
                (subst (λ o. IsJoinedAt known is_of (value_at before.items name) (Some value) o) (sym (new_here name is)) h.here);
          }

          pub whole_lifted : IsWholeAt known (value_at before.items name) (Some value) (value_at leaf.items name) → IsWholeAt known (held_in old name) (Some value) (held_in new name)
          whole_lifted h = subst (λ o. IsWholeAt known o (Some value) (held_in new name)) (sym (old_here name is))
              (subst (λ o. IsWholeAt known (value_at before.items name) (Some value) o) (sym (new_here name is)) h)

      -- the leaf was not there
      module _ (none : tree.get nat_cmp old k ≡ None) (value : V) (only : leaf.items ≡ (name, value) ∷ []) where
        pub started : IsSetAt (held_in old) name value (held_in new)
        started = set_of (held_in old) (held_in new) name value
            (new_here name is ∙ ap (λ es. value_at es name) only ∙ at_first (name, value) [])
            (λ q ne. elim (same_or_other (q / 64) k) [
              | inl same ↦ new_here q same ∙ ap (λ es. value_at es q) only ∙ at_later (name, value) [] q ne ∙ sym (ap (λ o. found_in o q) (ap (tree.get nat_cmp old) same ∙ none))
              | inr other ↦ new_off q other
            ])

        pub nothing_held : held_in old name ≡ None
        nothing_held = ap (λ o. found_in o name) (ap (tree.get nat_cmp old) is ∙ none)

        pub started_leaf : IsLeaf k leaf.items
        started_leaf = subst (IsLeaf k) (sym only) (record { ascend = (omega arith, tt); own = (is, tt); some = omega arith })
