-- Values found by an index.
use Rattle.std.proofs.Common.{ℕ, suc, zero, ◌+◌, ◌<◌, ◌≤◌, ◌≡◌, List, [], ◌∷◌, ◌++◌, length, set, get_or, Option, Some, None, IsSome, refl, sym, ap, subst, ◌∙◌, arith, inl, inr}
use Rattle.std.specs.Option.{MatchOption}
use Rattle.std.proofs.lemmas.Bool.{cases_lt, false≢true}
use Rattle.std.proofs.lemmas.List.{get_or_append_left, get_or-set_other, get_or-set_same}
use Rattle.pc_join.specs.ByName.{AscendFrom, IsLeastFrom, value_at}
use Rattle.pc_join.specs.declared.near.TheConstants.{NEAR}
use Rattle.pc_join.specs.Inner.Leaves.{AreBefore, IsSetAt}
use Rattle.pc_join.specs.Inner.Near.{AreNear, AreWithin, FindsPlace, IsIndex, IsPlaceOf, entries_at, entry_at, first_value, found_by, place_in}
use Rattle.pc_join.proofs.Entries.{same_or_other, at_first, at_later, none_before}
use Rattle.pc_join.proofs.Standing.{set_of}

module _ {V : Type 0} where
  -- the entry at a place
  pub entry_there : (es : List (ℕ × V)) (p : ℕ) → p < length es → (e : ℕ × V) × ((entry_at es (suc p) ≡ e ∷ []) × ((d : ℕ × V) → get_or es p d ≡ e))
  entry_there [] p lt = absurd (omega arith)
  entry_there (x ∷ xs) zero lt = (x, (refl, λ d. refl))
  entry_there (x ∷ xs) (suc p) lt = entry_there xs p (omega arith)

  pub entry_past : (es : List (ℕ × V)) (p : ℕ) → length es ≤ p → entry_at es (suc p) ≡ []
  entry_past [] zero le = refl
  entry_past [] (suc p) le = refl
  entry_past (x ∷ xs) zero le = absurd (omega arith)
  entry_past (x ∷ xs) (suc p) le = entry_past xs p (omega arith)

  entry_other : (es : List (ℕ × V)) (p j : ℕ) (y : ℕ × V) → ¬ (j ≡ p) → entry_at (set es p y) (suc j) ≡ entry_at es (suc j)
  entry_other [] p j y ne = refl
  entry_other (x ∷ xs) zero zero y ne = absurd (ne refl)
  entry_other (x ∷ xs) zero (suc j) y ne = refl
  entry_other (x ∷ xs) (suc p) zero y ne = refl
  entry_other (x ∷ xs) (suc p) (suc j) y ne = entry_other xs p j y (λ same. ne (ap suc same))

  entry_same : (es : List (ℕ × V)) (p : ℕ) (y : ℕ × V) → p < length es → entry_at (set es p y) (suc p) ≡ y ∷ []
  entry_same [] p y lt = absurd (omega arith)
  entry_same (x ∷ xs) zero y lt = refl
  entry_same (x ∷ xs) (suc p) y lt = entry_same xs p y (omega arith)

  entry_before : (es : List (ℕ × V)) (j : ℕ) (y : ℕ × V) → j < length es → entry_at (es ++ y ∷ []) (suc j) ≡ entry_at es (suc j)
  entry_before [] j y lt = absurd (omega arith)
  entry_before (x ∷ xs) zero y lt = refl
  entry_before (x ∷ xs) (suc j) y lt = entry_before xs j y (omega arith)

  entry_last : (es : List (ℕ × V)) (y : ℕ × V) → entry_at (es ++ y ∷ []) (suc (length es)) ≡ y ∷ []
  entry_last [] y = refl
  entry_last (x ∷ xs) y = entry_last xs y

  length_set : (es : List (ℕ × V)) (p : ℕ) (y : ℕ × V) → length (set es p y) ≡ length es
  length_set [] p y = refl
  length_set (x ∷ xs) zero y = refl
  length_set (x ∷ xs) (suc p) y = ap suc (length_set xs p y)

  length_more : (es : List (ℕ × V)) (y : ℕ × V) → length (es ++ y ∷ []) ≡ suc (length es)
  length_more [] y = refl
  length_more (x ∷ xs) y = ap suc (length_more xs y)

  get_last : (es : List (ℕ × V)) (y d : ℕ × V) → get_or (es ++ y ∷ []) (length es) d ≡ y
  get_last [] y d = refl
  get_last (x ∷ xs) y d = get_last xs y d

  -- places of the names from one on
  abbrev AreFrom : ℕ → List ℕ → List (ℕ × V) → Type 0
  AreFrom n ps es = (m i : ℕ) → m ≡ n + i → IsPlaceOf m (place_in ps i) es

  behind : (n p : ℕ) (ps : List ℕ) (es : List (ℕ × V)) → AreFrom n (p ∷ ps) es → AreFrom (n + 1) ps es
  behind n p ps es h m i e = h m (suc i) (omega (arith, e))

  name_there : (n p : ℕ) (es : List (ℕ × V)) (here : IsPlaceOf n (suc p) es) → (entry_there es p here.0).0.0 ≡ n
  name_there n p es here = let e = entry_there es p here.0 in sym (ap (λ x. x.0) (e.1.1 e.0)) ∙ here.1 e.0

  from_less : (n m : ℕ) (es : List (ℕ × V)) → n ≤ m → AscendFrom m es → AscendFrom n es
  from_less n m [] le h = tt
  from_less n m (e ∷ es) le h = (let up = h.0 in omega arith, h.1)

  ascend : (n : ℕ) (ps : List ℕ) (es : List (ℕ × V)) → AreFrom n ps es → AscendFrom n (entries_at ps es)
  ascend n [] es h = tt
  ascend n (zero ∷ ps) es h = from_less n (n + 1) (entries_at ps es) (omega arith) (ascend (n + 1) ps es (behind n zero ps es h))
  ascend n (suc p ∷ ps) es h =
      let here : IsPlaceOf n (suc p) es = h n zero (omega arith) in
      let e = entry_there es p here.0 in
      let name : e.0.0 ≡ n = name_there n p es here in
      subst (AscendFrom n) (sym (ap (λ l. l ++ entries_at ps es) e.1.0))
      (omega (arith, name), subst (λ k. AscendFrom (k + 1) (entries_at ps es)) (sym name) (ascend (n + 1) ps es (behind n (suc p) ps es h)))

  below : (n b : ℕ) (ps : List ℕ) (es : List (ℕ × V)) → AreFrom n ps es → n + length ps ≤ b → AreBefore b (entries_at ps es)
  below n b [] es h le = tt
  below n b (zero ∷ ps) es h le = below (n + 1) b ps es (behind n zero ps es h) (omega arith)
  below n b (suc p ∷ ps) es h le =
      let here : IsPlaceOf n (suc p) es = h n zero (omega arith) in
      let e = entry_there es p here.0 in
      let name : e.0.0 ≡ n = name_there n p es here in
      subst (AreBefore b) (sym (ap (λ l. l ++ entries_at ps es) e.1.0)) (omega (arith, name), below (n + 1) b ps es (behind n (suc p) ps es h) (omega arith))

  within : (n : ℕ) (ps : List ℕ) (es : List (ℕ × V)) → AreFrom n ps es → AreWithin ps es
  within n [] es h = tt
  within n (zero ∷ ps) es h = (omega arith, within (n + 1) ps es (behind n zero ps es h))
  within n (suc p ∷ ps) es h =
      let here : IsPlaceOf n (suc p) es = h n zero (omega arith) in
      (let lt = here.0 in omega arith, within (n + 1) ps es (behind n (suc p) ps es h))

  found : (n : ℕ) (ps : List ℕ) (es : List (ℕ × V)) → AreFrom n ps es → (i m : ℕ) → m ≡ n + i → value_at (entries_at ps es) m ≡ first_value (entry_at es (place_in ps i))
  found n [] es h i m e = refl
  found n (zero ∷ ps) es h zero m e = none_before (n + 1) (entries_at ps es) m (ascend (n + 1) ps es (behind n zero ps es h)) (omega (arith, e))
  found n (zero ∷ ps) es h (suc i) m e = found (n + 1) ps es (behind n zero ps es h) i m (omega (arith, e))
  found n (suc p ∷ ps) es h zero m e =
      let here : IsPlaceOf n (suc p) es = h n zero (omega arith) in
      let k = entry_there es p here.0 in
      let name : m ≡ k.0.0 = omega (arith, e, name_there n p es here) in
      ap (λ l. value_at (l ++ entries_at ps es) m) k.1.0 ∙ ap (value_at (k.0 ∷ entries_at ps es)) name ∙ at_first k.0 (entries_at ps es) ∙ sym (ap first_value k.1.0)
  found n (suc p ∷ ps) es h (suc i) m e =
      let here : IsPlaceOf n (suc p) es = h n zero (omega arith) in
      let k = entry_there es p here.0 in
      let name : k.0.0 ≡ n = name_there n p es here in
      ap (λ l. value_at (l ++ entries_at ps es) m) k.1.0 ∙ at_later k.0 (entries_at ps es) m (λ same. absurd (omega (arith, e, name, same)))
      ∙ found (n + 1) ps es (behind n (suc p) ps es h) i m (omega (arith, e))

  from_start : (ps : List ℕ) (es : List (ℕ × V)) → IsIndex ps es → AreFrom 0 ps es
  from_start ps es h m i e = let same : m ≡ i = omega (arith, e) in subst (λ x. IsPlaceOf x (place_in ps i) es) (sym same) (h.each i)

  -- what an index shows
  pub shown_by : (ps : List ℕ) (es : List (ℕ × V)) → IsIndex ps es → (q : ℕ) → value_at (entries_at ps es) q ≡ found_by ps es q
  shown_by ps es h q = found 0 ps es (from_start ps es h) q q (omega arith)

  pub shown_now : (ps : List ℕ) (es now : List (ℕ × V)) → entries_at ps es ≡ now → IsIndex ps es → (q : ℕ) → value_at now q ≡ found_by ps es q
  shown_now ps es now is h q = ap (λ l. value_at l q) (sym is) ∙ shown_by ps es h q

  pub are_near : (ps : List ℕ) (es : List (ℕ × V)) → IsIndex ps es → AreNear (entries_at ps es)
  are_near ps es h = record {
    ascend = ascend 0 ps es (from_start ps es h);
    near = below 0 NEAR ps es (from_start ps es h) (let le = h.near in omega arith);
  }

  pub all_within : (ps : List ℕ) (es : List (ℕ × V)) → IsIndex ps es → AreWithin ps es
  all_within ps es h = within 0 ps es (from_start ps es h)

  pub near_now : (ps : List ℕ) (es now : List (ℕ × V)) → entries_at ps es ≡ now → IsIndex ps es → AreNear now
  near_now ps es now is h = subst (λ l. AreNear l) is (are_near ps es h)

  pub no_index : (ps : List ℕ) (es : List (ℕ × V)) → ps ≡ [] → IsIndex ps es
  no_index ps es e = record {
    each = λ q. subst (λ l. IsPlaceOf q (place_in l q) es) (sym e) tt;
    near = subst (λ l. length l ≤ NEAR) (sym e) (omega arith);
  }

  some_at : (q k : ℕ) (es : List (ℕ × V)) → IsPlaceOf q k es → ¬ (k ≡ 0) → IsSome (first_value (entry_at es k))
  some_at q zero es h ne = absurd (ne refl)
  some_at q (suc p) es h ne = subst (λ l. IsSome (first_value l)) (sym (entry_there es p h.0).1.0) refl

  pub none_zero : (k : ℕ) (es : List (ℕ × V)) → k ≡ 0 → first_value (entry_at es k) ≡ None
  none_zero k es e = ap (λ n. first_value (entry_at es n)) e

  -- the index is one of the same names
  pub same_places : (ps new : List ℕ) (es : List (ℕ × V)) → ((q : ℕ) → place_in new q ≡ place_in ps q) → (q : ℕ) → found_by new es q ≡ found_by ps es q
  same_places ps new es same q = ap (λ k. first_value (entry_at es k)) (same q)

  pub same_index : (ps new : List ℕ) (es : List (ℕ × V)) → ((q : ℕ) → place_in new q ≡ place_in ps q) → length new ≤ NEAR → IsIndex ps es → IsIndex new es
  same_index ps new es same le h = record { each = λ q. subst (λ k. IsPlaceOf q k es) (sym (same q)) (h.each q); near = le }

  -- another value at a place
  module _ (ps : List ℕ) (es : List (ℕ × V)) (h : IsIndex ps es) (name p : ℕ) (is : place_in ps name ≡ suc p) where
    here : IsPlaceOf name (suc p) es
    here = subst (λ k. IsPlaceOf name k es) is (h.each name)

    pub at_place : p < length es
    at_place = here.0

    pub held_at : (d : ℕ × V) → found_by ps es name ≡ Some (get_or es p d).1
    held_at d = let k = entry_there es p at_place in ap (λ n. first_value (entry_at es n)) is ∙ ap first_value k.1.0 ∙ ap (λ x. Some x.1) (sym (k.1.1 d))

    module _ (w : V) (d : ℕ × V) where
      abbrev y : ℕ × V
      y = ((get_or es p d).0, w)

      named_so : y.0 ≡ name
      named_so = here.1 d

      kept : (q k : ℕ) → IsPlaceOf q k es → IsPlaceOf q k (set es p y)
      kept q zero g = tt
      kept q (suc j) g = (
        let n = length_set es p y in let lt = g.0 in omega (arith, n),
        λ c. elim (same_or_other j p) [
          | inl same ↦ ap (λ n. (get_or (set es p y) n c).0) same ∙ ap (λ x. x.0) (get_or-set_same es p y c at_place) ∙ named_so ∙ sym (here.1 d) ∙ ap (λ n. (get_or es n d).0) (sym same) ∙ g.1 d
          | inr other ↦ ap (λ x. x.0) (get_or-set_other es p j y c other) ∙ g.1 c
        ],
      )

      pub index_set : IsIndex ps (set es p y)
      index_set = record { each = λ q. kept q (place_in ps q) (h.each q); near = h.near }

      others : (q k : ℕ) → IsPlaceOf q k es → ¬ (q ≡ name) → first_value (entry_at (set es p y) k) ≡ first_value (entry_at es k)
      others q zero g ne = refl
      others q (suc j) g ne = elim (same_or_other j p) [
        | inl same ↦ absurd (ne (sym (g.1 d) ∙ ap (λ n. (get_or es n d).0) same ∙ here.1 d))
        | inr other ↦ ap first_value (entry_other es p j y other)
      ]

      pub set_by : IsSetAt (found_by ps es) name w (found_by ps (set es p y))
      set_by = set_of (found_by ps es) (found_by ps (set es p y)) name w
          (ap (λ n. first_value (entry_at (set es p y) n)) is ∙ ap first_value (entry_same es p y at_place))
          (λ q ne. others q (place_in ps q) (h.each q) ne)

  -- a new name
  module _ (ps : List ℕ) (es : List (ℕ × V)) (h : IsIndex ps es) (name : ℕ) (new : List ℕ) (same : (q : ℕ) → place_in new q ≡ place_in ps q)
      (le : length new ≤ NEAR) (lt : name < length new) (none : place_in ps name ≡ 0) (w : V) where
    abbrev wide : List ℕ
    wide = set new name (suc (length es))

    abbrev more : List (ℕ × V)
    more = es ++ (name, w) ∷ []

    placed_here : place_in wide name ≡ suc (length es)
    placed_here = get_or-set_same new name (suc (length es)) 0 lt

    placed_other : (q : ℕ) → ¬ (q ≡ name) → place_in wide q ≡ place_in ps q
    placed_other q ne = get_or-set_other new name q (suc (length es)) 0 ne ∙ same q

    kept_more : (q k : ℕ) → IsPlaceOf q k es → IsPlaceOf q k more
    kept_more q zero g = tt
    kept_more q (suc j) g = (let n = length_more es (name, w) in let lt = g.0 in omega (arith, n), λ c. ap (λ x. x.0) (get_or_append_left es ((name, w) ∷ []) c j g.0) ∙ g.1 c)

    last_named : IsPlaceOf name (suc (length es)) more
    last_named = (let n = length_more es (name, w) in omega (arith, n), λ c. ap (λ x. x.0) (get_last es (name, w) c))

    length_wide : (ns : List ℕ) (i n : ℕ) → length (set ns i n) ≡ length ns
    length_wide [] i n = refl
    length_wide (x ∷ xs) zero n = refl
    length_wide (x ∷ xs) (suc i) n = ap suc (length_wide xs i n)

    pub index_more : IsIndex wide more
    index_more = record {
      each = λ q. elim (same_or_other q name) [
        | inl is ↦ subst (λ x. IsPlaceOf x (place_in wide x) more) (sym is) (subst (λ k. IsPlaceOf name k more) (sym placed_here) last_named)
        | inr other ↦ subst (λ k. IsPlaceOf q k more) (sym (placed_other q other)) (kept_more q (place_in ps q) (h.each q))
      ];
      near = let n = length_wide new name (suc (length es)) in omega (arith, n);
    }

    found_more : (q k : ℕ) → IsPlaceOf q k es → first_value (entry_at more k) ≡ first_value (entry_at es k)
    found_more q zero g = refl
    found_more q (suc j) g = ap first_value (entry_before es j (name, w) g.0)

    pub set_more : IsSetAt (found_by ps es) name w (found_by wide more)
    set_more = set_of (found_by ps es) (found_by wide more) name w
        (ap (λ k. first_value (entry_at more k)) placed_here ∙ ap first_value (entry_last es (name, w)))
        (λ q ne. ap (λ k. first_value (entry_at more k)) (placed_other q ne) ∙ found_more q (place_in ps q) (h.each q))

    pub nothing_by : found_by ps es name ≡ None
    nothing_by = none_zero (place_in ps name) es none

  -- the least name from one on
  not_some : {Q : Type 0} (o : Option V) → o ≡ None → IsSome o → Q
  not_some o e some = absurd (false≢true (subst (λ x. IsSome x) e some))

  next_by : (ps : List ℕ) (es : List (ℕ × V)) (h : IsIndex ps es) (from : ℕ) (r : Option ℕ) → FindsPlace ps from r
      → MatchOption r ((q : ℕ) → IsSome (value_at (entries_at ps es) q) → q < from) (IsLeastFrom (value_at (entries_at ps es)) from)
  next_by ps es h from None finds = λ q some. elim (cases_lt q from) [
    | inl lt ↦ lt
    | inr le ↦ not_some (value_at (entries_at ps es) q) (shown_by ps es h q ∙ none_zero (place_in ps q) es (finds q le)) some
  ]
  next_by ps es h from (Some name) finds = record {
    held = subst (λ o. IsSome o) (sym (shown_by ps es h name)) (some_at name (place_in ps name) es (h.each name) finds.2);
    reached = finds.0;
    least = λ q some le. elim (cases_lt q name) [
      | inl lt ↦ not_some (value_at (entries_at ps es) q) (shown_by ps es h q ∙ none_zero (place_in ps q) es (finds.3 q le lt)) some
      | inr up ↦ up
    ];
  }

  pub next_now : (ps : List ℕ) (es now : List (ℕ × V)) → entries_at ps es ≡ now → IsIndex ps es → (from : ℕ) (r : Option ℕ) → FindsPlace ps from r
      → MatchOption r ((q : ℕ) → IsSome (value_at now q) → q < from) (IsLeastFrom (value_at now) from)
  next_now ps es now is h from r finds = subst (λ l. MatchOption r ((q : ℕ) → IsSome (value_at l q) → q < from) (IsLeastFrom (value_at l) from)) is (next_by ps es h from r finds)
