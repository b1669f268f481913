-- Entries that are compared, one by one or name by name.
use Rattle.std.proofs.Common.{ℕ, suc, zero, ◌+◌, ◌<◌, ◌≤◌, ◌≡◌, ◌==◌, ◌⊎◌, ◌↔◌, ◌&&◌, not, min, nat_eq, Bool, true, false, List, [], ◌∷◌, ◌++◌, Bor, length, Option, Some, None, IsTrue, refl, sym, ap, ◌∙◌, arith, inl, inr}
use Rattle.std.specs.Option.{is_some, option_eq}
use Rattle.std.specs.Iterator.{YieldsFirstBy}
use Rattle.std.specs.Ordering.{nat_cmp}
use Rattle.std.specs.Cmp.{nat_cmp_total}
use Rattle.std.specs.FinMap as map
use Rattle.std.proofs.lemmas.Bool.{and_parts, cases_lt, eq-eqb, eqb-true, false≢true}
use Rattle.std.proofs.lemmas.Bool.Decides.{nat_tests}
use Rattle.std.proofs.lemmas.List.{get_or_past}
use Rattle.pc_join.specs.ByName.{AscendFrom, is_same_by_name, named, value_at}
use Rattle.pc_join.specs.declared.near.TheConstants.{NEAR}
use Rattle.pc_join.specs.Inner.Equal.{HasSame, are_same, is_same_entry}
use Rattle.pc_join.specs.Inner.Near.{AreNear, FindsPlace, IsIndex, IsPlaceOf, entry_at, first_value, found_by, place_in}
use Rattle.pc_join.proofs.Entries.{at_first, at_later, entries_ascend, none_before, same_or_other}
use Rattle.pc_join.proofs.Both.{lacks_above, now_far, now_near}
use Rattle.pc_join.proofs.Indexed.{entry_there}

unequal : (a b : ℕ) → ¬ (a ≡ b) → nat_eq a b ≡ false
unequal a b h = grind (arith, nat_tests)

both_true : (a b : Bool) → a ≡ true → b ≡ true → (a && b) ≡ true
both_true true b e f = f
both_true false b e f = absurd (false≢true e)

pub same_bools : (a b : Bool) → (a ≡ true → b ≡ true) → (b ≡ true → a ≡ true) → a ≡ b
same_bools true b f g = sym (f refl)
same_bools false true f g = g refl
same_bools false false f g = refl

module _ {V : Type 0} (same : V → V → Bool) where
  abbrev pub SameAt : Option V → Option V → Type 0
  SameAt a b = option_eq same a b ≡ true

  same_as : (a b c d : Option V) → a ≡ c → b ≡ d → SameAt a b → SameAt c d
  same_as a b c d e f h = sym (λ i. option_eq same (e i) (f i)) ∙ h

  -- lists of the same entries have the same under each name
  pub same_each : (es fs : List (ℕ × V)) → are_same same es fs ≡ true → HasSame same (value_at es) (value_at fs)
  same_each [] [] h q = refl
  same_each [] (f ∷ fs) h q = absurd (false≢true h)
  same_each (e ∷ es) [] h q = absurd (false≢true h)
  same_each (e ∷ es) (f ∷ fs) h q =
      let parts = and_parts (is_same_entry same e f) (are_same same es fs) h in
      let here = and_parts (e.0 == f.0) (same e.1 f.1) parts.0 in
      let name : e.0 ≡ f.0 = eqb-true e.0 f.0 here.0 in
      elim (same_or_other q e.0) [
        | inl is ↦ same_as (Some e.1) (Some f.1) (value_at (e ∷ es) q) (value_at (f ∷ fs) q)
            (sym (ap (value_at (e ∷ es)) is ∙ at_first e es)) (sym (ap (value_at (f ∷ fs)) (is ∙ name) ∙ at_first f fs)) here.1
        | inr other ↦ same_as (value_at es q) (value_at fs q) (value_at (e ∷ es) q) (value_at (f ∷ fs) q)
            (sym (at_later e es q other)) (sym (at_later f fs q (λ is. other (is ∙ sym name)))) (same_each es fs parts.1 q)
      ]

  no_first : (e : ℕ × V) (es fs : List (ℕ × V)) → value_at fs e.0 ≡ None → HasSame same (value_at (e ∷ es)) (value_at fs) → ⊥
  no_first e es fs none h = false≢true (same_as (value_at (e ∷ es) e.0) (value_at fs e.0) (Some e.1) None (at_first e es) none (h e.0))

  no_second : (f : ℕ × V) (es fs : List (ℕ × V)) → value_at es f.0 ≡ None → HasSame same (value_at es) (value_at (f ∷ fs)) → ⊥
  no_second f es fs none h = false≢true (same_as (value_at es f.0) (value_at (f ∷ fs) f.0) None (Some f.1) none (at_first f fs) (h f.0))

  same_first : (n m : ℕ) (e f : ℕ × V) (es fs : List (ℕ × V)) → AscendFrom n (e ∷ es) → AscendFrom m (f ∷ fs) → HasSame same (value_at (e ∷ es)) (value_at (f ∷ fs)) → e.0 ≡ f.0
  same_first n m e f es fs a b h = elim (cases_lt e.0 f.0) [
    | inl lt ↦ absurd (no_first e es (f ∷ fs) (none_before f.0 (f ∷ fs) e.0 (omega arith, b.1) lt) h)
    | inr le ↦ elim (cases_lt f.0 e.0) [
      | inl lt ↦ absurd (no_second f (e ∷ es) fs (none_before e.0 (e ∷ es) f.0 (omega arith, a.1) lt) h)
      | inr up ↦ omega arith
    ]
  ]

  -- ascending lists that have the same under each name have the same entries
  pub each_same : (n m : ℕ) (es fs : List (ℕ × V)) → AscendFrom n es → AscendFrom m fs → HasSame same (value_at es) (value_at fs) → are_same same es fs ≡ true
  each_same n m [] [] a b h = refl
  each_same n m [] (f ∷ fs) a b h = absurd (no_second f [] fs refl h)
  each_same n m (e ∷ es) [] a b h = absurd (no_first e es [] refl h)
  each_same n m (e ∷ es) (f ∷ fs) a b h =
      let name : e.0 ≡ f.0 = same_first n m e f es fs a b h in
      let value = same_as (value_at (e ∷ es) e.0) (value_at (f ∷ fs) e.0) (Some e.1) (Some f.1) (at_first e es) (ap (value_at (f ∷ fs)) name ∙ at_first f fs) (h e.0) in
      both_true (is_same_entry same e f) (are_same same es fs)
      (both_true (e.0 == f.0) (same e.1 f.1) (eq-eqb e.0 f.0 name) value)
      (each_same (e.0 + 1) (f.0 + 1) es fs a.1 b.1 (λ q. elim (same_or_other q e.0) [
        | inl is ↦ same_as None None (value_at es q) (value_at fs q)
            (sym (none_before (e.0 + 1) es q a.1 (omega arith))) (sym (none_before (f.0 + 1) fs q b.1 (omega arith))) refl
        | inr other ↦ same_as (value_at (e ∷ es) q) (value_at (f ∷ fs) q) (value_at es q) (value_at fs q)
            (at_later e es q other) (at_later f fs q (λ is. other (is ∙ sym name))) (h q)
      ]))

  -- the same under each name, of what is the same
  pub same_agent : (a b c d : ℕ → Option V) → ((q : ℕ) → a q ≡ c q) → ((q : ℕ) → b q ≡ d q) → HasSame same a b → HasSame same c d
  same_agent a b c d e f h q = same_as (a q) (b q) (c q) (d q) (e q) (f q) (h q)

  pub shown_same : (a b c d : ℕ → Option V) (r : Bool) → ((q : ℕ) → a q ≡ c q) → ((q : ℕ) → b q ≡ d q) → IsTrue r ↔ HasSame same c d → IsTrue r ↔ HasSame same a b
  shown_same a b c d r e f h = (λ t. same_agent c d a b (λ q. sym (e q)) (λ q. sym (f q)) (h.0 t), λ all. h.1 (same_agent a b c d e f all))

  -- values that are found by an index
  place_or : (p : ℕ) (es : List (ℕ × V)) → p ≤ length es → (p ≡ 0) ⊎ ((v : V) × (first_value (entry_at es p) ≡ Some v))
  place_or zero es le = inl refl
  place_or (suc p) es le = let e = entry_there es p (omega arith) in inr (e.0.1, ap first_value e.1.0)

  left_some : (v : V) (o : Option V) → o ≡ Some v → SameAt o None → ⊥
  left_some v o e h = false≢true (same_as o None (Some v) None e refl h)

  right_some : (v : V) (o : Option V) → o ≡ Some v → SameAt None o → ⊥
  right_some v o e h = false≢true (same_as None o None (Some v) refl e h)

  -- at two places of which one is none, the same stands where the other is none too
  pub absent_same : (p q : ℕ) (es fs : List (ℕ × V)) → p ≤ length es → q ≤ length fs → (p ≡ 0) ⊎ (q ≡ 0) → nat_eq p q ≡ option_eq same (first_value (entry_at es p)) (first_value (entry_at fs q))
  absent_same zero zero es fs le lf none = refl
  absent_same zero (suc q) es fs le lf none = let e = entry_there fs q (omega arith) in unequal zero (suc q) (omega arith) ∙ sym (ap (option_eq same None) (ap first_value e.1.0))
  absent_same (suc p) zero es fs le lf none = let e = entry_there es p (omega arith) in unequal (suc p) zero (omega arith) ∙ sym (ap (λ o. option_eq same o None) (ap first_value e.1.0))
  absent_same (suc p) (suc q) es fs le lf (inl none) = absurd (omega arith)
  absent_same (suc p) (suc q) es fs le lf (inr none) = absurd (omega arith)

  pub place_within : (ps : List ℕ) (es : List (ℕ × V)) → IsIndex ps es → (q : ℕ) → place_in ps q ≤ length es
  place_within ps es h q = by_place (place_in ps q) (h.each q)
    where
      by_place : (p : ℕ) → IsPlaceOf q p es → p ≤ length es
      by_place zero g = omega arith
      by_place (suc p) g = let lt = g.0 in omega arith

  module _ (ps : List ℕ) (es : List (ℕ × V)) (qs : List ℕ) (fs : List (ℕ × V)) (h : IsIndex ps es) (g : IsIndex qs fs) (n : ℕ) (is : n ≡ min (length ps) (length qs)) where
    found_none : (ps : List ℕ) (es : List (ℕ × V)) (q : ℕ) → place_in ps q ≡ 0 → found_by ps es q ≡ None
    found_none ps es q e = ap (λ k. first_value (entry_at es k)) e

    pub by_places : ((q : ℕ) → q < n → SameAt (found_by ps es q) (found_by qs fs q)) → FindsPlace ps n None → FindsPlace qs n None → HasSame same (found_by ps es) (found_by qs fs)
    by_places all left right q = elim (cases_lt q n) [
      | inl lt ↦ all q lt
      | inr le ↦ same_as None None (found_by ps es q) (found_by qs fs q) (sym (found_none ps es q (left q le))) (sym (found_none qs fs q (right q le))) refl
    ]

    pub not_left : (k : ℕ) → FindsPlace ps n (Some k) → HasSame same (found_by ps es) (found_by qs fs) → ⊥
    not_left k finds all = elim (place_or (place_in ps k) es (place_within ps es h k)) [
      | inl none ↦ finds.2 none
      | inr v ↦ left_some v.0 (found_by ps es k) v.1 (same_as (found_by ps es k) (found_by qs fs k) (found_by ps es k) None refl
          (found_none qs fs k (get_or_past qs k 0 (let le = finds.0 in let lt = finds.1 in omega arith))) (all k))
    ]

    pub not_right : (k : ℕ) → FindsPlace qs n (Some k) → HasSame same (found_by ps es) (found_by qs fs) → ⊥
    not_right k finds all = elim (place_or (place_in qs k) fs (place_within qs fs g k)) [
      | inl none ↦ finds.2 none
      | inr v ↦ right_some v.0 (found_by qs fs k) v.1 (same_as (found_by ps es k) (found_by qs fs k) None (found_by qs fs k)
          (found_none ps es k (get_or_past ps k 0 (let le = finds.0 in let lt = finds.1 in omega arith))) refl (all k))
    ]

    -- where no name of either list is past those that both have, the names before decide
    pub ended : (o r : Option ℕ) (b : Bool) → is_some o ≡ false → is_some r ≡ not b → ((q : ℕ) → q < n → SameAt (found_by ps es q) (found_by qs fs q))
        → FindsPlace ps n o → FindsPlace qs n r → IsTrue b ↔ HasSame same (found_by ps es) (found_by qs fs)
    ended None None true e f all left right = (λ t. by_places all left right, λ h. refl)
    ended None (Some k) false e f all left right = (λ t. absurd (false≢true t), λ h. absurd (not_right k right h))
    ended None None false e f all left right = absurd (false≢true f)
    ended None (Some k) true e f all left right = absurd (false≢true (sym f))
    ended (Some k) r b e f all left right = absurd (false≢true (sym e))

    pub longer : (o : Option ℕ) → is_some o ≡ true → FindsPlace ps n o → HasSame same (found_by ps es) (found_by qs fs) → ⊥
    longer None e left = absurd (false≢true e)
    longer (Some k) e left = not_left k left

  -- two walks in step
  pub record AreInStep (es fs left right : List (ℕ × V)) : Type 0 where
    pub same_left : are_same same es fs ≡ are_same same left right
    pub ascend : AscendFrom 0 es
    pub others_ascend : AscendFrom 0 fs

  module _ (es fs left right : List (ℕ × V)) where
    pub in_step_start : left ≡ es → right ≡ fs → AscendFrom 0 es → AscendFrom 0 fs → AreInStep es fs left right
    in_step_start e f a b = record { same_left = λ i. are_same same (sym e i) (sym f i); ascend = a; others_ascend = b }

    module _ (step : AreInStep es fs left right) where
      pub in_step_tells : (r : Bool) → r ≡ are_same same left right → IsTrue r ↔ HasSame same (value_at es) (value_at fs)
      in_step_tells r e = (
        λ t. same_each es fs (step.same_left ∙ sym e ∙ t),
        λ all. e ∙ sym step.same_left ∙ each_same 0 0 es fs step.ascend step.others_ascend all,
      )

      module _ (p q : ℕ × V) (more rest : List (ℕ × V)) (is : left ≡ p ∷ more) (there : right ≡ q ∷ rest) where
        ahead : are_same same left right ≡ is_same_entry same p q && are_same same more rest
        ahead = λ i. are_same same (is i) (there i)

        pub in_step_on : (p.0 == q.0) ≡ true → same p.1 q.1 ≡ true → AreInStep es fs more rest
        in_step_on name value = record {
          same_left = step.same_left ∙ ahead ∙ λ i. (name i && value i) && are_same same more rest;
          ascend = step.ascend;
          others_ascend = step.others_ascend;
        }

        pub other_first : ¬ (p.0 ≡ q.0) → HasSame same (value_at es) (value_at fs) → ⊥
        other_first other all = by_test (p.0 == q.0) refl
          where
            by_test : (b : Bool) → (p.0 == q.0) ≡ b → ⊥
            by_test true e = other (eqb-true p.0 q.0 e)
            by_test false e = false≢true ((in_step_tells false (sym (ahead ∙ λ i. (e i && same p.1 q.1) && are_same same more rest))).1 all)

        pub other_value : same p.1 q.1 ≡ false → HasSame same (value_at es) (value_at fs) → ⊥
        other_value e all = by_test (p.0 == q.0) refl
          where
            by_test : (b : Bool) → (p.0 == q.0) ≡ b → ⊥
            by_test true f = false≢true ((in_step_tells false (sym (ahead ∙ λ i. (f i && e i) && are_same same more rest))).1 all)
            by_test false f = false≢true ((in_step_tells false (sym (ahead ∙ λ i. (f i && same p.1 q.1) && are_same same more rest))).1 all)

      pub shorter : (p : ℕ × V) (more : List (ℕ × V)) → left ≡ p ∷ more → right ≡ [] → HasSame same (value_at es) (value_at fs) → ⊥
      shorter p more is none all = false≢true ((in_step_tells false (sym (λ i. are_same same (is i) (none i)))).1 all)

      pub walked_both : (o : Option (ℕ × Bor V)) (rest : List (ℕ × V)) (r : Bool) → left ≡ [] → YieldsFirstBy named (λ l. l) right o rest → is_some o ≡ not r
          → IsTrue r ↔ HasSame same (value_at es) (value_at fs)
      walked_both None rest true none steps e = in_step_tells true (sym (λ i. are_same same (none i) (steps.0 i)))
      walked_both None rest false none steps e = absurd (false≢true e)
      walked_both (Some q) rest true none steps e = absurd (false≢true (sym e))
      walked_both (Some q) rest false none steps e = in_step_tells false (sym (λ i. are_same same (none i) (steps i)))

  -- near names and the others have the same exactly where all names have
  module _ (near far now others_near others_far others : List (ℕ × V)) (is : (near ++ far) ≡ now) (fits : AreNear near × AscendFrom NEAR far)
      (others_is : (others_near ++ others_far) ≡ others) (others_fits : AreNear others_near × AscendFrom NEAR others_far) where
    none_far : (far : List (ℕ × V)) → AscendFrom NEAR far → (q : ℕ) → q < NEAR → value_at far q ≡ None
    none_far far up q lt = none_before NEAR far q up lt

    none_near : (near : List (ℕ × V)) → AreNear near → (q : ℕ) → NEAR ≤ q → value_at near q ≡ None
    none_near near low q le = lacks_above NEAR near q low.near le

    pub both_parts : HasSame same (value_at near) (value_at others_near) → HasSame same (value_at far) (value_at others_far) → HasSame same (value_at now) (value_at others)
    both_parts low high q = elim (cases_lt q NEAR) [
      | inl lt ↦ same_as (value_at near q) (value_at others_near q) (value_at now q) (value_at others q)
          (sym (now_near near far now is fits q lt)) (sym (now_near others_near others_far others others_is others_fits q lt)) (low q)
      | inr le ↦ same_as (value_at far q) (value_at others_far q) (value_at now q) (value_at others q)
          (sym (now_far near far now is fits q le)) (sym (now_far others_near others_far others others_is others_fits q le)) (high q)
    ]

    pub near_part : HasSame same (value_at now) (value_at others) → HasSame same (value_at near) (value_at others_near)
    near_part all q = elim (cases_lt q NEAR) [
      | inl lt ↦ same_as (value_at now q) (value_at others q) (value_at near q) (value_at others_near q)
          (now_near near far now is fits q lt) (now_near others_near others_far others others_is others_fits q lt) (all q)
      | inr le ↦ same_as None None (value_at near q) (value_at others_near q) (sym (none_near near fits.0 q le)) (sym (none_near others_near others_fits.0 q le)) refl
    ]

    pub far_part : HasSame same (value_at now) (value_at others) → HasSame same (value_at far) (value_at others_far)
    far_part all q = elim (cases_lt q NEAR) [
      | inl lt ↦ same_as None None (value_at far q) (value_at others_far q) (sym (none_far far fits.1 q lt)) (sym (none_far others_far others_fits.1 q lt)) refl
      | inr le ↦ same_as (value_at now q) (value_at others q) (value_at far q) (value_at others_far q)
          (now_far near far now is fits q le) (now_far others_near others_far others others_is others_fits q le) (all q)
    ]

  -- maps that have the same under each name
  pub maps_same : (es fs : List (ℕ × V)) (a b : map.FinMap nat_cmp V) (r : Bool) → map.from_entries es ≡ a → map.from_entries fs ≡ b
      → IsTrue r ↔ HasSame same (value_at es) (value_at fs) → r ≡ is_same_by_name same a b
  maps_same es fs a b r e f h = same_bools r (is_same_by_name same a b)
      (λ t. each_same 0 0 (map.entries a) (map.entries b) (entries_ascend a) (entries_ascend b)
      (same_agent (value_at es) (value_at fs) (value_at (map.entries a)) (value_at (map.entries b)) (in_map es a e) (in_map fs b f) (h.0 t)))
      (λ t. h.1 (same_agent (value_at (map.entries a)) (value_at (map.entries b)) (value_at es) (value_at fs) (λ q. sym (in_map es a e q)) (λ q. sym (in_map fs b f q))
      (same_each (map.entries a) (map.entries b) t)))
    where
      in_map : (xs : List (ℕ × V)) (m : map.FinMap nat_cmp V) → map.from_entries xs ≡ m → (q : ℕ) → value_at xs q ≡ value_at (map.entries m) q
      in_map xs m made q = sym (map.get-from_entries nat_cmp_total xs q) ∙ ap (λ x. map.get x q) made ∙ map.get-entries m q
