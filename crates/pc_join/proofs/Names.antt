-- Walks over values by name.
use Rattle.std.proofs.Common.{ℕ, zero, suc, ◌+◌, get_or, ◌≡◌, ◌==◌, ◌⊎◌, ◌||◌, ◌↔◌, Bool, true, false, cond, List, [], ◌∷◌, length, Option, Some, None, IsSome, IfSome, IsTrue, refl, sym, ap, ◌∙◌, subst, arith, inl, inr}
use Rattle.std.specs.Ordering.{nat_cmp, is_eq}
use Rattle.std.specs.List.{All}
use Rattle.std.specs.Map.{lookup}
use Rattle.std.specs.FinMap as map
use Rattle.std.specs.Cmp.{nat_cmp_total}
use Rattle.std.specs.BTreeMap.{is_at}
use Rattle.std.proofs.lemmas.Bool.{false≢true}
use Rattle.std.proofs.lemmas.Bool.Decides.{nat_tests}
use Rattle.pc_join.specs.Sets.{Members, Source, IsWithin, IsVoid, IsUnion, IsBetween, source_at}
use Rattle.pc_join.specs.ByName.{AscendFrom, known_in, members_by_name, HoldsNoEmpty, HasShortNames, IsOfByName, value_at}
use Rattle.pc_join.specs.Inner.Puts.{IsJoinedAt, IsPut, IsWholeAt, HasNoVoid, IsCovered}
use Rattle.pc_join.proofs.Puts.{joined_nothing, shown, joined_shown, whole_shown}
use Rattle.pc_join.proofs.Entries.{ascend_zero, none_before}
use Rattle.pc_join.proofs.Standing.{above}
use Rattle.pc_messages.proofs.Bools.{or_left, or_right}

-- what the entries that are left have under a name
abbrev pub left_at : {V : Type 0} → List (ℕ × V) → ℕ → Option V
left_at left q = lookup (is_at (nat_cmp q)) left

tied : (a b : ℕ) → is_eq (nat_cmp a b) ≡ (a == b)
tied a b = grind (arith, nat_tests)

same_name : (a b : ℕ) → (a ≡ b) ⊎ (¬ (a ≡ b))
same_name a b = grind arith

left_here : {V : Type 0} (k : ℕ) (v : V) (left : List (ℕ × V)) → left_at ((k, v) ∷ left) k ≡ Some v
left_here k v left = ap (λ b. cond b (Some v) (left_at left k)) (tied k k ∙ itself k)
  where
    itself : (a : ℕ) → (a == a) ≡ true
    itself a = grind (arith, nat_tests)

left_other : {V : Type 0} (k : ℕ) (v : V) (left : List (ℕ × V)) (q : ℕ) → ¬ (q ≡ k) → left_at ((k, v) ∷ left) q ≡ left_at left q
left_other k v left q ne = ap (λ b. cond b (Some v) (left_at left q)) (tied q k ∙ apart q k ne)
  where
    apart : (a b : ℕ) → ¬ (a ≡ b) → (a == b) ≡ false
    apart a b ne = grind (arith, nat_tests)

-- each entry that is left is what the map has
abbrev pub AreFound : {V : Type 0} → (ℕ → Option V) → List (ℕ × V) → Type 0
AreFound values left = All (λ e. values e.0 ≡ Some e.1) left

found_first : {V : Type 0} (values : ℕ → Option V) (k : ℕ) (v : V) (left : List (ℕ × V)) → AreFound values ((k, v) ∷ left) → values k ≡ Some v
found_first values k v left h = h 0 (k, v) (omega arith)

found_rest : {V : Type 0} (values : ℕ → Option V) (k : ℕ) (v : V) (left : List (ℕ × V)) → AreFound values ((k, v) ∷ left) → AreFound values left
found_rest values k v left h i d lt = h (suc i) d (omega arith)

-- each entry of those that ascend is found
pub found_all : {V : Type 0} (n : ℕ) (es : List (ℕ × V)) → AscendFrom n es → AreFound (value_at es) es
found_all n [] h i d lt = absurd (omega arith)
found_all n (e ∷ es) h zero d lt = left_here e.0 e.1 es
found_all n (e ∷ es) h (suc i) d lt =
    left_other e.0 e.1 es (get_or es i d).0 (λ same. let k = above (e.0 + 1) es i d h.1 (omega arith) in absurd (omega arith))
    ∙ found_all (e.0 + 1) es h.1 i d (omega arith)

by_name : (P : ℕ → Type 0) (name : ℕ) → P name → ((q : ℕ) → ¬ (q ≡ name) → P q) → (q : ℕ) → P q
by_name P name here others q = elim (same_name q name) [ inl e ↦ subst P (sym e) here | inr ne ↦ others q ne ]

or_cases : {P : Type 0} (a b : Bool) → (a || b) ≡ true → (a ≡ true → P) → (b ≡ true → P) → P
or_cases true b e f g = f refl
or_cases false b e f g = g e

or_false : (a : Bool) → (a || false) ≡ true → a ≡ true
or_false true e = refl
or_false false e = absurd (false≢true e)

-- how far the values of another map have been joined to those of old
pub record IsJoining {V : Type 0} (known : V → Members) (is_of : V → Source → Type 0) (old other now : ℕ → Option V) (left : List (ℕ × V)) : Type 0 where
  pub part : (q : ℕ) → IsJoinedAt known is_of (old q) (other q) (now q)
  pub rest : (q : ℕ) (m : List ℕ) → known_in known (other q) m ≡ true → (known_in known (now q) m || known_in known (left_at left q) m) ≡ true
  pub found : AreFound other left

module _ {V : Type 0} (known : V → Members) (is_of : V → Source → Type 0) where
  pub joining_start : (old : ℕ → Option V) (other : List (ℕ × V)) (left : List (ℕ × V)) → left ≡ other → AreFound (value_at other) other → IsJoining known is_of old (value_at other) old left
  joining_start old other left e h = record {
    part = λ q. joined_nothing known is_of (old q) (value_at other q);
    rest = λ q m k. or_right (known_in known (old q) m) (known_in known (left_at left q) m) (ap (λ es. known_in known (left_at es q) m) e ∙ k);
    found = subst (λ es. AreFound (value_at other) es) (sym e) h;
  }

  -- two joins at one name, of which the second takes what the first may have taken
  joined_twice : (old other now new : Option V) (v : V) → other ≡ Some v → IsJoinedAt known is_of old other now → IsJoinedAt known is_of now (Some v) new → IsJoinedAt known is_of old other new
  joined_twice old other now new v e h g = record {
    between = record {
      at_least = λ m k. g.between.at_least m (h.between.at_least m k);
      at_most = λ m k. or_cases (known_in known now m) (known v m) (g.between.at_most m k)
          (λ a. h.between.at_most m a)
          (λ b. or_right (known_in known old m) (known_in known other m) (ap (λ o. known_in known o m) e ∙ b));
    };
    of_source = λ s a b. g.of_source s (h.of_source s a b) (subst (λ o. IfSome o (λ v. is_of v s)) e b);
    not_void = λ a b. g.not_void (h.not_void a b) (subst (λ o. IfSome o (λ v. ¬ IsVoid (known v))) e b);
  }

  pub joining_on : (old other now new : ℕ → Option V) (left after : List (ℕ × V)) (k : ℕ) (v : V) → left ≡ (k, v) ∷ after → IsJoining known is_of old other now left
      → IsPut known is_of now k v new → IsWholeAt known (now k) (Some v) (new k) → IsJoining known is_of old other new after
  joining_on old other now new left after k v e h put whole =
      let found : AreFound other ((k, v) ∷ after) = subst (λ es. AreFound other es) e h.found in
      let here : other k ≡ Some v = found_first other k v after found in
      record {
        part = by_name (λ q. IsJoinedAt known is_of (old q) (other q) (new q)) k
            (joined_twice (old k) (other k) (now k) (new k) v here (h.part k) put.here)
            (λ q ne. subst (λ o. IsJoinedAt known is_of (old q) (other q) o) (sym (put.others q ne)) (h.part q));
        rest = by_name (λ q. (m : List ℕ) → known_in known (other q) m ≡ true → (known_in known (new q) m || known_in known (left_at after q) m) ≡ true) k
            (λ m a. or_left (known_in known (new k) m) (known_in known (left_at after k) m)
            (whole m ∙ or_right (known_in known (now k) m) (known v m) (sym (ap (λ o. known_in known o m) here) ∙ a)))
            (λ q ne m a. ap (λ o. known_in known o m || known_in known (left_at after q) m) (put.others q ne)
            ∙ ap (λ o. known_in known (now q) m || known_in known o m) (sym (ap (λ es. left_at es q) e ∙ left_other k v after q ne))
            ∙ h.rest q m a);
        found = found_rest other k v after found;
      }

  both_ways : (a b c : Bool) → (a ≡ true → c ≡ true) → (b ≡ true → c ≡ true) → (c ≡ true → (a || b) ≡ true) → c ≡ (a || b)
  both_ways true b c f g h = f refl
  both_ways false true c f g h = g refl
  both_ways false false true f g h = absurd (false≢true (h refl))
  both_ways false false false f g h = refl

  pub joining_done : (old other now : ℕ → Option V) (left : List (ℕ × V)) → left ≡ [] → IsJoining known is_of old other now left → (q : ℕ) → IsWholeAt known (old q) (other q) (now q)
  joining_done old other now left e h q m =
      both_ways (known_in known (old q) m) (known_in known (other q) m) (known_in known (now q) m) ((h.part q).between.at_least m)
      (λ b. or_false (known_in known (now q) m) (ap (λ es. known_in known (now q) m || known_in known (left_at es q) m) (sym e) ∙ h.rest q m b))
      ((h.part q).between.at_most m)

  -- under memory's want in the middle of a walk
  pub joining_stops : (old other now new : ℕ → Option V) (left after : List (ℕ × V)) (k : ℕ) (v : V) → left ≡ (k, v) ∷ after → IsJoining known is_of old other now left
      → IsPut known is_of now k v new → (q : ℕ) → IsJoinedAt known is_of (old q) (other q) (new q)
  joining_stops old other now new left after k v e h put =
      let here : other k ≡ Some v = found_first other k v after (subst (λ es. AreFound other es) e h.found) in
      by_name (λ q. IsJoinedAt known is_of (old q) (other q) (new q)) k
      (joined_twice (old k) (other k) (now k) (new k) v here (h.part k) put.here)
      (λ q ne. subst (λ o. IsJoinedAt known is_of (old q) (other q) o) (sym (put.others q ne)) (h.part q))

-- how far a walk has covered
pub record IsCovering {V : Type 0} (known : V → Members) (values other : ℕ → Option V) (left : List (ℕ × V)) : Type 0 where
  pub done : (q : ℕ) → left_at left q ≡ None → IsWithin (known_in known (other q)) (known_in known (values q))
  pub found : AreFound other left

module _ {V : Type 0} (known : V → Members) where
  pub covering_start : (values : ℕ → Option V) (other : List (ℕ × V)) (left : List (ℕ × V)) → left ≡ other → AreFound (value_at other) other → IsCovering known values (value_at other) left
  covering_start values other left e h = record {
    done = λ q none m a. absurd (false≢true (ap (λ o. known_in known o m) (sym (ap (λ es. left_at es q) (sym e) ∙ none)) ∙ a));
    found = subst (λ es. AreFound (value_at other) es) (sym e) h;
  }

  pub covering_on : (values other : ℕ → Option V) (left after : List (ℕ × V)) (k : ℕ) (v : V) → left ≡ (k, v) ∷ after → IsCovering known values other left
      → IsWithin (known v) (known_in known (values k)) → IsCovering known values other after
  covering_on values other left after k v e h w =
      let found : AreFound other ((k, v) ∷ after) = subst (λ es. AreFound other es) e h.found in
      record {
        done = by_name (λ q. left_at after q ≡ None → IsWithin (known_in known (other q)) (known_in known (values q))) k
            (λ none. subst (λ o. IsWithin (known_in known o) (known_in known (values k))) (sym (found_first other k v after found)) w)
            (λ q ne none. h.done q (ap (λ es. left_at es q) e ∙ left_other k v after q ne ∙ none));
        found = found_rest other k v after found;
      }

  pub covering_done : (values other : ℕ → Option V) (left : List (ℕ × V)) → left ≡ [] → IsCovering known values other left → IsCovered known other values
  covering_done values other left e h q = h.done q (ap (λ es. left_at es q) e)

  pub covering_found : (values other : ℕ → Option V) (left after : List (ℕ × V)) (k : ℕ) (v : V) → left ≡ (k, v) ∷ after → IsCovering known values other left → other k ≡ Some v
  covering_found values other left after k v e h = found_first other k v after (subst (λ es. AreFound other es) e h.found)

-- how far a walk has copied
pub record IsCopying {V : Type 0} (values now : ℕ → Option V) (left : List (ℕ × V)) : Type 0 where
  pub done : (q : ℕ) → left_at left q ≡ None → now q ≡ values q
  pub found : AreFound values left
  pub ascend : AscendFrom 0 left
  pub fresh : (q : ℕ) (v : V) → left_at left q ≡ Some v → now q ≡ None

module _ {V : Type 0} where
  none_some : {Q : Type 0} {v : V} → ◌≡◌ {A = Option V} (Some v) None → Q
  none_some e = cc

  pub copying_start : (values now left : List (ℕ × V)) → left ≡ values → now ≡ [] → AscendFrom 0 values → IsCopying (value_at values) (value_at now) left
  copying_start values now left e f h = record {
    done = λ q none. ap (λ es. left_at es q) f ∙ sym (ap (λ es. left_at es q) (sym e) ∙ none);
    found = subst (λ es. AreFound (value_at values) es) (sym e) (found_all 0 values h);
    ascend = subst (AscendFrom 0) (sym e) h;
    fresh = λ q v some. ap (λ es. left_at es q) f;
  }

  pub copying_fresh : (values now : ℕ → Option V) (left after : List (ℕ × V)) (k : ℕ) (v : V) → left ≡ (k, v) ∷ after → IsCopying values now left → now k ≡ None
  copying_fresh values now left after k v e h = h.fresh k v (ap (λ es. left_at es k) e ∙ left_here k v after)

  pub copying_on : (values now new : ℕ → Option V) (left after : List (ℕ × V)) (k : ℕ) (v : V) → left ≡ (k, v) ∷ after → IsCopying values now left
      → ((q : ℕ) → new q ≡ cond (is_eq (nat_cmp k q)) (Some v) (now q)) → IsCopying values new after
  copying_on values now new left after k v e h set =
      let found : AreFound values ((k, v) ∷ after) = subst (λ es. AreFound values es) e h.found in
      record {
        done = by_name (λ q. left_at after q ≡ None → new q ≡ values q) k
            (λ none. set k ∙ ap (λ b. cond b (Some v) (now k)) (itself k) ∙ sym (found_first values k v after found))
            (λ q ne none. set q ∙ ap (λ b. cond b (Some v) (now q)) (not_tied k q ne) ∙ h.done q (ap (λ es. left_at es q) e ∙ left_other k v after q ne ∙ none));
        found = found_rest values k v after found;
        ascend = ascend_zero (k + 1) after (ascends h).1;
        fresh = λ q w some. elim (same_name q k) [
          | inl same ↦ none_some (sym some ∙ none_before (k + 1) after q (ascends h).1 (omega (arith, same)))
          | inr other ↦ set q ∙ ap (λ b. cond b (Some v) (now q)) (not_tied k q other) ∙ h.fresh q w (ap (λ es. left_at es q) e ∙ left_other k v after q other ∙ some)
        ];
      }
    where
      ascends : IsCopying values now left → AscendFrom 0 ((k, v) ∷ after)
      ascends h = subst (AscendFrom 0) e h.ascend

      itself : (a : ℕ) → is_eq (nat_cmp a a) ≡ true
      itself a = grind (arith, nat_tests)

      not_tied : (a b : ℕ) → ¬ (b ≡ a) → is_eq (nat_cmp a b) ≡ false
      not_tied a b ne = grind (arith, nat_tests)

  pub copying_done : (values now : ℕ → Option V) (left : List (ℕ × V)) → left ≡ [] → IsCopying values now left → (q : ℕ) → now q ≡ values q
  copying_done values now left e h q = h.done q (ap (λ es. left_at es q) e)

pub covered_at : {V : Type 0} (known : V → Members) (values other : ℕ → Option V) (k : ℕ) (v : V) → other k ≡ Some v → IsCovered known other values → IsWithin (known v) (known_in known (values k))
covered_at known values other k v e all = subst (λ o. IsWithin (known_in known o) (known_in known (values k))) e (all k)

-- the maps that are shown
module _ {V : Type 0} (known : V → Members) (is_of : V → Source → Type 0) (old other new : List (ℕ × V)) (a b : map.FinMap nat_cmp V) (e : map.from_entries {R = nat_cmp} old ≡ a) (f : map.from_entries {R = nat_cmp} other ≡ b)
    (part : (q : ℕ) → IsJoinedAt known is_of (value_at old q) (value_at other q) (value_at new q)) where
  at_old : (q : ℕ) → map.get a q ≡ value_at old q
  at_old q = ap (λ m. map.get m q) (sym e) ∙ shown old q

  at_other : (q : ℕ) → map.get b q ≡ value_at other q
  at_other q = ap (λ m. map.get m q) (sym f) ∙ shown other q

  part_at : (q : ℕ) → IsJoinedAt known is_of (map.get a q) (map.get b q) (map.get (map.from_entries {R = nat_cmp} new) q)
  part_at q = joined_shown known is_of old new a e q (map.get b q) (subst (λ o. IsJoinedAt known is_of (value_at old q) o (value_at new q)) (sym (at_other q)) (part q))

  from_some : {A : Type 0} (o : Option A) (P : A → Type 0) → ((x : A) → o ≡ Some x → P x) → IfSome o P
  from_some None P f = tt
  from_some (Some x) P f = f x refl

  at_some : {A : Type 0} (o : Option A) (P : A → Type 0) (x : A) → o ≡ Some x → IfSome o P → P x
  at_some o P x e h = subst (λ y. IfSome y P) e h

  pub all_union : ((q : ℕ) → IsWholeAt known (value_at old q) (value_at other q) (value_at new q)) → IsUnion (members_by_name known a) (members_by_name known b) (members_by_name known (map.from_entries new))
  all_union whole [] = refl
  all_union whole (t ∷ m) = whole_shown known is_of old new a e t (map.get b t) (subst (λ o. IsWholeAt known (value_at old t) o (value_at new t)) (sym (at_other t)) (whole t)) m

  at_least_all : IsWithin (members_by_name known a) (members_by_name known (map.from_entries new))
  at_least_all [] k = k
  at_least_all (t ∷ m) k = (part_at t).between.at_least m k

  at_most_all : IsWithin (members_by_name known (map.from_entries new)) (λ m. members_by_name known a m || members_by_name known b m)
  at_most_all [] k = k
  at_most_all (t ∷ m) k = (part_at t).between.at_most m k

  pub all_between : IsBetween (members_by_name known a) (members_by_name known b) (members_by_name known (map.from_entries new))
  all_between = record { at_least = at_least_all; at_most = at_most_all }

  pub all_kept : HoldsNoEmpty known (map.from_entries old) → HoldsNoEmpty known (map.from_entries other) → HoldsNoEmpty known (map.from_entries new)
  all_kept h g q v some =
      at_some (map.get (map.from_entries {R = nat_cmp} new) q) (λ v. ¬ IsVoid (known v)) v some
      ((part_at q).not_void (from_some (map.get a q) (λ v. ¬ IsVoid (known v)) (subst (λ m. HoldsNoEmpty known m) e h q)) (from_some (map.get b q) (λ v. ¬ IsVoid (known v)) (subst (λ m. HoldsNoEmpty known m) f g q)))

  pub all_of_source : HoldsNoEmpty known (map.from_entries new) → (s : Source) → IsOfByName known is_of a s → IsOfByName known is_of b s → IsOfByName known is_of (map.from_entries new) s
  all_of_source kept s of_a of_b = record {
    kept = kept;
    each = λ q v some. at_some (map.get (map.from_entries {R = nat_cmp} new) q) (λ v. is_of v (source_at s q)) v some
        ((part_at q).of_source (source_at s q) (from_some (map.get a q) (λ v. is_of v (source_at s q)) (of_a.each q)) (from_some (map.get b q) (λ v. is_of v (source_at s q)) (of_b.each q)));
  }

  some_or : (q : ℕ) (x y z : Option V) → IsJoinedAt known is_of x y z → IsSome z → IsSome x ⊎ IsSome y
  some_or q (Some v) y z h k = inl refl
  some_or q None (Some w) z h k = inr refl
  some_or q None None None h k = absurd (false≢true k)
  some_or q None None (Some v) h k = absurd (h.not_void tt tt (λ m. void_of (known v m) (h.between.at_most m)))
    where
      void_of : (b : Bool) → (b ≡ true → false ≡ true) → b ≡ false
      void_of true g = absurd (false≢true (g refl))
      void_of false g = refl

  pub all_short : HasShortNames (map.from_entries {R = nat_cmp} old) → HasShortNames (map.from_entries {R = nat_cmp} other) → HasShortNames (map.from_entries {R = nat_cmp} new)
  all_short h g q some =
      elim (some_or q (map.get a q) (map.get b q) (map.get (map.from_entries {R = nat_cmp} new) q) (part_at q) some) [
        | inl k ↦ h q (subst (λ m. IsSome (map.get m q)) (sym e) k)
        | inr k ↦ g q (subst (λ m. IsSome (map.get m q)) (sym f) k)
      ]

-- covering, of the maps that are shown
module _ {V : Type 0} (known : V → Members) (values other : List (ℕ × V)) (a b : map.FinMap nat_cmp V) (e : map.from_entries {R = nat_cmp} values ≡ a) (f : map.from_entries {R = nat_cmp} other ≡ b) where
  in_shown : (m : List (ℕ × V)) (x : map.FinMap nat_cmp V) → map.from_entries {R = nat_cmp} m ≡ x → (q : ℕ) → map.get x q ≡ value_at m q
  in_shown m x h q = ap (λ y. map.get y q) (sym h) ∙ shown m q

  covered_within : IsCovered known (value_at other) (value_at values) → IsWithin (members_by_name known b) (members_by_name known a)
  covered_within h [] k = k
  covered_within h (t ∷ m) k = ap (λ o. known_in known o m) (in_shown values a e t) ∙ h t m (sym (ap (λ o. known_in known o m) (in_shown other b f t)) ∙ k)

  within_covered : IsWithin (members_by_name known b) (members_by_name known a) → IsCovered known (value_at other) (value_at values)
  within_covered h t m k = sym (ap (λ o. known_in known o m) (in_shown values a e t)) ∙ h (t ∷ m) (ap (λ o. known_in known o m) (in_shown other b f t) ∙ k)

  pub covers_shown : (r : Bool) → IsTrue r ↔ IsCovered known (value_at other) (value_at values) → IsTrue r ↔ IsWithin (members_by_name known b) (members_by_name known a)
  covers_shown r h = (λ t. covered_within (h.0 t), λ w. h.1 (within_covered w))

-- no value is empty, of the tree
pub kept_tree : {V : Type 0} (known : V → Members) (m : List (ℕ × V)) → HoldsNoEmpty known (map.from_entries m) → HasNoVoid known (value_at m)
kept_tree known m h q v some = h q v (shown m q ∙ some)

pub kept_value : {V : Type 0} (known : V → Members) (m : List (ℕ × V)) (x : map.FinMap nat_cmp V) → map.from_entries {R = nat_cmp} m ≡ x → HoldsNoEmpty known (map.from_entries m) → HoldsNoEmpty known x
kept_value known m x e h = subst (λ y. HoldsNoEmpty known y) e h

-- a map that copies
pub copy_same : {V : Type 0} (m n : List (ℕ × V)) (x : map.FinMap nat_cmp V) → map.from_entries {R = nat_cmp} m ≡ x → ((q : ℕ) → value_at n q ≡ value_at m q) → map.from_entries {R = nat_cmp} n ≡ x
copy_same m n x e h = map.same_map nat_cmp_total map.nat_cmp-IsAntisymmetric _ _ (λ q. shown n q ∙ h q ∙ sym (shown m q)) ∙ e

-- a map with no entries knows nothing, and each other knows something
void_get : {V : Type 0} (known : V → Members) (x : map.FinMap nat_cmp V) → ((q : ℕ) → map.get x q ≡ None) → IsVoid (members_by_name known x)
void_get known x h [] = refl
void_get known x h (t ∷ m) = ap (λ o. known_in known o m) (h t)

pub no_entries : {V : Type 0} (es : List (ℕ × V)) → length es ≡ 0 → es ≡ []
no_entries [] e = refl
no_entries (x ∷ es) e = absurd (omega arith)

entry_known : {V : Type 0} (known : V → Members) (x : map.FinMap nat_cmp V) (es : List (ℕ × V)) → map.from_entries {R = nat_cmp} es ≡ x → HoldsNoEmpty known x → IsVoid (members_by_name known x) → length es ≡ 0
entry_known known x [] e h void = refl
entry_known known x ((k, v) ∷ es) e h void =
    let there : map.get x k ≡ Some v = ap (λ m. map.get m k) (sym e) ∙ map.get-from_entries nat_cmp_total ((k, v) ∷ es) k ∙ left_here k v es in
    absurd (h k v there (λ m. sym (ap (λ o. known_in known o m) there) ∙ void (k ∷ m)))

pub is_empty_shown : {V : Type 0} (known : V → Members) (m : List (ℕ × V)) (x : map.FinMap nat_cmp V) (r : Bool) → map.from_entries {R = nat_cmp} m ≡ x → HoldsNoEmpty known x → IsTrue r ↔ (length m ≡ 0) → IsTrue r ↔ IsVoid (members_by_name known x)
is_empty_shown known m x r e h d = (
  λ t. void_get known x (λ q. ap (λ y. map.get y q) (sym e) ∙ shown m q ∙ ap (λ es. map.find nat_cmp q es) (no_entries m (d.0 t))),
  λ void. d.1 (entry_known known x m e h void),
)

pub copy_kept : {V : Type 0} (known : V → Members) (m n : List (ℕ × V)) → HoldsNoEmpty known (map.from_entries m) × HasShortNames (map.from_entries {R = nat_cmp} m) → ((q : ℕ) → value_at n q ≡ value_at m q) → HoldsNoEmpty known (map.from_entries n) × HasShortNames (map.from_entries {R = nat_cmp} n)
copy_kept known m n h same =
    let e : map.from_entries {R = nat_cmp} n ≡ map.from_entries m = copy_same m n (map.from_entries m) refl same in
    (subst (λ y. HoldsNoEmpty known y) (sym e) h.0, subst (λ y. HasShortNames y) (sym e) h.1)
