-- Entries by ascending names.
use Rattle.std.proofs.Common.{ℕ, suc, ◌+◌, ◌<◌, ◌≤◌, ◌≡◌, ◌&&◌, ◌⊎◌, ◌^◌, Bool, true, false, cond, List, [], ◌∷◌, Option, Some, None, IsSome, refl, sym, ap, subst, ◌∙◌, arith, inl, inr}
use Rattle.std.proofs.Math.Dec.{T}
use Rattle.std.specs.List.{All, AllByRecursion}
use Rattle.std.specs.List.Sorted.{IsStrictlySortedBy}
use Rattle.std.specs.Map.{keys_of}
use Rattle.std.specs.declared.cmp.Ordering.{Ordering}
use Rattle.std.specs.declared.cmp.Ordering.TheVariants.{Less}
use Rattle.std.specs.Ordering.{nat_cmp, is_eq, is_lt}
use Rattle.std.specs.Cmp.{nat_cmp_total}
use Rattle.std.specs.FinMap as map
use Rattle.std.specs.FinMap.Entries.{below_all}
use Rattle.std.specs.BTreeMap as tree
use Rattle.std.specs.BTreeMap.{BTreeMap}
use Rattle.std.proofs.lemmas.Bool.{false≢true}
use Rattle.std.proofs.lemmas.Bool.Decides.{nat_tests}
use Rattle.pc_join.specs.Sets.{Members, IsVoid}
use Rattle.pc_join.specs.ByName.{AscendFrom, HoldsNoEmpty, HasShortNames, value_at}

-- the orders of std
both : (a b : Bool) → T a → T b → T (a && b)
both true b p q = q
both false b p q = absurd p

first : (a b : Bool) → T (a && b) → T a
first true b p = tt
first false b p = p

second : (a b : Bool) → T (a && b) → T b
second true b p = p
second false b p = absurd p

is_so : (b : Bool) → T b → b ≡ true
is_so true p = refl
is_so false p = absurd p

so_is : (b : Bool) → b ≡ true → T b
so_is true p = tt
so_is false p = absurd (false≢true p)

less_of : (a b : ℕ) → is_lt (nat_cmp a b) ≡ true → a + 1 ≤ b
less_of a b h = grind (arith, nat_tests)

less_test : (o : Ordering) → o ≡ Less → T (is_lt o)
less_test o e = subst (λ x. T (is_lt x)) (sym e) tt

pub same_or_other : (a b : ℕ) → (a ≡ b) ⊎ (¬ (a ≡ b))
same_or_other a b = grind arith

module _ {V : Type 0} where
  below_each : (n : ℕ) (es : List (ℕ × V)) → AllByRecursion (λ k. nat_cmp n k ≡ Less) (keys_of es) → T (below_all nat_cmp n es)
  below_each n [] h = tt
  below_each n (e ∷ es) h = both (is_lt (nat_cmp n e.0)) (below_all nat_cmp n es) (less_test (nat_cmp n e.0) h.0) (below_each n es h.1)

  sorted_each : (es : List (ℕ × V)) → IsStrictlySortedBy nat_cmp (keys_of es) → T (map.is_sorted nat_cmp es)
  unfolding IsStrictlySortedBy
  sorted_each [] h = tt
  sorted_each (e ∷ es) h = both (below_all nat_cmp e.0 es) (map.is_sorted nat_cmp es) (below_each e.0 es h.0) (sorted_each es h.1)

  ascend_on : (n : ℕ) (e : ℕ × V) (es : List (ℕ × V)) → n ≤ e.0 → T (map.is_sorted nat_cmp (e ∷ es)) → AscendFrom n (e ∷ es)
  ascend_on n e [] le sorted = (le, tt)
  ascend_on n e (f ∷ fs) le sorted = (
    le,
    ascend_on (e.0 + 1) f fs
        (less_of e.0 f.0 (is_so (is_lt (nat_cmp e.0 f.0)) (first (is_lt (nat_cmp e.0 f.0)) (below_all nat_cmp e.0 fs) (first (below_all nat_cmp e.0 (f ∷ fs)) (map.is_sorted nat_cmp (f ∷ fs)) sorted))))
        (second (below_all nat_cmp e.0 (f ∷ fs)) (map.is_sorted nat_cmp (f ∷ fs)) sorted),
  )

  ascend_all : (es : List (ℕ × V)) → T (map.is_sorted nat_cmp es) → AscendFrom 0 es
  ascend_all [] sorted = tt
  ascend_all (e ∷ es) sorted = ascend_on 0 e es (omega arith) sorted

  -- the keys of a tree ascend
  pub ordered_ascend : (m : BTreeMap ℕ V) → tree.IsOrdered nat_cmp m → AscendFrom 0 m.entries
  ordered_ascend m ordered = ascend_all m.entries (sorted_each m.entries ordered)

  -- the entries of a map ascend
  pub entries_ascend : (a : map.FinMap nat_cmp V) → AscendFrom 0 (map.entries a)
  entries_ascend a = ascend_all (map.entries a) (map.entries_sorted a)

  -- what stands under a name
  pub at_first : (e : ℕ × V) (es : List (ℕ × V)) → value_at (e ∷ es) e.0 ≡ Some e.1
  at_first e es = ap (λ b. cond b (Some e.1) (value_at es e.0)) (itself e.0)
    where
      itself : (a : ℕ) → is_eq (nat_cmp a a) ≡ true
      itself a = grind (arith, nat_tests)

  pub at_later : (e : ℕ × V) (es : List (ℕ × V)) (q : ℕ) → ¬ (q ≡ e.0) → value_at (e ∷ es) q ≡ value_at es q
  at_later e es q ne = ap (λ b. cond b (Some e.1) (value_at es q)) (apart q e.0 ne)
    where
      apart : (a b : ℕ) → ¬ (a ≡ b) → is_eq (nat_cmp a b) ≡ false
      apart a b ne = grind (arith, nat_tests)

  pub none_before : (n : ℕ) (es : List (ℕ × V)) (q : ℕ) → AscendFrom n es → q < n → value_at es q ≡ None
  none_before n [] q h lt = refl
  none_before n (e ∷ es) q h lt = at_later e es q (λ same. absurd (omega arith)) ∙ none_before (e.0 + 1) es q h.1 (omega arith)

  pub ascend_zero : (n : ℕ) (es : List (ℕ × V)) → AscendFrom n es → AscendFrom 0 es
  ascend_zero n [] h = tt
  ascend_zero n (e ∷ es) h = (omega arith, h.1)

  -- what holds of each entry holds of what stands under a name
  pub all_found : (P : ℕ × V → Type 0) (es : List (ℕ × V)) (q : ℕ) (v : V) → All P es → value_at es q ≡ Some v → P (q, v)
  all_found P [] q v all e = absurd (none e)
    where
      none : {X : Type 0} {x : X} → None ≡ Some x → ⊥
      none e = cc
  all_found P (e ∷ es) q v all found = elim (same_or_other q e.0) [
    | inl same ↦
        let value : e.1 ≡ v = inside (sym (at_first e es) ∙ ap (value_at (e ∷ es)) (sym same) ∙ found) in
        subst P (λ i. (sym same i, value i)) (all 0 e (omega arith))
    | inr other ↦ all_found P es q v (λ k d lt. all (suc k) d (omega arith)) (sym (at_later e es q other) ∙ found)
  ]
    where
      inside : {X : Type 0} {x y : X} → ◌≡◌ {A = Option X} (Some x) (Some y) → x ≡ y
      inside e = cc

-- a map of entries that ascend
module _ {V : Type 0} where
  names_above : (n m : ℕ) (es : List (ℕ × V)) → AscendFrom m es → n < m → AllByRecursion (λ k. nat_cmp n k ≡ Less) (keys_of es)
  names_above n m [] h lt = tt
  names_above n m (e ∷ es) h lt = (less n e.0 (omega arith), names_above n (e.0 + 1) es h.1 (omega arith))
    where
      less : (a b : ℕ) → a < b → nat_cmp a b ≡ Less
      less a b lt = grind (arith, nat_tests)

  names_ascend : (n : ℕ) (es : List (ℕ × V)) → AscendFrom n es → IsStrictlySortedBy nat_cmp (keys_of es)
  unfolding IsStrictlySortedBy
  names_ascend n [] h = tt
  names_ascend n (e ∷ es) h = (names_above e.0 (e.0 + 1) es h.1 (omega arith), names_ascend (e.0 + 1) es h.1)

  -- the entries of the map of entries that ascend are these
  pub entries_shown : (es : List (ℕ × V)) → AscendFrom 0 es → es ≡ map.entries (map.from_entries {R = nat_cmp} es)
  entries_shown es ascend =
      let sorted : T (map.is_sorted nat_cmp es) = sorted_each es (names_ascend 0 es ascend) in
      let same : map.from_entries {R = nat_cmp} es ≡ map.from_sorted {R = nat_cmp} es =
      map.same_map nat_cmp_total map.nat_cmp-IsAntisymmetric _ _ (λ q. map.get-from_entries nat_cmp_total es q ∙ sym (map.get-from_sorted nat_cmp es q sorted)) in
      sym (map.entries-from_sorted nat_cmp es sorted) ∙ ap map.entries (sym same)

  -- entries that have the same under each name make the same map
  pub made_map : (es fs : List (ℕ × V)) → ((q : ℕ) → value_at es q ≡ value_at fs q) → map.from_entries {R = nat_cmp} es ≡ map.from_entries fs
  made_map es fs h = map.same_map nat_cmp_total map.nat_cmp-IsAntisymmetric _ _ (λ q. map.get-from_entries nat_cmp_total es q ∙ h q ∙ sym (map.get-from_entries nat_cmp_total fs q))

  -- what holds of every entry holds of the map
  pub map_kept : (known : V → Members) (es : List (ℕ × V)) (a : map.FinMap nat_cmp V) → a ≡ map.from_entries es → All (λ e. ¬ IsVoid (known e.1)) es → HoldsNoEmpty known a
  map_kept known es a e all q v found = all_found (λ x. ¬ IsVoid (known x.1)) es q v all (sym (map.get-from_entries nat_cmp_total es q) ∙ ap (λ m. map.get m q) (sym e) ∙ found)

  pub map_short : (es : List (ℕ × V)) (a : map.FinMap nat_cmp V) → a ≡ map.from_entries es → All (λ e. e.0 < 2 ^ 32) es → HasShortNames a
  map_short es a e all q some = by_value (map.get a q) refl some
    where
      by_value : (o : Option V) → map.get a q ≡ o → IsSome o → q < 2 ^ 32
      by_value None f none = absurd (false≢true none)
      by_value (Some v) f _ = all_found (λ x. x.0 < 2 ^ 32) es q v all (sym (map.get-from_entries nat_cmp_total es q) ∙ ap (λ m. map.get m q) (sym e) ∙ f)

-- how far a walk over a map has come: P holds of what has been passed, and the rest is left
pub record IsWalked {V : Type 0} (P : ℕ → V → Type 0) (a : map.FinMap nat_cmp V) (left : List (ℕ × V)) : Type 0 where
  pub ascend : AscendFrom 0 left
  pub found : (q : ℕ) (v : V) → value_at left q ≡ Some v → map.get a q ≡ Some v
  pub done : (q : ℕ) (v : V) → map.get a q ≡ Some v → value_at left q ≡ None → P q v

module _ {V : Type 0} (P : ℕ → V → Type 0) (a : map.FinMap nat_cmp V) where
  clash : (o : Option V) (v : V) {Q : Type 0} → o ≡ Some v → o ≡ None → Q
  clash o v e f = cc

  pub walked_start : (left : List (ℕ × V)) → left ≡ map.entries a → IsWalked P a left
  walked_start left e = record {
    ascend = subst (AscendFrom 0) (sym e) (entries_ascend a);
    found = λ q v h. map.get-entries a q ∙ ap (λ es. value_at es q) (sym e) ∙ h;
    done = λ q v there none. clash (map.get a q) v there (map.get-entries a q ∙ ap (λ es. value_at es q) (sym e) ∙ none);
  }

  pub walked_all : (left : List (ℕ × V)) → left ≡ [] → IsWalked P a left → (q : ℕ) (v : V) → map.get a q ≡ Some v → P q v
  walked_all left e walked q v there = walked.done q v there (ap (λ es. value_at es q) e)

  module _ (left after : List (ℕ × V)) (k : ℕ) (v : V) (is : left ≡ (k, v) ∷ after) (walked : IsWalked P a left) where
    walked_here : IsWalked P a ((k, v) ∷ after)
    walked_here = subst (IsWalked P a) is walked

    pub walked_found : map.get a k ≡ Some v
    walked_found = walked_here.found k v (at_first (k, v) after)

    pub walked_below : (q : ℕ) (w : V) → q < k → map.get a q ≡ Some w → P q w
    walked_below q w lt there = walked_here.done q w there (none_before k ((k, v) ∷ after) q ((omega arith), walked_here.ascend.1) lt)

    inside : (x y : V) → ◌≡◌ {A = Option V} (Some x) (Some y) → x ≡ y
    inside x y e = cc

    pub walked_on : P k v → IsWalked P a after
    walked_on p = record {
      ascend = ascend_zero (k + 1) after walked_here.ascend.1;
      found = λ q w h. elim (same_or_other q k) [
        | inl same ↦ clash (value_at after q) w h (none_before (k + 1) after q walked_here.ascend.1 (omega arith))
        | inr other ↦ walked_here.found q w (at_later (k, v) after q other ∙ h)
      ];
      done = λ q w there none. elim (same_or_other q k) [
        | inl same ↦
            let value : w ≡ v = inside w v (sym there ∙ ap (map.get a) same ∙ walked_found) in
            subst (λ x. P x w) (sym same) (subst (P k) (sym value) p)
        | inr other ↦ walked_here.done q w there (at_later (k, v) after q other ∙ none)
      ];
    }

pub walked_weaker : {V : Type 0} (P Q : ℕ → V → Type 0) (a : map.FinMap nat_cmp V) (left : List (ℕ × V)) → ((q : ℕ) (v : V) → P q v → Q q v) → IsWalked P a left → IsWalked Q a left
walked_weaker P Q a left weaker walked = record { ascend = walked.ascend; found = walked.found; done = λ q v there none. weaker q v (walked.done q v there none) }
