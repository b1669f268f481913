-- Conflicts among parts, as one more is seen.
use Rattle.std.proofs.Common.{ℕ, ◌+◌, ◌<◌, ◌≡◌, ◌⊎◌, cond, Bool, true, false, List, [], ◌∷◌, ◌++◌, length, take, get_or, Option, Some, None, IsSome, refl, sym, ap, ◌∙◌, subst, arith, inl, inr}
use Rattle.std.specs.List.{Contains}
use Rattle.std.specs.declared.cmp.Ordering.{Ordering}
use Rattle.std.specs.declared.cmp.Ordering.TheVariants.{Less, Equal, Greater}
use Rattle.std.specs.Ordering.{nat_cmp, bool_cmp, ordering_then, is_eq, MatchOrdering}
use Rattle.std.proofs.lemmas.Bool.{false≢true}
use Rattle.std.proofs.lemmas.Cmp.{ranked, tied_itself, nat_cmp_total}
use Rattle.std.proofs.lemmas.List.Elements.{Contains-push, Contains-push_cases, Contains-append_left}
use Rattle.pc_delta.specs.declared.part.Part.{Part}
use Rattle.pc_delta.specs.Faults.{place_of, IsConflict, IsLeastConflict, HasNoConflict}
use Rattle.pc_delta.specs.Inner.Places.{IsNotAfter, IsLesserOf}
use Rattle.pc_delta.specs.Inner.Places.{Place, place_cmp, IsFirstSeen, IsLeast}
use Rattle.pc_delta.proofs.Lists.{taken_item}

-- places that the order does not tell apart are equal
tied_numbers : (x y : ℕ) → nat_cmp x y ≡ Equal → x ≡ y
tied_numbers x y e = subst (λ o. MatchOrdering o (x < y) (x ≡ y) (y < x)) e (ranked x y (nat_cmp x y) refl)

tied_bools : (x y : Bool) → bool_cmp x y ≡ Equal → x ≡ y
tied_bools true true e = refl
tied_bools true false e = cc
tied_bools false true e = cc
tied_bools false false e = refl

then_parts : (a b : Ordering) → ordering_then a b ≡ Equal → (a ≡ Equal) × (b ≡ Equal)
then_parts Less b e = cc
then_parts Equal b e = (refl, e)
then_parts Greater b e = cc

pub tied_places : (x y : Place) → place_cmp x y ≡ Equal → x ≡ y
tied_places x y e =
    let outer = then_parts (ordering_then (nat_cmp x.0 y.0) (nat_cmp x.1 y.1)) (bool_cmp x.2 y.2) e in
    let inner = then_parts (nat_cmp x.0 y.0) (nat_cmp x.1 y.1) outer.0 in
    let thread : x.0 ≡ y.0 = tied_numbers x.0 y.0 inner.0 in
    let number : x.1 ≡ y.1 = tied_numbers x.1 y.1 inner.1 in
    let sort : x.2 ≡ y.2 = tied_bools x.2 y.2 outer.1 in
    λ i. (thread i, number i, sort i)

itself_bool : (b : Bool) → bool_cmp b b ≡ Equal
itself_bool true = refl
itself_bool false = refl

pub place_itself : (x : Place) → place_cmp x x ≡ Equal
place_itself x = (λ i. ordering_then (ordering_then (tied_itself nat_cmp_total x.0 i) (tied_itself nat_cmp_total x.1 i)) (itself_bool x.2 i))

is_equal : (o : Ordering) → is_eq o ≡ true → o ≡ Equal
is_equal Less e = absurd (false≢true e)
is_equal Equal e = refl
is_equal Greater e = absurd (false≢true e)

pub same_or_not : (x y : Place) → (x ≡ y) ⊎ ¬ (x ≡ y)
same_or_not x y = by_test (is_eq (place_cmp x y)) refl
  where
    by_test : (b : Bool) → is_eq (place_cmp x y) ≡ b → (x ≡ y) ⊎ ¬ (x ≡ y)
    by_test true e = inl (tied_places x y (is_equal (place_cmp x y) e))
    by_test false e = inr (λ same. false≢true (sym e ∙ ap (λ q. is_eq (place_cmp x q)) (sym same) ∙ ap is_eq (place_itself x)))

-- what a map gives after one more was put into it
pub put_there : {X : Type 0} (here q : Place) (part : X) (old new : Option X) → new ≡ cond (is_eq (place_cmp here q)) (Some part) old → here ≡ q → new ≡ Some part
put_there here q part old new e same = e ∙ ap (λ b. cond b (Some part) old) (ap (λ x. is_eq (place_cmp here x)) (sym same) ∙ ap is_eq (place_itself here))

pub put_elsewhere : {X : Type 0} (here q : Place) (part : X) (old new : Option X) → new ≡ cond (is_eq (place_cmp here q)) (Some part) old → ¬ (q ≡ here) → new ≡ old
put_elsewhere here q part old new e ne = by_test (is_eq (place_cmp here q)) refl
  where
    by_test : (b : Bool) → is_eq (place_cmp here q) ≡ b → new ≡ old
    by_test true f = absurd (ne (sym (tied_places here q (is_equal (place_cmp here q) f))))
    by_test false f = e ∙ ap (λ b. cond b (Some part) old) f

-- each part that was seen stands at its place, or one that was seen before it
pub record IsSeen (seen : Place → Option Part) (parts : List Part) : Type 0 where
  pub held : (q : Place) (part : Part) → seen q ≡ Some part → Contains parts part × (place_of part ≡ q)
  pub all : (part : Part) → Contains parts part → IsSome (seen (place_of part))

inside : {a b : Part} (o : Option Part) → o ≡ Some a → o ≡ Some b → a ≡ b
inside o e f = cc

is_there : {o : Option Part} {a : Part} → o ≡ Some a → IsSome o
is_there {o} {a} e = subst (λ x. IsSome x) (sym e) refl

not_there : (o : Option Part) → o ≡ None → ¬ IsSome o
not_there o e some = clash (subst (λ x. IsSome x) e some)
  where
    clash : IsSome {T = Part} None → ⊥
    clash h = false≢true h

none_contained : (part : Part) → ¬ Contains [] part
none_contained part c = let lt = c.1 in absurd (omega arith)

pub seen_none : (seen : Place → Option Part) → ((q : Place) → seen q ≡ None) → IsSeen seen []
seen_none seen none = record { held = λ q part e. absurd (not_there (seen q) (none q) (is_there e)); all = λ part c. absurd (none_contained part c) }

pub least_none : HasNoConflict []
least_none t n c = none_contained c.one c.has_one

more : (parts : List Part) (part : Part) (t n : ℕ) → IsConflict parts t n → IsConflict (parts ++ part ∷ []) t n
more parts part t n c = record {
  one = c.one;
  other = c.other;
  has_one = Contains-append_left parts (part ∷ []) c.one c.has_one;
  has_other = Contains-append_left parts (part ∷ []) c.other c.has_other;
  of_thread = c.of_thread;
  at_number = c.at_number;
  same_place = c.same_place;
  differ = c.differ;
}

-- a part that was seen before differs from this one, at its place
record DiffersFrom (parts : List Part) (part : Part) : Type 0 where
  other : Part
  has_other : Contains parts other
  same_place : place_of other ≡ place_of part
  differ : ¬ (other ≡ part)

-- a conflict is one among the parts before, or one with the last
cases : (parts : List Part) (part : Part) (t n : ℕ) → IsConflict (parts ++ part ∷ []) t n
    → IsConflict parts t n ⊎ (DiffersFrom parts part × ((place_of part).0 ≡ t) × ((place_of part).1 ≡ n))
cases parts part t n c = by_cases (Contains-push_cases parts part c.one c.has_one) (Contains-push_cases parts part c.other c.has_other)
  where
    by_cases : Contains parts c.one ⊎ (part ≡ c.one) → Contains parts c.other ⊎ (part ≡ c.other)
        → IsConflict parts t n ⊎ (DiffersFrom parts part × ((place_of part).0 ≡ t) × ((place_of part).1 ≡ n))
    by_cases (inl a) (inl b) = inl (record { one = c.one; other = c.other; has_one = a; has_other = b; of_thread = c.of_thread; at_number = c.at_number; same_place = c.same_place; differ = c.differ })
    by_cases (inl a) (inr f) = inr (
      record { other = c.one; has_other = a; same_place = c.same_place ∙ ap place_of (sym f); differ = λ e. c.differ (e ∙ f) },
      ap (λ p. (place_of p).0) f ∙ sym (ap (λ q. q.0) c.same_place) ∙ c.of_thread,
      ap (λ p. (place_of p).1) f ∙ sym (ap (λ q. q.1) c.same_place) ∙ c.at_number,
    )
    by_cases (inr e) (inl b) = inr (
      record { other = c.other; has_other = b; same_place = sym c.same_place ∙ ap place_of (sym e); differ = λ f. c.differ (sym e ∙ sym f) },
      ap (λ p. (place_of p).0) e ∙ c.of_thread,
      ap (λ p. (place_of p).1) e ∙ c.at_number,
    )
    by_cases (inr e) (inr f) = absurd (c.differ (sym e ∙ f))

last_of : (a b c : ℕ × ℕ) → IsNotAfter a b → IsNotAfter b c → IsNotAfter a c
last_of a b c (inl h) (inl g) = inl (omega arith)
last_of a b c (inl h) (inr g) = inl (let e = g.0 in omega arith)
last_of a b c (inr h) (inl g) = inl (let e = h.0 in omega arith)
last_of a b c (inr h) (inr g) = inr (h.0 ∙ g.0, (let x = h.1 in let y = g.1 in omega arith))

module _ (seen new : Place → Option Part) (parts : List Part) (part first : Part) (known : IsSeen seen parts) (step : IsFirstSeen seen (place_of part) part first new) where
  first_known : seen (place_of part) ≡ Some first → Contains parts first × (place_of first ≡ place_of part)
  first_known e = known.held (place_of part) first e

  first_there : Contains (parts ++ part ∷ []) first × (place_of first ≡ place_of part)
  first_there = elim step.before [
    | inl e ↦ (Contains-append_left parts (part ∷ []) first (first_known e).0, (first_known e).1)
    | inr h ↦ (subst (λ p. Contains (parts ++ part ∷ []) p) (sym h.1) (Contains-push parts part), ap place_of h.1)
  ]

  pub seen_on : IsSeen new (parts ++ part ∷ [])
  seen_on = record { held = λ q p e. held_at q p e (same_or_not q (place_of part)); all = λ p c. all_at p (same_or_not (place_of p) (place_of part)) (Contains-push_cases parts part p c) }
    where
      held_at : (q : Place) (p : Part) → new q ≡ Some p → (q ≡ place_of part) ⊎ ¬ (q ≡ place_of part) → Contains (parts ++ part ∷ []) p × (place_of p ≡ q)
      held_at q p e (inl same) =
          let it : first ≡ p = inside (new q) (ap new same ∙ step.there) e in
          (subst (λ x. Contains (parts ++ part ∷ []) x) it first_there.0, ap place_of (sym it) ∙ first_there.1 ∙ sym same)
      held_at q p e (inr ne) = let h = known.held q p (sym (step.elsewhere q ne) ∙ e) in (Contains-append_left parts (part ∷ []) p h.0, h.1)

      all_at : (p : Part) → (place_of p ≡ place_of part) ⊎ ¬ (place_of p ≡ place_of part) → Contains parts p ⊎ (part ≡ p) → IsSome (new (place_of p))
      all_at p (inl same) h = is_there (ap new same ∙ step.there)
      all_at p (inr ne) (inl h) = subst (λ o. IsSome o) (sym (step.elsewhere (place_of p) ne)) (known.all p h)
      all_at p (inr ne) (inr e) = absurd (ne (ap place_of (sym e)))

  -- a part that is equal to the first at its place adds no conflict
  as_before : first ≡ part → (t n : ℕ) → IsConflict (parts ++ part ∷ []) t n → IsConflict parts t n
  as_before same t n c = elim (cases parts part t n c) [
    | inl before ↦ before
    | inr h ↦ elim step.before [
      | inl e ↦
          record {
            one = h.0.other;
            other = first;
            has_one = h.0.has_other;
            has_other = (first_known e).0;
            of_thread = ap (λ q. q.0) h.0.same_place ∙ h.1;
            at_number = ap (λ q. q.1) h.0.same_place ∙ h.2;
            same_place = h.0.same_place ∙ sym (first_known e).1;
            differ = λ f. h.0.differ (f ∙ same);
          }
      | inr g ↦ absurd (not_there (seen (place_of part)) g.0 (subst (λ q. IsSome (seen q)) h.0.same_place (known.all h.0.other h.0.has_other)))
    ]
  ]

  pub least_same : (least : Option (ℕ × ℕ)) → first ≡ part → IsLeast least parts → IsLeast least (parts ++ part ∷ [])
  least_same None same none = λ t n c. none t n (as_before same t n c)
  least_same (Some found) same l = record { conflict = more parts part found.0 found.1 l.conflict; least = λ t n c. l.least t n (as_before same t n c) }

  -- one that differs from it adds one
  with_first : ¬ (first ≡ part) → IsConflict (parts ++ part ∷ []) (place_of part).0 (place_of part).1
  with_first differ = record {
    one = first;
    other = part;
    has_one = first_there.0;
    has_other = Contains-push parts part;
    of_thread = ap (λ q. q.0) first_there.1;
    at_number = ap (λ q. q.1) first_there.1;
    same_place = first_there.1;
    differ = differ;
  }

  least_here : ¬ (first ≡ part) → ((t n : ℕ) → IsConflict parts t n → IsNotAfter ((place_of part).0, (place_of part).1) (t, n)) → IsLeastConflict (parts ++ part ∷ []) (place_of part).0 (place_of part).1
  least_here differ before = record { conflict = with_first differ; least = λ t n c. elim (cases parts part t n c) [ inl h ↦ before t n h | inr h ↦ inr (h.1, (let e = h.2 in omega arith)) ] }

  pub least_new : (least : Option (ℕ × ℕ)) (lesser : ℕ × ℕ) → ¬ (first ≡ part) → IsLesserOf least (place_of part).0 (place_of part).1 lesser → IsLeast least parts → IsLeast (Some lesser) (parts ++ part ∷ [])
  least_new None lesser differ e none = subst (λ c. IsLeastConflict (parts ++ part ∷ []) c.0 c.1) (sym e) (least_here differ (λ t n c. absurd (none t n c)))
  least_new (Some found) lesser differ (inl h) l = subst (λ c. IsLeastConflict (parts ++ part ∷ []) c.0 c.1) (sym h.0) (record {
    conflict = more parts part found.0 found.1 l.conflict;
    least = λ t n c. elim (cases parts part t n c) [ inl before ↦ l.least t n before | inr g ↦ subst (λ m. IsNotAfter found (t, m)) g.2 (subst (λ s. IsNotAfter found (s, (place_of part).1)) g.1 h.1) ];
  })
  least_new (Some found) lesser differ (inr h) l = subst (λ c. IsLeastConflict (parts ++ part ∷ []) c.0 c.1) (sym h.0) (least_here differ (λ t n c. last_of ((place_of part).0, (place_of part).1) found (t, n) h.1 (l.least t n c)))

-- a loop over parts
module _ (parts : List Part) (i : ℕ) (part first : Part) (here : Place) (seen new : Place → Option Part) (is : part ≡ get_or parts i part) (lt : i < length parts) (known : IsSeen seen (take i parts)) (place : here ≡ place_of part) (step : IsFirstSeen seen here part first new) where
  step_there : IsFirstSeen seen (place_of part) part first new
  step_there = subst (λ q. IsFirstSeen seen q part first new) place step

  longer : take (i + 1) parts ≡ take i parts ++ part ∷ []
  longer = taken_item parts i part is lt

  pub next_seen : IsSeen new (take (i + 1) parts)
  next_seen = subst (λ xs. IsSeen new xs) (sym longer) (seen_on seen new (take i parts) part first known step_there)

  pub next_same : (least : Option (ℕ × ℕ)) → first ≡ part → IsLeast least (take i parts) → IsLeast least (take (i + 1) parts)
  next_same least same l = subst (λ xs. IsLeast least xs) (sym longer) (least_same seen new (take i parts) part first known step_there least same l)

  pub next_new : (least : Option (ℕ × ℕ)) (lesser : ℕ × ℕ) → ¬ (first ≡ part) → IsLesserOf least here.0 here.1 lesser → IsLeast least (take i parts) → IsLeast (Some lesser) (take (i + 1) parts)
  next_new least lesser differ h l = subst (λ xs. IsLeast (Some lesser) xs) (sym longer)
      (least_new seen new (take i parts) part first known step_there least lesser differ (subst (λ (q : Place). IsLesserOf least q.0 q.1 lesser) place h) l)
