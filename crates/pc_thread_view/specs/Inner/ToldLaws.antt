-- The laws of a join, of what is told of one thread.
use Rattle.std.specs.Prelude.{ℕ, ◌+◌, ◌<◌, ◌≤◌, ◌≡◌, ◌==◌, ◌⊎◌, ◌||◌, Bool, true, false, List, [], ◌∷◌, length, refl}
use Rattle.std.specs.Prelude.{Some, Option, None}
use Rattle.std.proofs.Common.{sym, ap, subst, ◌∙◌, arith, inl, inr}
use Rattle.std.proofs.lemmas.Bool.{false≢true}
use Rattle.std.proofs.lemmas.Bool.Decides.{nat_tests}
use Rattle.pc_messages.specs.declared.kind.Kind.{Kind}
use Rattle.pc_messages.specs.State.{state_of}
use Rattle.pc_join.specs.Sets.{Source, IsSameSet, AgreesOn}
use Rattle.pc_thread_view.specs.Told.{Told, IsOfThread, HasKinds, HasEach, RiseAbove, numbers_of, tells, is_early}
use Rattle.pc_join.specs.Ranges.{one_to}

some_inside : {a b : Kind} → ◌≡◌ {A = Option Kind} (Some a) (Some b) → a ≡ b
some_inside e = cc

some_not_none : {a : Kind} → ¬ (◌≡◌ {A = Option Kind} (Some a) None)
some_not_none e = cc

-- no message is told at or below where the early ones rise from
pub lacks_below : (n : ℕ) (early : List (ℕ × Kind)) (m : ℕ) → RiseAbove n early → m ≤ n → is_early early m ≡ false
lacks_below n [] m h e = refl
lacks_below n (d ∷ ds) m h e =
    ap (λ b. b || is_early ds m) (other d.0 m (omega arith)) ∙ lacks_below d.0 ds m h.1 (omega arith)
  where
    other : (a b : ℕ) → b < a → (a == b) ≡ false
    other a b h = grind (arith, nat_tests)

-- the numbers of a prefix are in it
pub prefix_yes : (upto n : ℕ) → 1 ≤ n → n ≤ upto → one_to upto n ≡ true
prefix_yes upto n h e = grind (arith, nat_tests)

prefix_no : (upto n : ℕ) → upto < n → one_to upto n ≡ false
prefix_no upto n h = grind (arith, nat_tests)

-- the first that is missing is not told
pub lacks_next : (v : Told) → RiseAbove (v.upto + 1) v.early → tells v (v.upto + 1) ≡ false
lacks_next v h =
    ap (λ b. b || is_early v.early (v.upto + 1)) (prefix_no v.upto (v.upto + 1) (omega arith))
    ∙ lacks_below (v.upto + 1) v.early (v.upto + 1) h (omega arith)

order_of : (a b : ℕ) → (a < b) ⊎ (b ≤ a)
order_of a b = grind arith

upto_least : (v w : Told) → RiseAbove (v.upto + 1) v.early → ((n : ℕ) → tells v n ≡ tells w n) → w.upto ≤ v.upto
upto_least v w h same =
    elim (order_of v.upto w.upto) [
      | inl lt ↦
          absurd (false≢true (sym (lacks_next v h) ∙ same (v.upto + 1)
          ∙ ap (λ b. b || is_early w.early (v.upto + 1)) (prefix_yes w.upto (v.upto + 1) (omega arith) (omega arith))))
      | inr le ↦ le
    ]

-- kinds of one source, of one length
same_kinds : (s : Source) (n : ℕ) (ks js : List Kind) → length ks ≡ length js → HasKinds s n ks → HasKinds s n js
    → ks ≡ js
same_kinds s n [] [] e h g = refl
same_kinds s n [] (j ∷ js) e h g = absurd (omega arith)
same_kinds s n (k ∷ ks) [] e h g = absurd (omega arith)
same_kinds s n (k ∷ ks) (j ∷ js) e h g =
    let one : k ≡ j = some_inside (sym h.0 ∙ g.0) in
    let rest : ks ≡ js = same_kinds s (n + 1) ks js (omega arith) h.1 g.1 in
    λ i. one i ∷ rest i

-- early messages of one source, with the same numbers
here : (d : ℕ × Kind) (ds : List (ℕ × Kind)) → is_early (d ∷ ds) d.0 ≡ true
here d ds = ap (λ b. b || is_early ds d.0) (itself d.0)
  where
    itself : (n : ℕ) → (n == n) ≡ true
    itself n = grind (arith, nat_tests)

first_least : (n : ℕ) (d e : ℕ × Kind) (ds es : List (ℕ × Kind)) → RiseAbove n (d ∷ ds) → RiseAbove n (e ∷ es)
    → ((m : ℕ) → is_early (d ∷ ds) m ≡ is_early (e ∷ es) m) → e.0 ≤ d.0
first_least n d e ds es h g same =
    elim (order_of d.0 e.0) [
      | inl lt ↦ absurd
          (false≢true (sym (lacks_below d.0 (e ∷ es) d.0 (lt, g.1) (omega arith)) ∙ sym (same d.0) ∙ here d ds))
      | inr le ↦ le
    ]

same_rest : (d : ℕ × Kind) (ds es : List (ℕ × Kind)) (k : Kind) (m : ℕ) → RiseAbove d.0 ds → RiseAbove d.0 es
    → is_early (d ∷ ds) m ≡ is_early ((d.0, k) ∷ es) m → is_early ds m ≡ is_early es m
same_rest d ds es k m h g e =
    elim (order_of d.0 m) [
      | inl lt ↦ sym (ap (λ b. b || is_early ds m) (apart d.0 m lt)) ∙ e ∙ ap (λ b. b || is_early es m) (apart d.0 m lt)
      | inr le ↦ lacks_below d.0 ds m h le ∙ sym (lacks_below d.0 es m g le)
    ]
  where
    apart : (a b : ℕ) → a < b → (a == b) ≡ false
    apart a b h = grind (arith, nat_tests)

le_both : (a b : ℕ) → a ≤ b → b ≤ a → a ≡ b
le_both a b h e = omega arith

same_early : (s : Source) (n : ℕ) (ds es : List (ℕ × Kind)) → RiseAbove n ds → RiseAbove n es → HasEach s ds
    → HasEach s es
    → ((m : ℕ) → is_early ds m ≡ is_early es m) → ds ≡ es
same_early s n [] [] h g a b same = refl
same_early s n [] (e ∷ es) h g a b same = absurd (false≢true (same e.0 ∙ here e es))
same_early s n (d ∷ ds) [] h g a b same = absurd (false≢true (sym (same d.0) ∙ here d ds))
same_early s n (d ∷ ds) (e ∷ es) h g a b same =
    let number : d.0 ≡ e.0 =
    le_both d.0 e.0 (first_least n e d es ds g h (λ m. sym (same m))) (first_least n d e ds es h g same) in
    let kind : d.1 ≡ e.1 = some_inside (sym a.0 ∙ ap (λ m. s (m ∷ [])) number ∙ b.0) in
    let first : d ≡ e = λ i. (number i, kind i) in
    let rise : RiseAbove d.0 es = subst (λ m. RiseAbove m es) (sym number) g.1 in
    let on : (m : ℕ) → is_early (d ∷ ds) m ≡ is_early ((d.0, e.1) ∷ es) m =
    λ m. same m ∙ ap (λ k. (k == m) || is_early es m) (sym number) in
    let rest : ds ≡ es = same_early s d.0 ds es h.1 rise a.1 b.1 (λ m. same_rest d ds es e.1 m h.1 rise (on m)) in
    λ i. first i ∷ rest i

early_of : (upto : ℕ) (ds es : List (ℕ × Kind)) (m : ℕ) → RiseAbove (upto + 1) ds → RiseAbove (upto + 1) es
    → (one_to upto m || is_early ds m) ≡ (one_to upto m || is_early es m) → is_early ds m ≡ is_early es m
early_of upto ds es m h g e =
    elim (order_of upto m) [
      | inl lt ↦ sym (ap (λ b. b || is_early ds m) (prefix_no upto m lt)) ∙ e
          ∙ ap (λ b. b || is_early es m) (prefix_no upto m lt)
      | inr le ↦ lacks_below (upto + 1) ds m h (omega arith) ∙ sym (lacks_below (upto + 1) es m g (omega arith))
    ]

pub unique_told : (s : Source) (a b : Told) → IsOfThread a s → IsOfThread b s → IsSameSet (numbers_of a) (numbers_of b)
    → a ≡ b
unique_told s a b of_a of_b same =
    let at : (n : ℕ) → tells a n ≡ tells b n = λ n. same (n ∷ []) in
    let upto : a.upto ≡ b.upto =
    le_both a.upto b.upto (upto_least b a of_b.gap (λ n. sym (at n))) (upto_least a b of_a.gap at) in
    let kinds : of_a.prefix.kinds ≡ of_b.prefix.kinds =
    same_kinds s 0 of_a.prefix.kinds of_b.prefix.kinds (of_a.prefix.count ∙ upto ∙ sym of_b.prefix.count)
    of_a.prefix.of_source of_b.prefix.of_source in
    let state : a.state ≡ b.state = of_a.prefix.folded ∙ ap state_of kinds ∙ sym of_b.prefix.folded in
    let gap : RiseAbove (a.upto + 1) b.early = subst (λ m. RiseAbove (m + 1) b.early) (sym upto) of_b.gap in
    let early : a.early ≡ b.early =
    same_early s (a.upto + 1) a.early b.early of_a.gap gap of_a.early of_b.early
    (λ m. early_of a.upto a.early b.early m of_a.gap gap
    (at m ∙ ap (λ u. one_to u m || is_early b.early m) (sym upto))) in
    λ i. record { upto = upto i; state = state i; early = early i }

-- of a source that gives the same at the members
kinds_stay : (s t : Source) (n upto : ℕ) (kinds : List Kind) → n + length kinds ≤ upto
    → ((m : ℕ) → 1 ≤ m → m ≤ upto → ¬ (s (m ∷ []) ≡ None) → t (m ∷ []) ≡ s (m ∷ [])) → HasKinds s n kinds
    → HasKinds t n kinds
kinds_stay s t n upto [] h agrees g = tt
kinds_stay s t n upto (k ∷ ks) h agrees g = (
  agrees (n + 1) (omega arith) (omega arith) (λ e. some_not_none (sym g.0 ∙ e)) ∙ g.0,
  kinds_stay s t (n + 1) upto ks (omega arith) agrees g.1,
)

each_stay : (s t : Source) (early : List (ℕ × Kind))
    → ((m : ℕ) → is_early early m ≡ true → ¬ (s (m ∷ []) ≡ None) → t (m ∷ []) ≡ s (m ∷ []))
    → HasEach s early → HasEach t early
each_stay s t [] agrees g = tt
each_stay s t (d ∷ ds) agrees g = (
  agrees d.0 (here d ds) (λ e. some_not_none (sym g.0 ∙ e)) ∙ g.0,
  each_stay s t ds (λ m k. agrees m (or_right (d.0 == m) (is_early ds m) k)) g.1,
)
  where
    or_right : (a b : Bool) → b ≡ true → (a || b) ≡ true
    or_right true b h = refl
    or_right false b h = h

or_left : (a b : Bool) → a ≡ true → (a || b) ≡ true
or_left true b h = refl
or_left false b h = absurd (false≢true h)

or_right : (a b : Bool) → b ≡ true → (a || b) ≡ true
or_right true b h = refl
or_right false b h = h

pub stays_told : (s t : Source) (a : Told) → AgreesOn (numbers_of a) s t → IsOfThread a s → IsOfThread a t
stays_told s t a agrees of_s = record {
  prefix = record {
    kinds = of_s.prefix.kinds;
    count = of_s.prefix.count;
    of_source = kinds_stay s t 0 a.upto of_s.prefix.kinds (le of_s.prefix.count)
        (λ m h e. agrees (m ∷ []) (or_left (one_to a.upto m) (is_early a.early m) (prefix_yes a.upto m h e)))
        of_s.prefix.of_source;
    folded = of_s.prefix.folded;
  };
  gap = of_s.gap;
  early = each_stay s t a.early (λ m k. agrees (m ∷ []) (or_right (one_to a.upto m) (is_early a.early m) k)) of_s.early;
}
  where
    le : {n m : ℕ} → n ≡ m → 0 + n ≤ m
    le e = omega arith
