-- Tests that decide equality, put together.
use Rattle.std.specs.Prelude.{ℕ, ◌≡◌, ◌==◌, ◌&&◌, Bool, true, false, List, Option, refl}
use Rattle.std.proofs.Common.{ap, arith, ◌∙◌}
use Rattle.std.specs.Bool.{Decides}
use Rattle.std.specs.Option.{option_eq}
use Rattle.std.specs.FinMap as map
use Rattle.std.specs.Ordering.{nat_cmp}
use Rattle.std.specs.Cmp.{IsPartialEquivalence}
use Rattle.std.specs.Cmp.Lexicographic.{lists_per, pointwise, pointwise_decides}
use Rattle.std.proofs.lemmas.Bool.{false≢true}
use Rattle.std.proofs.lemmas.Bool.Decides.{nat_tests}
use Rattle.pc_join.specs.ByName.{is_same_by_name}

and_parts : (a b : Bool) → (a && b) ≡ true → (a ≡ true) × (b ≡ true)
and_parts true b e = (refl, e)
and_parts false b e = absurd (false≢true e)

both : (a b : Bool) → a ≡ true → b ≡ true → (a && b) ≡ true
both true b e f = f
both false b e f = absurd (false≢true e)

eq_number : (x y : ℕ) → (x == y) ≡ true → x ≡ y
eq_number x y e = grind (arith, nat_tests)

number_eq : (x y : ℕ) → x ≡ y → (x == y) ≡ true
number_eq x y e = grind (arith, nat_tests)

pub number_Decides : (x y : ℕ) → Decides (x == y) (x ≡ y)
number_Decides x y = (eq_number x y, number_eq x y)

pub pair_Decides : {A B : Type 0} {E : A → A → Bool} {F : B → B → Bool}
    → ((a b : A) → Decides (E a b) (a ≡ b)) → ((a b : B) → Decides (F a b) (a ≡ b))
    → (p q : A × B) → Decides (E p.0 q.0 && F p.1 q.1) (p ≡ q)
pair_Decides {E = E} {F = F} first second p q = (
  λ e.
      let parts = and_parts (E p.0 q.0) (F p.1 q.1) e in
      let left : p.0 ≡ q.0 = (first p.0 q.0).0 parts.0 in
      let right : p.1 ≡ q.1 = (second p.1 q.1).0 parts.1 in
      λ i. (left i, right i),
  λ e. both (E p.0 q.0) (F p.1 q.1) ((first p.0 q.0).1 (ap (λ x. x.0) e)) ((second p.1 q.1).1 (ap (λ x. x.1) e)),
)

-- two maps are equal where the same names have equal values
pub by_name_Decides : {V : Type 0} {same : V → V → Bool} → ((a b : V) → Decides (same a b) (a ≡ b))
    → (a b : map.FinMap nat_cmp V) → Decides (is_same_by_name same a b) (a ≡ b)
by_name_Decides decides a b =
    let entries = pointwise_decides (pair_Decides number_Decides decides) (map.entries a) (map.entries b) in
    (λ e. map.same_entries_map a b (entries.0 e), λ e. entries.1 (ap map.entries e))

-- the same name with the same value
abbrev pub is_same_entry : {V : Type 0} → (V → V → Bool) → ℕ × V → ℕ × V → Bool
is_same_entry same p q = (p.0 == q.0) && same p.1 q.1

-- equal values are under each name, or none is
abbrev pub HasSame : {V : Type 0} → (V → V → Bool) → (ℕ → Option V) → (ℕ → Option V) → Type 0
HasSame same values others = (name : ℕ) → option_eq same (values name) (others name) ≡ true

-- the same entries, one behind another
abbrev pub are_same : {V : Type 0} → (V → V → Bool) → List (ℕ × V) → List (ℕ × V) → Bool
are_same same es fs = pointwise (is_same_entry same) es fs

-- a test that is symmetric and transitive is so of entries and of maps
entries_partial : {V : Type 0} {same : V → V → Bool} → IsPartialEquivalence same
    → IsPartialEquivalence (is_same_entry same)
entries_partial {same = same} h = record {
  symm = λ p q i. swapped p.0 q.0 i && h.symm p.1 q.1 i;
  trans = λ p q r e f.
      let first = and_parts (p.0 == q.0) (same p.1 q.1) e in
      let second = and_parts (q.0 == r.0) (same q.1 r.1) f in
      both (p.0 == r.0) (same p.1 r.1)
      (number_eq p.0 r.0 (eq_number p.0 q.0 first.0 ∙ eq_number q.0 r.0 second.0))
      (h.trans p.1 q.1 r.1 first.1 second.1);
}
  where
    swapped : (x y : ℕ) → (x == y) ≡ (y == x)
    swapped x y = grind (arith, nat_tests)

pub partial_by_name : {V : Type 0} {same : V → V → Bool} → IsPartialEquivalence same
    → IsPartialEquivalence (is_same_by_name same)
partial_by_name h =
    let lists = lists_per (entries_partial h) in
    record {
      symm = λ a b. lists.symm (map.entries a) (map.entries b);
      trans = λ a b c. lists.trans (map.entries a) (map.entries b) (map.entries c);
    }
