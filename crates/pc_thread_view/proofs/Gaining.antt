-- One more message at the end of what a thread view tells.
use Rattle.std.proofs.Common.{ℕ, suc, ◌+◌, ◌<◌, ◌≤◌, ◌≡◌, ◌==◌, ◌||◌, Bool, true, false, IsTrue, IsFalse, ◌↔◌, List, [], ◌∷◌, ◌++◌, length, Option, refl, sym, ap, ◌∙◌, subst, arith, Some}
use Rattle.std.proofs.lemmas.Bool.{false≢true}
use Rattle.std.proofs.lemmas.Bool.Decides.{nat_tests}
use Rattle.std.proofs.lemmas.List.Folds.{list_any-append}
use Rattle.std.proofs.lemmas.List.{length-append}
use Rattle.pc_join.proofs.Joins.{or_assoc}
use Rattle.pc_messages.specs.declared.message.TheConstants.{GREATEST_NUMBER}
use Rattle.pc_messages.specs.declared.kind.Kind.{Kind}
use Rattle.pc_messages.specs.declared.reported.Reported.{Reported}
use Rattle.pc_messages.specs.State.{state_of}
use Rattle.pc_messages.specs.Run.{IsWellFormed, is_created}
use Rattle.pc_join.specs.Sets.{Source}
use Rattle.pc_thread_view.specs.Inner.ToldLaws.{prefix_yes}
use Rattle.pc_thread_view.specs.Told.{Told, IsSound, RiseAbove, AreLater, HasKinds, HasEach, IsStateOfSome, tells, is_early}
use Rattle.pc_thread_view.specs.Inner.Taking.{Gains, NoneAbove}
use Rattle.pc_join.specs.Ranges.{one_to}
use Rattle.pc_messages.proofs.Bools.{or_none}

or_same : (a b : Bool) → (b ≡ true → a ≡ true) → a ≡ (a || b)
or_same true b h = refl
or_same false true h = h refl
or_same false false h = refl

eq_true : (n m : ℕ) → (n == m) ≡ true → n ≡ m
eq_true n m e = grind (arith, nat_tests)

pub eq_sym : (n m : ℕ) → (n == m) ≡ (m == n)
eq_sym n m = grind (arith, nat_tests)

-- nothing new
pub gains_nothing : (v : Told) (number : ℕ) (kind : Kind) → IsSound v → tells v number ≡ true → Gains v number kind v
gains_nothing v number kind sound known = record {
  sound = sound;
  union = λ n. or_same (tells v n) (n == number) (λ e. ap (tells v) (eq_true n number e) ∙ known);
  of_source = λ s h k. h;
}

pub gains_known : (v : Told) (number : ℕ) (kind : Kind) → IsSound v → 1 ≤ number → number ≤ v.upto → Gains v number kind v
gains_known v number kind sound h e = gains_nothing v number kind sound (ap (λ b. b || is_early v.early number) (prefix_yes v.upto number h e))

or_true : (a b : Bool) → b ≡ true → (a || b) ≡ true
or_true true b e = refl
or_true false b e = e

pub gains_early : (v : Told) (number : ℕ) (kind : Kind) → IsSound v → is_early v.early number ≡ true → Gains v number kind v
gains_early v number kind sound e = gains_nothing v number kind sound (or_true (one_to v.upto number) (is_early v.early number) e)

-- the next message of the prefix
pub none_early : (n : ℕ) (early : List (ℕ × Kind)) → RiseAbove n early → NoneAbove n early → early ≡ []
none_early n [] h k = refl
none_early n (e ∷ es) h k = absurd (omega arith)

pub kinds_push : (s : Source) (n : ℕ) (kinds : List Kind) (kind : Kind) → HasKinds s n kinds → s ((n + length kinds + 1) ∷ []) ≡ Some kind → HasKinds s n (kinds ++ kind ∷ [])
kinds_push s n [] kind h e = (subst (λ m. s (m ∷ []) ≡ Some kind) (at n) e, tt)
  where
    at : (n : ℕ) → n + 0 + 1 ≡ n + 1
    at n = omega arith
kinds_push s n (k ∷ ks) kind h e = (h.0, kinds_push s (n + 1) ks kind h.1 (subst (λ m. s (m ∷ []) ≡ Some kind) (at n (length ks)) e))
  where
    at : (n l : ℕ) → n + suc l + 1 ≡ n + 1 + l + 1
    at n l = omega arith

prefix_more : (upto n : ℕ) → (one_to (upto + 1) n || false) ≡ ((one_to upto n || false) || (n == upto + 1))
prefix_more upto n = grind (arith, nat_tests)

pub gains_next : (upto u : ℕ) (state next : Option Reported) (early : List (ℕ × Kind)) (number : ℕ) (kind : Kind) → IsSound (record { upto = upto; state = state; early = early }) → IsWellFormed number kind → number ≡ upto + 1 → u ≡ upto + 1 → NoneAbove number early
    → IsStateOfSome (upto + 1) next → ((kinds : List Kind) → length kinds ≡ upto → state ≡ state_of kinds → next ≡ state_of (kinds ++ kind ∷ []))
    → Gains (record { upto = upto; state = state; early = early }) number kind (record { upto = u; state = next; early = early })
gains_next upto u state next early number kind sound well e un none some folded =
    let empty : early ≡ [] = none_early (upto + 1) early sound.gap (subst (λ n. NoneAbove n early) e none) in
    let at_end : Gains (record { upto = upto; state = state; early = [] }) (upto + 1) kind (record { upto = upto + 1; state = next; early = [] }) = record {
      sound = record { state = some; upto_fits = let k = well.greatest in omega arith; gap = tt; early = tt };
      union = λ n. prefix_more upto n;
      of_source = λ s h g. record {
        prefix = record {
          kinds = h.prefix.kinds ++ kind ∷ [];
          count = length-append h.prefix.kinds (kind ∷ []) ∙ ap (λ n. n + 1) h.prefix.count;
          of_source = kinds_push s 0 h.prefix.kinds kind h.prefix.of_source (subst (λ n. s (n ∷ []) ≡ Some kind) (place (length h.prefix.kinds) upto h.prefix.count) g);
          folded = folded h.prefix.kinds h.prefix.count h.prefix.folded;
        };
        gap = tt;
        early = tt;
      };
    } in
    subst (λ es. Gains (record { upto = upto; state = state; early = es }) number kind (record { upto = u; state = next; early = es })) (sym empty)
    (subst (λ m. Gains (record { upto = upto; state = state; early = [] }) m kind (record { upto = u; state = next; early = [] })) (sym e)
    (subst (λ m. Gains (record { upto = upto; state = state; early = [] }) (upto + 1) kind (record { upto = m; state = next; early = [] })) (sym un) at_end))
  where
    place : (l u : ℕ) → l ≡ u → u + 1 ≡ 0 + l + 1
    place l u h = omega arith

-- one more early message
rise_push : (n : ℕ) (early : List (ℕ × Kind)) (e : ℕ × Kind) → RiseAbove n early → n < e.0 → NoneAbove e.0 early → is_early early e.0 ≡ false → RiseAbove n (early ++ e ∷ [])
rise_push n [] e h k none new = (k, tt)
rise_push n (d ∷ ds) e h k none new = (h.0, rise_push d.0 ds e h.1 (below d.0 e.0 none.0 (no_first (d.0 == e.0) (is_early ds e.0) new)) none.1 (no_rest (d.0 == e.0) (is_early ds e.0) new))
  where
    no_first : (a b : Bool) → (a || b) ≡ false → a ≡ false
    no_first true b h = h
    no_first false b h = refl

    no_rest : (a b : Bool) → (a || b) ≡ false → b ≡ false
    no_rest true b h = absurd (false≢true (sym h))
    no_rest false b h = h

    below : (a b : ℕ) → a ≤ b → (a == b) ≡ false → a < b
    below a b h e = grind (arith, nat_tests)

later_push : (early : List (ℕ × Kind)) (e : ℕ × Kind) → AreLater early → e.0 ≤ GREATEST_NUMBER → IsFalse (is_created e.1) → AreLater (early ++ e ∷ [])
later_push [] e h k c = (k, c, tt)
later_push (d ∷ ds) e h k c = (h.0, h.1, later_push ds e h.2 k c)

each_push : (s : Source) (early : List (ℕ × Kind)) (e : ℕ × Kind) → HasEach s early → s (e.0 ∷ []) ≡ Some e.1 → HasEach s (early ++ e ∷ [])
each_push s [] e h k = (k, tt)
each_push s (d ∷ ds) e h k = (h.0, each_push s ds e h.1 k)

pub is_early-push : (early : List (ℕ × Kind)) (e : ℕ × Kind) (n : ℕ) → is_early (early ++ e ∷ []) n ≡ (is_early early n || (n == e.0))
is_early-push early e n = list_any-append (λ d. d.0 == n) early (e ∷ []) ∙ ap (λ b. is_early early n || b) (or_none (e.0 == n) ∙ eq_sym e.0 n)

pub not_created : (number : ℕ) (kind : Kind) → IsTrue (is_created kind) ↔ (number ≡ 1) → 2 ≤ number → IsFalse (is_created kind)
not_created number kind h e = by_test (is_created kind) h.0
  where
    by_test : (b : Bool) → (IsTrue b → number ≡ 1) → IsFalse b
    by_test true f = absurd (let k : number ≡ 1 = f refl in omega arith)
    by_test false f = refl

pub gains_push : (upto : ℕ) (state : Option Reported) (early : List (ℕ × Kind)) (number : ℕ) (kind : Kind) → IsSound (record { upto = upto; state = state; early = early }) → IsWellFormed number kind → upto + 1 < number → NoneAbove number early → is_early early number ≡ false
    → Gains (record { upto = upto; state = state; early = early }) number kind (record { upto = upto; state = state; early = early ++ (number, kind) ∷ [] })
gains_push upto state early number kind sound well gap none new = record {
  sound = record {
    state = sound.state;
    upto_fits = sound.upto_fits;
    gap = rise_push (upto + 1) early (number, kind) sound.gap gap none new;
    early = later_push early (number, kind) sound.early well.greatest (not_created number kind well.created (omega arith));
  };
  union = λ n. ap (λ b. one_to upto n || b) (is_early-push early (number, kind) n) ∙ sym (or_assoc (one_to upto n) (is_early early n) (n == number));
  of_source = λ s h g. record {
    prefix = h.prefix;
    gap = rise_push (upto + 1) early (number, kind) sound.gap gap none new;
    early = each_push s early (number, kind) h.early g;
  };
}

pub none_push : (n : ℕ) (early : List (ℕ × Kind)) (e : ℕ × Kind) → NoneAbove n early → e.0 ≤ n → NoneAbove n (early ++ e ∷ [])
none_push n [] e h k = (k, tt)
none_push n (d ∷ ds) e h k = (h.0, none_push n ds e h.1 k)

-- the last early message has the number, or none has
pub last_is : (n : ℕ) (front : List (ℕ × Kind)) (last : ℕ × Kind) (number : ℕ) → RiseAbove n (front ++ last ∷ []) → NoneAbove number (front ++ last ∷ []) → (last.0 == number) ≡ is_early (front ++ last ∷ []) number
last_is n [] last number h none = sym (or_none (last.0 == number))
last_is n (d ∷ ds) last number h none =
    last_is d.0 ds last number h.1 none.1 ∙ sym (ap (λ b. b || is_early (ds ++ last ∷ []) number) (less d.0 number (lower d.0 ds last number h.1 none.1)))
  where
    lower : (n : ℕ) (front : List (ℕ × Kind)) (last : ℕ × Kind) (number : ℕ) → RiseAbove n (front ++ last ∷ []) → NoneAbove number (front ++ last ∷ []) → n < number
    lower n [] last number h none = omega arith
    lower n (d ∷ ds) last number h none = let k = lower d.0 ds last number h.1 none.1 in omega arith

    less : (a b : ℕ) → a < b → (a == b) ≡ false
    less a b h = grind (arith, nat_tests)

pub rise_from : (n m : ℕ) (early : List (ℕ × Kind)) → m ≤ n → RiseAbove n early → RiseAbove m early
rise_from n m [] h k = tt
rise_from n m (e ∷ es) h k = (omega arith, k.1)
