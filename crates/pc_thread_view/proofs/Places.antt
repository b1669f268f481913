-- The place of a number among messages that ascend.
use Rattle.std.proofs.Common.{ℕ, suc, zero, ◌+◌, ◌<◌, ◌≤◌, ◌≡◌, ◌==◌, ◌||◌, Bool, true, false, IsFalse, List, [], ◌∷◌, ◌++◌, length, take, drop, get_or, take-append-drop, Option, Some, None, MatchOption, is_some, not, refl, sym, ap, ◌∙◌, subst, arith, ltb, ltb-true, ltb-false}
use Rattle.std.specs.List.{insert}
use Rattle.std.specs.List.Sorted.{IsNonDecreasingBy, IsPartitionPoint}
use Rattle.std.proofs.lemmas.List.{take-append-le, drop-append-le, length-append}
use Rattle.std.proofs.lemmas.Bool.{false≢true}
use Rattle.std.proofs.lemmas.Bool.Decides.{nat_tests}
use Rattle.std.proofs.lemmas.List.Folds.{list_any-append}
use Rattle.pc_join.proofs.Joins.{or_assoc, or_comm}
use Rattle.pc_messages.specs.declared.message.TheConstants.{GREATEST_NUMBER}
use Rattle.pc_messages.specs.declared.kind.Kind.{Kind}
use Rattle.pc_messages.specs.declared.reported.Reported.{Reported}
use Rattle.pc_messages.specs.Run.{IsWellFormed, is_created}
use Rattle.pc_join.specs.Sets.{Source}
use Rattle.pc_thread_view.specs.Told.{Told, IsSound, RiseAbove, AreLater, HasEach, is_early, tells}
use Rattle.pc_thread_view.specs.Inner.Taking.{IsPlace, BeginsWith, AreBelow, Gains}
use Rattle.pc_join.specs.Ranges.{one_to}
use Rattle.pc_thread_view.specs.Inner.ToldLaws.{lacks_next}
use Rattle.pc_thread_view.proofs.Gaining.{rise_from, not_created, eq_sym}

above : (n : ℕ) (xs : List (ℕ × Kind)) (j : ℕ) (d : ℕ × Kind) → RiseAbove n xs → j < length xs → n < (get_or xs j d).0
above n [] j d h lt = absurd (omega arith)
above n (x ∷ xs) zero d h lt = h.0
above n (x ∷ xs) (suc j) d h lt = let k = above x.0 xs j d h.1 (omega arith) in omega (arith, h.0)

pub ascending : (n : ℕ) (xs : List (ℕ × Kind)) → RiseAbove n xs → IsNonDecreasingBy (λ (e : ℕ × Kind). e.0) xs
ascending n [] h i j d le lt = absurd (omega arith)
ascending n (x ∷ xs) h zero zero d le lt = omega arith
ascending n (x ∷ xs) h zero (suc j) d le lt = let k = above x.0 xs j d h.1 (omega arith) in omega arith
ascending n (x ∷ xs) h (suc i) zero d le lt = absurd (omega arith)
ascending n (x ∷ xs) h (suc i) (suc j) d le lt = ascending x.0 xs h.1 i j d (omega arith) (omega arith)

below_take : (number : ℕ) (xs : List (ℕ × Kind)) (p : ℕ) → p ≤ length xs → ((k : ℕ) (d : ℕ × Kind) → k < p → ltb (get_or xs k d).0 number ≡ true) → AreBelow number (take p xs)
below_take number [] zero le h = tt
below_take number [] (suc p) le h = absurd (omega arith)
below_take number (x ∷ xs) zero le h = tt
below_take number (x ∷ xs) (suc p) le h = (
  ltb-true x.0 number (h zero x (omega arith)),
  below_take number xs p (omega arith) (λ k d lt. h (suc k) d (omega arith)),
)

pub rise_drop : (n : ℕ) (xs : List (ℕ × Kind)) (p : ℕ) → RiseAbove n xs → RiseAbove n (drop p xs)
rise_drop n [] zero h = tt
rise_drop n [] (suc p) h = tt
rise_drop n (x ∷ xs) zero h = h
rise_drop n (x ∷ xs) (suc p) h = rise_from x.0 n (drop p xs) (let k = h.0 in omega arith) (rise_drop x.0 xs p h.1)

-- the first of the others is the number or above
first_from : (number : ℕ) (xs : List (ℕ × Kind)) (p : ℕ) → p ≤ length xs → ((k : ℕ) (d : ℕ × Kind) → p ≤ k → k < length xs → ltb (get_or xs k d).0 number ≡ false) → (e : ℕ × Kind) (es : List (ℕ × Kind)) → drop p xs ≡ e ∷ es → number ≤ e.0
first_from number [] zero le h e es f = absurd (nothing e es f)
  where
    nothing : (e : ℕ × Kind) (es : List (ℕ × Kind)) → [] ≡ e ∷ es → ⊥
    nothing e es f = cc
first_from number [] (suc p) le h e es f = absurd (omega arith)
first_from number (x ∷ xs) zero le h e es f = subst (λ (l : List (ℕ × Kind)). number ≤ (get_or l 0 x).0) f (ltb-false x.0 number (h zero x (omega arith) (omega arith)))
first_from number (x ∷ xs) (suc p) le h e es f = first_from number xs p (omega arith) (λ k d a b. h (suc k) d (omega arith) (omega arith)) e es f

pub is_early-split : (xs : List (ℕ × Kind)) (p n : ℕ) → is_early (drop p xs) n ≡ true → is_early xs n ≡ true
is_early-split [] zero n h = h
is_early-split [] (suc p) n h = h
is_early-split (x ∷ xs) zero n h = h
is_early-split (x ∷ xs) (suc p) n h = or_right (x.0 == n) (is_early xs n) (is_early-split xs p n h)
  where
    or_right : (a b : Bool) → b ≡ true → (a || b) ≡ true
    or_right true b h = refl
    or_right false b h = h

pub there : (early after : List (ℕ × Kind)) (p number : ℕ) (r : Bool) → after ≡ drop p early → BeginsWith after number r → r ≡ true → is_early early number ≡ true
there early [] p number r e h t = absurd (false≢true (sym h ∙ t))
there early (a ∷ rest) p number r e h t =
    is_early-split early p number (subst (λ es. is_early es number ≡ true) e (ap (λ b. b || is_early rest number) (sym h ∙ t)))

pub place : (early after : List (ℕ × Kind)) (p number : ℕ) (r : Bool) → RiseAbove 0 early → p ≤ length early → IsPartitionPoint (λ (y : ℕ × Kind). ltb y.0 number ≡ true) (λ (y : ℕ × Kind). ltb y.0 number ≡ false) early p
    → after ≡ drop p early → BeginsWith after number r → r ≡ false → IsPlace early number p
place early after p number r rise le point e h f = record {
  fits = le;
  before = below_take number early p le (λ k d lt. point.0 k d (omega arith) lt);
  after = subst (RiseAbove number) e (rises after (subst (RiseAbove 0) (sym e) (rise_drop 0 early p rise)) h (λ a rest g. first_from number early p le (λ k d x y. point.1 k d x y) a rest (sym e ∙ g)));
}
  where
    other : (a b : ℕ) → b ≤ a → (a == b) ≡ false → b < a
    other a b h e = grind (arith, nat_tests)

    rises : (after : List (ℕ × Kind)) → RiseAbove 0 after → BeginsWith after number r → ((a : ℕ × Kind) (rest : List (ℕ × Kind)) → after ≡ a ∷ rest → number ≤ a.0) → RiseAbove number after
    rises [] up h g = tt
    rises (a ∷ rest) up h g = (other a.0 number (g a rest refl) (sym h ∙ f), up.1)

-- a message with no number below or above the others
lacks_above : (n number : ℕ) (xs : List (ℕ × Kind)) → RiseAbove number xs → is_early xs number ≡ false
lacks_above n number [] h = refl
lacks_above n number (x ∷ xs) h = ap (λ b. b || is_early xs number) (other x.0 number h.0) ∙ lacks_above n number xs (rise_from x.0 number xs (let k = h.0 in omega arith) h.1)
  where
    other : (a b : ℕ) → b < a → (a == b) ≡ false
    other a b h = grind (arith, nat_tests)

lacks_below : (number : ℕ) (xs : List (ℕ × Kind)) → AreBelow number xs → is_early xs number ≡ false
lacks_below number [] h = refl
lacks_below number (x ∷ xs) h = ap (λ b. b || is_early xs number) (other x.0 number h.0) ∙ lacks_below number xs h.1
  where
    other : (a b : ℕ) → a < b → (a == b) ≡ false
    other a b h = grind (arith, nat_tests)

pub lacks : (early : List (ℕ × Kind)) (number p : ℕ) → IsPlace early number p → is_early early number ≡ false
lacks early number p h =
    sym (ap (λ es. is_early es number) (take-append-drop p early))
    ∙ list_any-append (λ e. e.0 == number) (take p early) (drop p early)
    ∙ ap (λ b. b || is_early (drop p early) number) (lacks_below number (take p early) h.before)
    ∙ lacks_above 0 number (drop p early) h.after

-- a number past the next of the prefix that has a place is not told, and neither is the next one
pub lacks_told : (v : Told) (number p : ℕ) → v.upto + 1 < number → IsPlace v.early number p → tells v number ≡ false
lacks_told v number p gap h = ap (λ b. b || is_early v.early number) (none v.upto number (omega arith)) ∙ lacks v.early number p h
  where
    none : (upto n : ℕ) → upto < n → one_to upto n ≡ false
    none upto n h = grind (arith, nat_tests)

pub next_lacks : (v : Told) (number : ℕ) → IsSound v → number ≡ v.upto + 1 → tells v number ≡ false
next_lacks v number h e = ap (tells v) e ∙ lacks_next v h.gap

-- where the last one is below the number, all are
pub below_last : (n : ℕ) (front : List (ℕ × Kind)) (last : ℕ × Kind) (number : ℕ) → RiseAbove n (front ++ last ∷ []) → last.0 < number → (n < number) × AreBelow number (front ++ last ∷ [])
below_last n [] last number h lt = (omega arith, (lt, tt))
below_last n (x ∷ xs) last number h lt = let k = below_last x.0 xs last number h.1 lt in (omega arith, (k.0, k.1))

pub is_there : (early : List (ℕ × Kind)) (number : ℕ) (p : Option ℕ) (r : Bool) → MatchOption p (is_early early number ≡ true) (IsPlace early number) → is_some p ≡ not r → r ≡ is_early early number
is_there early number None true h e = sym h
is_there early number None false h e = absurd (false≢true e)
is_there early number (Some p) true h e = absurd (false≢true (sym e))
is_there early number (Some p) false h e = sym (lacks early number p h)

-- one more message, at its place
rise_insert : (n : ℕ) (low high : List (ℕ × Kind)) (e : ℕ × Kind) → RiseAbove n (low ++ high) → n < e.0 → AreBelow e.0 low → RiseAbove e.0 high → RiseAbove n (low ++ e ∷ high)
rise_insert n [] high e h lt below up = (lt, up)
rise_insert n (d ∷ low) high e h lt below up = (h.0, rise_insert d.0 low high e h.1 below.0 below.1 up)

later_insert : (low high : List (ℕ × Kind)) (e : ℕ × Kind) → AreLater (low ++ high) → e.0 ≤ GREATEST_NUMBER → IsFalse (is_created e.1) → AreLater (low ++ e ∷ high)
later_insert [] high e h k c = (k, c, h)
later_insert (d ∷ low) high e h k c = (h.0, h.1, later_insert low high e h.2 k c)

each_insert : (s : Source) (low high : List (ℕ × Kind)) (e : ℕ × Kind) → HasEach s (low ++ high) → s (e.0 ∷ []) ≡ Some e.1 → HasEach s (low ++ e ∷ high)
each_insert s [] high e h k = (k, h)
each_insert s (d ∷ low) high e h k = (h.0, each_insert s low high e h.1 k)

is_early-insert : (low high : List (ℕ × Kind)) (e : ℕ × Kind) (n : ℕ) → is_early (low ++ e ∷ high) n ≡ (is_early (low ++ high) n || (n == e.0))
is_early-insert [] high e n = or_comm (e.0 == n) (is_early high n) ∙ ap (λ b. is_early high n || b) (eq_sym e.0 n)
is_early-insert (d ∷ low) high e n = ap (λ b. (d.0 == n) || b) (is_early-insert low high e n) ∙ sym (or_assoc (d.0 == n) (is_early (low ++ high) n) (n == e.0))

module _ (upto : ℕ) (state : Option Reported) (early : List (ℕ × Kind)) (number p : ℕ) (kind : Kind) (sound : IsSound (record { upto = upto; state = state; early = early })) (well : IsWellFormed number kind) (gap : upto + 1 < number) (h : IsPlace early number p) where
  joined : take p early ++ drop p early ≡ early
  joined = take-append-drop p early

  rises : RiseAbove (upto + 1) (insert early p (number, kind))
  rises = rise_insert (upto + 1) (take p early) (drop p early) (number, kind) (subst (RiseAbove (upto + 1)) (sym joined) sound.gap) gap h.before h.after

  pub gains_insert : Gains (record { upto = upto; state = state; early = early }) number kind (record { upto = upto; state = state; early = insert early p (number, kind) })
  gains_insert = record {
    sound = record {
      state = sound.state;
      upto_fits = sound.upto_fits;
      gap = rises;
      early = later_insert (take p early) (drop p early) (number, kind) (subst AreLater (sym joined) sound.early) well.greatest (not_created number kind well.created (omega arith));
    };
    union = λ n.
        ap (λ b. one_to upto n || b) (is_early-insert (take p early) (drop p early) (number, kind) n ∙ ap (λ es. is_early es n || (n == number)) joined)
        ∙ sym (or_assoc (one_to upto n) (is_early early n) (n == number));
    of_source = λ s a g. record {
      prefix = a.prefix;
      gap = rises;
      early = each_insert s (take p early) (drop p early) (number, kind) (subst (HasEach s) (sym joined) a.early) g;
    };
  }

-- the first of the messages, where the others come after the number
pub rise_take : (n : ℕ) (front rest : List (ℕ × Kind)) → RiseAbove n (front ++ rest) → RiseAbove n front
rise_take n [] rest h = tt
rise_take n (x ∷ front) rest h = (h.0, rise_take x.0 front rest h.1)

rise_more : (number n : ℕ) (front rest : List (ℕ × Kind)) → RiseAbove n (front ++ rest) → RiseAbove number front → RiseAbove number rest → RiseAbove number (front ++ rest)
rise_more number n [] rest up h k = k
rise_more number n (x ∷ front) rest up h k = (h.0, up.1)

place_more : (front rest : List (ℕ × Kind)) (number p : ℕ) → RiseAbove 0 (front ++ rest) → RiseAbove number rest → IsPlace front number p → IsPlace (front ++ rest) number p
place_more front rest number p up k h = record {
  fits = omega (arith, h.fits, length-append front rest);
  before = subst (AreBelow number) (sym (take-append-le p front rest h.fits)) h.before;
  after = subst (RiseAbove number) (sym (drop-append-le p front rest h.fits))
      (rise_more number 0 (drop p front) rest (subst (RiseAbove 0) (drop-append-le p front rest h.fits) (rise_drop 0 (front ++ rest) p up)) h.after k);
}

pub among_first : (early front rest : List (ℕ × Kind)) (number : ℕ) (r : Option ℕ) → early ≡ front ++ rest → RiseAbove 0 early → RiseAbove number rest → MatchOption r (is_early front number ≡ true) (IsPlace front number) → MatchOption r (is_early early number ≡ true) (IsPlace early number)
among_first early front rest number None e up k h = ap (λ es. is_early es number) e ∙ list_any-append (λ x. x.0 == number) front rest ∙ ap (λ b. b || is_early rest number) h
among_first early front rest number (Some p) e up k h = subst (λ es. IsPlace es number p) (sym e) (place_more front rest number p (subst (RiseAbove 0) e up) k h)
