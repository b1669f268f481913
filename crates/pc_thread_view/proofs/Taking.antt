-- Two lists of messages, taken in by turns.
use Rattle.std.proofs.Common.{ℕ, ◌+◌, ◌<◌, ◌≤◌, ◌≡◌, ◌==◌, ◌||◌, Bool, true, false, List, [], ◌∷◌, ◌++◌, length, get_or, refl, sym, ap, ◌∙◌, subst, arith, inl, inr, Some}
use Rattle.std.proofs.lemmas.Bool.{false≢true}
use Rattle.std.proofs.lemmas.Bool.Decides.{nat_tests}
use Rattle.pc_join.proofs.Joins.{or_assoc}
use Rattle.pc_messages.specs.declared.kind.Kind.{Kind}
use Rattle.pc_messages.specs.Run.{IsWellFormed}
use Rattle.pc_join.specs.Sets.{Source}
use Rattle.pc_join.specs.Inner.Ranges.{IsEither, IsAmid}
use Rattle.pc_join.specs.Inner.Turns.{IsNotAfter, IsTurn}
use Rattle.pc_thread_view.specs.Told.{Told, IsSound, IsOfThread, RiseAbove, HasEach, tells, is_early}
use Rattle.pc_thread_view.specs.Inner.Taking.{Gains, NoneAbove, NoneAfter, AreTold, IsTaking}
use Rattle.pc_join.specs.Ranges.{one_to}
use Rattle.pc_thread_view.proofs.Gaining.{rise_from, eq_sym}
use Rattle.pc_messages.proofs.Bools.{or_left, or_none}

pub taking_start : (old : Told) (first other : List (ℕ × Kind)) → IsSound old → AreTold first → AreTold other → NoneAfter old.early first → NoneAfter old.early other → IsTaking old first other old first other
taking_start old first other sound f o fa oa = record {
  same = λ n. refl;
  kept = λ n e. e;
  sound = sound;
  left_told = f;
  right_told = o;
  left_after = fa;
  right_after = oa;
  of_source = λ s h g k. (h, g, k);
}

-- the next message may be taken in at the end
pub record CanTake (now : Told) (e : ℕ × Kind) : Type 0 where
  pub well_formed : IsWellFormed e.0 e.1
  pub last : NoneAbove e.0 now.early

first_well_formed : (e : ℕ × Kind) (es : List (ℕ × Kind)) → AreTold (e ∷ es) → IsWellFormed e.0 e.1
first_well_formed e es h = record {
  from_one = let k = h.rise.0 in omega arith;
  greatest = h.later.0;
  created = (λ t. absurd (false≢true (sym h.later.1 ∙ t)), λ one. absurd (let k = h.rise.0 in omega arith));
}

pub told_rest : (e : ℕ × Kind) (es : List (ℕ × Kind)) → AreTold (e ∷ es) → AreTold es
told_rest e es h = record { rise = rise_from e.0 1 es (let k = h.rise.0 in omega arith) h.rise.1; later = h.later.2 }

module _ {old now : Told} {first other left right : List (ℕ × Kind)} where
  pub can_take : (entry : ℕ × Kind) (left_after right_after : List (ℕ × Kind)) → IsTaking old first other now left right → IsTurn left right entry left_after right_after → CanTake now entry
  can_take e ls rs h (inl t) = record { well_formed = first_well_formed e ls (subst AreTold t.0 h.left_told); last = subst (NoneAfter now.early) t.0 h.left_after }
  can_take e ls rs h (inr t) = record { well_formed = first_well_formed e rs (subst AreTold t.0 h.right_told); last = subst (NoneAfter now.early) t.0 h.right_after }

none_wider : (n m : ℕ) (early : List (ℕ × Kind)) → n ≤ m → NoneAbove n early → NoneAbove m early
none_wider n m [] h k = tt
none_wider n m (e ∷ es) h k = (omega arith, none_wider n m es h k.1)

after_rest : (early : List (ℕ × Kind)) (e : ℕ × Kind) (es : List (ℕ × Kind)) → AreTold (e ∷ es) → NoneAbove e.0 early → NoneAfter early es
after_rest early e [] h k = tt
after_rest early e (d ∷ ds) h k = none_wider e.0 d.0 early (let g = h.rise.1.0 in omega arith) k

after_other : (early : List (ℕ × Kind)) (e : ℕ × Kind) (es : List (ℕ × Kind)) → IsNotAfter e es → NoneAbove e.0 early → NoneAfter early es
after_other early e [] h k = tt
after_other early e (d ∷ ds) h k = none_wider e.0 d.0 early h k

taken_left : (a e l r : Bool) → ((a || e) || (l || r)) ≡ (a || ((e || l) || r))
taken_left true e l r = refl
taken_left false true l r = refl
taken_left false false l r = refl

taken_right : (a e l r : Bool) → ((a || e) || (l || r)) ≡ (a || (l || (e || r)))
taken_right true e l r = refl
taken_right false true true r = refl
taken_right false true false r = refl
taken_right false false l r = refl

module _ (old : Told) (first other : List (ℕ × Kind)) (now new : Told) (e : ℕ × Kind) (g : Gains now e.0 e.1 new) (last : NoneAbove e.0 new.early) where
  gained : (n : ℕ) → tells new n ≡ (tells now n || (e.0 == n))
  gained n = g.union n ∙ ap (λ b. tells now n || b) (eq_sym n e.0)

  took_left : (es right : List (ℕ × Kind)) → IsNotAfter e right → IsTaking old first other now (e ∷ es) right → IsTaking old first other new es right
  took_left es right t h = record {
    same = λ n. ap (λ b. b || (is_early es n || is_early right n)) (gained n)
        ∙ taken_left (tells now n) (e.0 == n) (is_early es n) (is_early right n)
        ∙ h.same n;
    kept = λ n k. gained n ∙ or_left (tells now n) (e.0 == n) (h.kept n k);
    sound = g.sound;
    left_told = told_rest e es h.left_told;
    right_told = h.right_told;
    left_after = after_rest new.early e es h.left_told last;
    right_after = after_other new.early e right t last;
    of_source = λ s a b d. let k = h.of_source s a b d in (g.of_source s k.0 k.1.0, k.1.1, k.2);
  }

  took_right : (left es : List (ℕ × Kind)) → IsNotAfter e left → IsTaking old first other now left (e ∷ es) → IsTaking old first other new left es
  took_right left es t h = record {
    same = λ n. ap (λ b. b || (is_early left n || is_early es n)) (gained n)
        ∙ taken_right (tells now n) (e.0 == n) (is_early left n) (is_early es n)
        ∙ h.same n;
    kept = λ n k. gained n ∙ or_left (tells now n) (e.0 == n) (h.kept n k);
    sound = g.sound;
    left_told = h.left_told;
    right_told = told_rest e es h.right_told;
    left_after = after_other new.early e left t last;
    right_after = after_rest new.early e es h.right_told last;
    of_source = λ s a b d. let k = h.of_source s a b d in (g.of_source s k.0 k.2.0, k.1, k.2.1);
  }

  pub took : (left right left_after right_after : List (ℕ × Kind)) → IsTaking old first other now left right → IsTurn left right e left_after right_after → IsTaking old first other new left_after right_after
  took left right ls rs h (inl t) =
      let before : IsTaking old first other now (e ∷ ls) right = subst (λ x. IsTaking old first other now x right) t.0 h in
      subst (λ x. IsTaking old first other new ls x) (sym t.1) (took_left ls right t.2 before)
  took left right ls rs h (inr t) =
      let before : IsTaking old first other now left (e ∷ rs) = subst (λ x. IsTaking old first other now left x) t.0 h in
      subst (λ x. IsTaking old first other new x rs) (sym t.1) (took_right left rs t.2 before)

pub taken : (old : Told) (first other : List (ℕ × Kind)) (now : Told) (left right : List (ℕ × Kind)) → IsTaking old first other now left right → left ≡ [] → right ≡ [] → IsEither (tells old) (λ n. is_early first n || is_early other n) (tells now)
taken old first other now left right h l r n =
    let half : IsTaking old first other now left [] = subst (λ x. IsTaking old first other now left x) r h in
    let done : IsTaking old first other now [] [] = subst (λ x. IsTaking old first other now x []) l half in
    sym (or_none (tells now n)) ∙ done.same n

pub amid_taking : (old : Told) (first other : List (ℕ × Kind)) (now : Told) (left right : List (ℕ × Kind)) → IsTaking old first other now left right → IsAmid (tells old) (λ n. is_early first n || is_early other n) (tells now)
amid_taking old first other now left right h = record { at_least = h.kept; at_most = λ n k. sym (h.same n) ∙ or_left (tells now n) (is_early left n || is_early right n) k }

pub source_taking : (old : Told) (first other : List (ℕ × Kind)) (now : Told) (left right : List (ℕ × Kind)) → IsTaking old first other now left right → (s : Source) → IsOfThread old s → HasEach s first → HasEach s other → IsOfThread now s
source_taking old first other now left right h s a b d = (h.of_source s a b d).0

-- where the last early message is not after the first to come, none is
pub none_by_last : (n : ℕ) (front : List (ℕ × Kind)) (last : ℕ × Kind) (m : ℕ) → RiseAbove n (front ++ last ∷ []) → last.0 ≤ m → (n < m) × NoneAbove m (front ++ last ∷ [])
none_by_last n [] last m h e = (omega arith, (e, tt))
none_by_last n (d ∷ ds) last m h e = let k = none_by_last d.0 ds last m h.1 e in (omega arith, (omega arith, k.1))

pub after_none : (early : List (ℕ × Kind)) → early ≡ [] → (more : List (ℕ × Kind)) → NoneAfter early more
after_none early e [] = tt
after_none early e (d ∷ ds) = subst (NoneAbove d.0) (sym e) tt

-- the early messages of a sound view
pub early_told : (v : Told) → IsSound v → AreTold v.early
early_told v h = record { rise = rise_from (v.upto + 1) 1 v.early (omega arith) h.gap; later = h.early }

-- a join in place
mid : (p q f a b : Bool) → (q ≡ true → p ≡ true) → ((p || a) || (false || b)) ≡ ((p || a) || (q || b))
mid true q f a b h = refl
mid false true f a b h = absurd (false≢true (h refl))
mid false false f a b h = refl

less_prefix : (t u n : ℕ) → t ≤ u → one_to t n ≡ true → one_to u n ≡ true
less_prefix t u n h e = grind (arith, nat_tests)

module _ (a b v : Told) (h : b.upto ≤ a.upto) where
  in_place : (n : ℕ) → (tells a n || is_early b.early n) ≡ (tells a n || tells b n)
  in_place n = mid (one_to a.upto n) (one_to b.upto n) false (is_early a.early n) (is_early b.early n) (less_prefix b.upto a.upto n h)

  pub union_in_place : IsEither (tells a) (is_early b.early) (tells v) → IsEither (tells a) (tells b) (tells v)
  union_in_place e n = e n ∙ in_place n

  pub amid_in_place : IsAmid (tells a) (is_early b.early) (tells v) → IsAmid (tells a) (tells b) (tells v)
  amid_in_place e = record { at_least = e.at_least; at_most = λ n k. sym (in_place n) ∙ e.at_most n k }

-- a join after the other's prefix was taken in

module _ (a b m v : Told) (e : IsEither (tells a) (one_to b.upto) (tells m)) where
  pub union_advanced : IsEither (tells m) (is_early b.early) (tells v) → IsEither (tells a) (tells b) (tells v)
  union_advanced f n = f n ∙ ap (λ t. t || is_early b.early n) (e n) ∙ or_assoc (tells a n) (one_to b.upto n) (is_early b.early n)

  pub amid_advanced : IsAmid (tells m) (is_early b.early) (tells v) → IsAmid (tells a) (tells b) (tells v)
  amid_advanced f = record {
    at_least = λ n k. f.at_least n (e n ∙ or_left (tells a n) (one_to b.upto n) k);
    at_most = λ n k. sym (or_assoc (tells a n) (one_to b.upto n) (is_early b.early n)) ∙ ap (λ t. t || is_early b.early n) (sym (e n)) ∙ f.at_most n k;
  }

-- a join all anew
shuffled : (p a b : Bool) → ((p || false) || (a || b)) ≡ ((p || a) || b)
shuffled true a b = refl
shuffled false a b = refl

module _ (a fresh : Told) (alone : fresh ≡ record { upto = a.upto; state = a.state; early = [] }) where
  pub fresh_sound : IsSound a → IsSound fresh
  fresh_sound h = subst IsSound (sym alone) (record { state = h.state; upto_fits = h.upto_fits; gap = tt; early = tt })

  pub fresh_source : (s : Source) → IsOfThread a s → IsOfThread fresh s
  fresh_source s h = subst (λ v. IsOfThread v s) (sym alone) (record { prefix = h.prefix; gap = tt; early = tt })

  pub fresh_after : (more : List (ℕ × Kind)) → NoneAfter fresh.early more
  fresh_after more = after_none fresh.early (ap (λ v. v.early) alone) more

  pub union_anew : (more : List (ℕ × Kind)) (v : Told) → IsEither (tells fresh) (λ n. is_early a.early n || is_early more n) (tells v) → IsEither (tells a) (is_early more) (tells v)
  union_anew more v e n =
      e n ∙ ap (λ f. tells f n || (is_early a.early n || is_early more n)) alone
      ∙ shuffled (one_to a.upto n) (is_early a.early n) (is_early more n)

-- one message
pub one_of_source : (more : List (ℕ × Kind)) (one : ℕ × Kind) (s : Source) → 1 ≤ length more → length more < 2 → one ≡ get_or more 0 one → HasEach s more → s (one.0 ∷ []) ≡ Some one.1
one_of_source [] one s h k e each = absurd (omega arith)
one_of_source (d ∷ []) one s h k e each = subst (λ (x : ℕ × Kind). s (x.0 ∷ []) ≡ Some x.1) (sym e) each.0
one_of_source (d ∷ e ∷ es) one s h k f each = absurd (omega arith)

pub amid_nothing : (f g : ℕ → Bool) → IsAmid f g f
amid_nothing f g = record { at_least = λ n e. e; at_most = λ n e. or_left (f n) (g n) e }

pub amid_either : (f g h : ℕ → Bool) → IsEither f g h → IsAmid f g h
amid_either f g h e = record { at_least = λ n k. e n ∙ or_left (f n) (g n) k; at_most = λ n k. sym (e n) ∙ k }
