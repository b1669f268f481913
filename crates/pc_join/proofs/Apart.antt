-- Ranges that are apart.
use Rattle.std.proofs.Common.{ℕ, ◌+◌, ◌-◌, ◌<◌, ◌≤◌, ◌≡◌, ◌||◌, nat_le, max, Bool, true, false, List, [], ◌∷◌, ◌++◌, length, take, drop, set, length-set, refl, sym, ap, ◌∙◌, subst, arith, IsTrue, ◌↔◌, inl, inr}
use Rattle.std.proofs.lemmas.Bool.Decides.{nat_tests}
use Rattle.std.proofs.lemmas.List.Folds.{list_any-append}
use Rattle.pc_join.specs.Ranges.{in_range, in_ranges, AreApart}
use Rattle.pc_join.specs.Inner.Ranges.{IsEither, IsAmid, StartBy, StartBefore, IsStretched, IsMerging}
use Rattle.pc_join.specs.Inner.Turns.{IsNotAfter, IsTurn}
use Rattle.std.specs.List.{refill}
use Rattle.std.proofs.Math.Seq.{set-append_seam, take-append_seam}
use Rattle.pc_messages.proofs.Bools.{or_left, or_none}

-- ranges after which there is one more
pub apart_wider : (n : ℕ) (front : List (ℕ × ℕ)) (f t u : ℕ) → AreApart n (front ++ (f, t) ∷ []) → t ≤ u → AreApart n (front ++ (f, u) ∷ [])
apart_wider n [] f t u h e = (h.0, omega arith, tt)
apart_wider n (r ∷ rs) f t u h e = (h.0, h.1, apart_wider (r.1 + 1) rs f t u h.2 e)

pub apart_push : (n : ℕ) (front : List (ℕ × ℕ)) (f t g u : ℕ) → AreApart n (front ++ (f, t) ∷ []) → t + 1 < g → g ≤ u → AreApart n ((front ++ (f, t) ∷ []) ++ (g, u) ∷ [])
apart_push n [] f t g u h e k = (h.0, h.1, (e, k, tt))
apart_push n (r ∷ rs) f t g u h e k = (h.0, h.1, apart_push (r.1 + 1) rs f t g u h.2 e k)

pub starts_push : (front : List (ℕ × ℕ)) (r : ℕ × ℕ) (n : ℕ) → StartBy front n → r.0 ≤ n → StartBy (front ++ r ∷ []) n
starts_push [] r n h e = (e, tt)
starts_push (s ∷ ss) r n h e = (h.0, starts_push ss r n h.1 e)

pub starts_front : (front : List (ℕ × ℕ)) (r : ℕ × ℕ) (n : ℕ) → StartBy (front ++ r ∷ []) n → StartBy front n × (r.0 ≤ n)
starts_front [] r n h = (tt, h.0)
starts_front (s ∷ ss) r n h = let k = starts_front ss r n h.1 in ((h.0, k.0), k.1)

pub starts_wider : (rs : List (ℕ × ℕ)) (n m : ℕ) → StartBy rs n → n ≤ m → StartBy rs m
starts_wider [] n m h e = tt
starts_wider (r ∷ rs) n m h e = (omega arith, starts_wider rs n m h.1 e)

-- no range starts after the last
pub starts_by_last : (n : ℕ) (front : List (ℕ × ℕ)) (r : ℕ × ℕ) (m : ℕ) → AreApart n (front ++ r ∷ []) → r.0 ≤ m → (n < m) × StartBy (front ++ r ∷ []) m
starts_by_last n [] r m h e = (omega arith, (e, tt))
starts_by_last n (s ∷ ss) r m h e = let k = starts_by_last (s.1 + 1) ss r m h.2 e in (omega arith, (omega arith, k.1))

pub last_start : (n : ℕ) (front : List (ℕ × ℕ)) (r : ℕ × ℕ) (m : ℕ) → AreApart n (front ++ r ∷ []) → IsTrue (nat_le r.0 m) ↔ StartBy (front ++ r ∷ []) m
last_start n front r m h = (λ e. (starts_by_last n front r m h (le_of r.0 m e)).1, λ s. le_test r.0 m (starts_front front r m s).1)
  where
    le_of : (a b : ℕ) → IsTrue (nat_le a b) → a ≤ b
    le_of a b e = grind (arith, nat_tests)

    le_test : (a b : ℕ) → a ≤ b → IsTrue (nat_le a b)
    le_test a b e = grind (arith, nat_tests)

either_empty : (b : Bool) → b ≡ (b || false)
either_empty true = refl
either_empty false = refl

-- the members of a list with one more at its end
pub in_ranges-push : (front : List (ℕ × ℕ)) (r : ℕ × ℕ) (n : ℕ) → in_ranges (front ++ r ∷ []) n ≡ (in_ranges front n || in_range r n)
in_ranges-push front r n = list_any-append (λ s. in_range s n) front (r ∷ []) ∙ ap (λ b. in_ranges front n || b) (sym (either_empty (in_range r n)))

wider_at : (f t g u n : ℕ) → f ≤ g → f ≤ t → g ≤ u → g - 1 ≤ t → in_range (f, max t u) n ≡ (in_range (f, t) n || in_range (g, u) n)
wider_at f t g u n a b c d = grind (arith, nat_tests)

or_assoc : (a b c : Bool) → (a || (b || c)) ≡ ((a || b) || c)
or_assoc true b c = refl
or_assoc false b c = refl

not_empty : (n : ℕ) (front : List (ℕ × ℕ)) (r : ℕ × ℕ) → AreApart n (front ++ r ∷ []) → r.0 ≤ r.1
not_empty n [] r h = h.1
not_empty n (s ∷ ss) r h = not_empty (s.1 + 1) ss r h.2

pub stretched : (front : List (ℕ × ℕ)) (f t g u : ℕ) → AreApart 0 (front ++ (f, t) ∷ []) → StartBy (front ++ (f, t) ∷ []) g → g ≤ u → g - 1 ≤ t → IsStretched (front ++ (f, t) ∷ []) (g, u) (front ++ (f, max t u) ∷ [])
stretched front f t g u h s e k =
    let parts = starts_front front (f, t) g s in
    let some = not_empty 0 front (f, t) h in
    record {
      apart = apart_wider 0 front f t (max t u) h (omega arith);
      starts = starts_push front (f, max t u) g parts.0 parts.1;
      union = λ n. in_ranges-push front (f, max t u) n
          ∙ ap (λ b. in_ranges front n || b) (wider_at f t g u n parts.1 some e k)
          ∙ or_assoc (in_ranges front n) (in_range (f, t) n) (in_range (g, u) n)
          ∙ ap (λ b. b || in_range (g, u) n) (sym (in_ranges-push front (f, t) n));
    }

pub pushed : (front : List (ℕ × ℕ)) (f t g u : ℕ) → AreApart 0 (front ++ (f, t) ∷ []) → StartBy (front ++ (f, t) ∷ []) g → g ≤ u → t < g - 1 → IsStretched (front ++ (f, t) ∷ []) (g, u) ((front ++ (f, t) ∷ []) ++ (g, u) ∷ [])
pushed front f t g u h s e k = record {
  apart = apart_push 0 front f t g u h (omega arith) e;
  starts = starts_push (front ++ (f, t) ∷ []) (g, u) g s (omega arith);
  union = λ n. in_ranges-push (front ++ (f, t) ∷ []) (g, u) n;
}

pub pushed_first : (g u : ℕ) → 1 ≤ g → g ≤ u → IsStretched [] (g, u) ((g, u) ∷ [])
pushed_first g u h e = record { apart = (omega arith, e, tt); starts = (omega arith, tt); union = λ n. sym (either_empty (in_range (g, u) n)) }

pub apart_from : (n m : ℕ) (rs : List (ℕ × ℕ)) → m ≤ n → AreApart n rs → AreApart m rs
apart_from n m [] h k = tt
apart_from n m (r ∷ rs) h k = (omega arith, k.1, k.2)

-- before a turn, the next range may be joined to the end
pub record CanTake (now : List (ℕ × ℕ)) (range : ℕ × ℕ) : Type 0 where
  pub starts : StartBy now range.0
  pub positive : 1 ≤ range.0
  pub some : range.0 ≤ range.1

can_take_first : {now : List (ℕ × ℕ)} (e : ℕ × ℕ) (es : List (ℕ × ℕ)) → AreApart 0 (e ∷ es) → StartBefore now (e ∷ es) → CanTake now e
can_take_first e es h k = record { starts = k; positive = omega arith; some = h.1 }

module _ {old first other now left right : List (ℕ × ℕ)} where
  pub can_take : (entry : ℕ × ℕ) (left_after right_after : List (ℕ × ℕ)) → IsMerging old first other now left right → IsTurn left right entry left_after right_after → CanTake now entry
  can_take e ls rs h (inl t) = can_take_first e ls (subst (AreApart 0) t.0 h.left_apart) (subst (StartBefore now) t.0 h.left_later)
  can_take e ls rs h (inr t) = can_take_first e rs (subst (AreApart 0) t.0 h.right_apart) (subst (StartBefore now) t.0 h.right_later)

-- what is left starts after what was taken
later_rest : (new : List (ℕ × ℕ)) (e : ℕ × ℕ) (es : List (ℕ × ℕ)) → AreApart 0 (e ∷ es) → StartBy new e.0 → StartBefore new es
later_rest new e [] h k = tt
later_rest new e (d ∷ ds) h k = starts_wider new e.0 d.0 k (omega arith)

later_other : (new : List (ℕ × ℕ)) (e : ℕ × ℕ) (es : List (ℕ × ℕ)) → IsNotAfter e es → StartBy new e.0 → StartBefore new es
later_other new e [] h k = tt
later_other new e (d ∷ ds) h k = starts_wider new e.0 d.0 k h

taken_left : (a e l r x : Bool) → ((a || e) || (l || r)) ≡ (a || ((e || l) || r))
taken_left true e l r x = refl
taken_left false true l r x = refl
taken_left false false l r x = refl

taken_right : (a e l r x : Bool) → ((a || e) || (l || r)) ≡ (a || (l || (e || r)))
taken_right true e l r x = refl
taken_right false true true r x = refl
taken_right false true false r x = refl
taken_right false false l r x = refl

-- how far they have been joined, after a turn
module _ (old first other now : List (ℕ × ℕ)) (new : List (ℕ × ℕ)) (e : ℕ × ℕ) (s : IsStretched now e new) where
  took_left : (es right : List (ℕ × ℕ)) → IsNotAfter e right → IsMerging old first other now (e ∷ es) right → IsMerging old first other new es right
  took_left es right t h = record {
    same = λ n. ap (λ b. b || (in_ranges es n || in_ranges right n)) (s.union n)
        ∙ taken_left (in_ranges now n) (in_range e n) (in_ranges es n) (in_ranges right n) true
        ∙ h.same n;
    kept = λ n k. s.union n ∙ or_left (in_ranges now n) (in_range e n) (h.kept n k);
    apart = s.apart;
    left_apart = apart_from (e.1 + 1) 0 es (omega arith) h.left_apart.2;
    right_apart = h.right_apart;
    left_later = later_rest new e es h.left_apart s.starts;
    right_later = later_other new e right t s.starts;
  }

  took_right : (left es : List (ℕ × ℕ)) → IsNotAfter e left → IsMerging old first other now left (e ∷ es) → IsMerging old first other new left es
  took_right left es t h = record {
    same = λ n. ap (λ b. b || (in_ranges left n || in_ranges es n)) (s.union n)
        ∙ taken_right (in_ranges now n) (in_range e n) (in_ranges left n) (in_ranges es n) true
        ∙ h.same n;
    kept = λ n k. s.union n ∙ or_left (in_ranges now n) (in_range e n) (h.kept n k);
    apart = s.apart;
    left_apart = h.left_apart;
    right_apart = apart_from (e.1 + 1) 0 es (omega arith) h.right_apart.2;
    left_later = later_other new e left t s.starts;
    right_later = later_rest new e es h.right_apart s.starts;
  }

  pub took : (left right left_after right_after : List (ℕ × ℕ)) → IsMerging old first other now left right → IsTurn left right e left_after right_after → IsMerging old first other new left_after right_after
  took left right ls rs h (inl t) =
      let before : IsMerging old first other now (e ∷ ls) right = subst (λ x. IsMerging old first other now x right) t.0 h in
      subst (λ x. IsMerging old first other new ls x) (sym t.1) (took_left ls right t.2 before)
  took left right ls rs h (inr t) =
      let before : IsMerging old first other now left (e ∷ rs) = subst (λ x. IsMerging old first other now left x) t.0 h in
      subst (λ x. IsMerging old first other new x rs) (sym t.1) (took_right left rs t.2 before)

pub merged : (old first other now left right : List (ℕ × ℕ)) → IsMerging old first other now left right → left ≡ [] → right ≡ [] → IsEither (in_ranges old) (λ n. in_ranges first n || in_ranges other n) (in_ranges now)
merged old first other now left right h l r =
    let half : IsMerging old first other now left [] = subst (λ x. IsMerging old first other now left x) r h in
    let done : IsMerging old first other now [] [] = subst (λ x. IsMerging old first other now x []) l half in
    λ n. sym (or_none (in_ranges now n)) ∙ done.same n

pub amid_merging : {old first other now left right : List (ℕ × ℕ)} → IsMerging old first other now left right → IsAmid (in_ranges old) (λ n. in_ranges first n || in_ranges other n) (in_ranges now)
amid_merging {now = now} {left = left} {right = right} h = record { at_least = h.kept; at_most = λ n k. sym (h.same n) ∙ or_left (in_ranges now n) (in_ranges left n || in_ranges right n) k }

-- each turn makes the lists shorter
pub fewer : {X : Type 0} (first other first_left other_left : List (ℕ × X)) (e : ℕ × X) → IsTurn first other e first_left other_left → length first_left + length other_left < length first + length other
fewer first other fs os e (inl t) = omega (arith, ap length t.0, ap length t.1)
fewer first other fs os e (inr t) = omega (arith, ap length t.0, ap length t.1)

-- one range at the end, in place of the last or after it
pub append_at : (items front : List (ℕ × ℕ)) (last : ℕ × ℕ) (g u : ℕ) → items ≡ front ++ last ∷ [] → AreApart 0 items → StartBy items g → g ≤ u → g - 1 ≤ last.1 → IsStretched items (g, u) (set items (length front) (last.0, max last.1 u))
append_at items front last g u e h s k w =
    let P : List (ℕ × ℕ) → Type 0 = λ xs. IsStretched xs (g, u) (set xs (length front) (last.0, max last.1 u)) in
    subst P (sym e) (subst (IsStretched (front ++ last ∷ []) (g, u)) (sym (set-append_seam front last [] (last.0, max last.1 u)))
    (stretched front last.0 last.1 g u (subst (AreApart 0) e h) (subst (λ xs. StartBy xs g) e s) k w))

pub append_after : (items front : List (ℕ × ℕ)) (last : ℕ × ℕ) (g u : ℕ) → items ≡ front ++ last ∷ [] → AreApart 0 items → StartBy items g → g ≤ u → last.1 < g - 1 → IsStretched items (g, u) (items ++ (g, u) ∷ [])
append_after items front last g u e h s k w =
    let P : List (ℕ × ℕ) → Type 0 = λ xs. IsStretched xs (g, u) (xs ++ (g, u) ∷ []) in
    subst P (sym e) (pushed front last.0 last.1 g u (subst (AreApart 0) e h) (subst (λ xs. StartBy xs g) e s) k w)

-- a range written over another through a slice
pub refilled : (items now : List (ℕ × ℕ)) (place : ℕ) (range : ℕ × ℕ) → now ≡ items → refill (length items) items (set now place range) ≡ set items place range
refilled items now place range e =
    let same : length items ≡ length (set now place range) = ap length (sym e) ∙ sym (length-set now place range) in
    ap (λ n. take n (set now place range ++ drop (length (set now place range)) items)) same ∙ take-append_seam (set now place range) (drop (length (set now place range)) items) ∙ ap (λ xs. set xs place range) e
