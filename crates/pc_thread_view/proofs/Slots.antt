-- Slots in front of a list.
use Rattle.std.proofs.Common.{ℕ, suc, zero, ◌+◌, ◌-◌, ◌≤◌, ◌<◌, ◌≡◌, List, [], ◌∷◌, ◌++◌, length, take, drop, set, get_or, refl, sym, ap, ◌∙◌, subst, arith}
use Rattle.std.specs.List.{insert, copy_within}
use Rattle.std.proofs.lemmas.List.{drop-drop, set_split, length-take-le, length-drop, length-append, take-append-le, drop-append-le, append_assoc}
use Rattle.std.proofs.lemmas.List.Edits.{take-paste, drop-paste, length-paste}
use Rattle.std.proofs.Math.Seq.{paste, drop-append_seam, take-append_seam, take-length, get_or-append_seam}

pub drop_one : {X : Type 0} (n : ℕ) (xs : List X) → drop (n + 1) xs ≡ drop 1 (drop n xs)
drop_one n xs = sym (drop-drop 1 n xs)

insert_at : {X : Type 0} (front place n : ℕ) (xs : List X) (x : X) → n ≡ front + place → n ≤ length xs → drop front (insert xs n x) ≡ insert (drop front xs) place x
insert_at zero place n xs x e h = ap (λ k. insert xs k x) (same n place e)
  where
    same : (n place : ℕ) → n ≡ 0 + place → n ≡ place
    same n place e = omega arith
insert_at (suc front) place n [] x e h = absurd (omega arith)
insert_at (suc front) place zero (y ∷ xs) x e h = absurd (omega arith)
insert_at (suc front) place (suc m) (y ∷ xs) x e h = insert_at front place m xs x (omega arith) (omega arith)

pub insert_dropped : {X : Type 0} (front place : ℕ) (xs : List X) (x : X) → front + place ≤ length xs → drop front (insert xs (front + place) x) ≡ insert (drop front xs) place x
insert_dropped front place xs x h = insert_at front place (front + place) xs x refl h

-- messages one slot down, and one more behind them
-- what stands behind the first of a list
pub seam : {X : Type 0} (front : ℕ) (xs ys : List X) → front ≤ length xs → drop front (take front xs ++ ys) ≡ ys
seam front xs ys h = subst (λ n. drop n (take front xs ++ ys) ≡ ys) (length-take-le front xs h) (drop-append_seam (take front xs) ys)

rest_of : {X : Type 0} (front place : ℕ) (xs : List X) → drop 1 (drop (front + place) xs) ≡ drop place (drop (front + 1) xs)
rest_of front place xs = drop-drop 1 (front + place) xs ∙ ap (λ n. drop n xs) (same front place) ∙ sym (drop-drop place (front + 1) xs)
  where
    same : (a b : ℕ) → a + b + 1 ≡ a + 1 + b
    same a b = omega arith

module _ {X : Type 0} (front place : ℕ) (xs : List X) (x : X) (h : front + 1 + place ≤ length xs) where
  few : place ≤ length (drop (front + 1) xs)
  few = omega (arith, length-drop (front + 1) xs)

  lowered_paste : drop front (set (paste xs front (drop (front + 1) xs) place) (front + place) x) ≡ insert (drop (front + 1) xs) place x
  lowered_paste =
      let p : List X = paste xs front (drop (front + 1) xs) place in
      let fits : front ≤ length xs = omega arith in
      let split : set p (front + place) x ≡ take (front + place) p ++ x ∷ drop (suc (front + place)) p = set_split p (front + place) x (omega (arith, length-paste xs front (drop (front + 1) xs) place (omega arith) few)) in
      let low : take (front + place) p ≡ take front xs ++ take place (drop (front + 1) xs) = take-paste xs front (drop (front + 1) xs) place fits few in
      let one_more : suc (front + place) ≡ front + place + 1 = omega arith in
      let high : drop (suc (front + place)) p ≡ drop place (drop (front + 1) xs) = ap (λ n. drop n p) one_more ∙ sym (drop-drop 1 (front + place) p) ∙ ap (drop 1) (drop-paste xs front (drop (front + 1) xs) place fits few) ∙ rest_of front place xs in
      ap (drop front) (split ∙ (λ i. low i ++ x ∷ high i) ∙ append_assoc (take front xs) (take place (drop (front + 1) xs)) (x ∷ drop place (drop (front + 1) xs)))
      ∙ seam front xs (insert (drop (front + 1) xs) place x) fits

  pub lowered : drop front (set (copy_within xs (front + 1) (front + 1 + place) front) (front + place) x) ≡ insert (drop (front + 1) xs) place x
  lowered = ap (λ n. drop front (set (paste xs front (drop (front + 1) xs) n) (front + place) x)) (many front place) ∙ lowered_paste
    where
      many : (a b : ℕ) → a + 1 + b - (a + 1) ≡ b
      many a b = omega arith

-- one more message at its place, and the later ones one slot up
more_than : (n : ℕ) → suc n ≡ n + 1
more_than n = omega arith

left_of : {X : Type 0} (n last : ℕ) (xs : List X) → last ≡ length xs → last - n ≡ length (drop n xs)
left_of n last xs e = omega (arith, e, length-drop n xs)

fewer : {X : Type 0} (n : ℕ) (all : List X) → take n (take (suc n) all) ≡ take n all
fewer zero all = refl
fewer (suc n) [] = refl
fewer (suc n) (y ∷ all) = ap (λ l. y ∷ l) (fewer n all)

pub raised : {X : Type 0} (n last : ℕ) (xs : List X) (y x : X) → n ≤ length xs → last ≡ length xs → set (copy_within (xs ++ y ∷ []) n last (n + 1)) n x ≡ insert xs n x
raised n last xs y x h e =
    let all = xs ++ y ∷ [] in
    let k = last - n in
    let p = paste all (n + 1) (drop n all) k in
    let len : length all ≡ length xs + 1 = length-append xs (y ∷ []) in
    let high : drop n all ≡ drop n xs ++ y ∷ [] = drop-append-le n xs (y ∷ []) h in
    let whole : p ≡ take (n + 1) all ++ take k (drop n all) =
    sym (subst (λ m. take m p ≡ p) (omega (arith, e, len, length-paste all (n + 1) (drop n all) k (omega (arith, e, len)) (omega (arith, e, len, length-drop n all)))) (take-length p))
    ∙ take-paste all (n + 1) (drop n all) k (omega (arith, len)) (omega (arith, e, len, length-drop n all)) in
    let front : take n p ≡ take n xs = ap (take n) whole ∙ take-append-le n (take (n + 1) all) (take k (drop n all)) (omega (arith, len, length-take-le (n + 1) all (omega (arith, len)))) ∙ ap (λ m. take n (take m all)) (sym (more_than n)) ∙ fewer n all ∙ take-append-le n xs (y ∷ []) h in
    let behind : drop (suc n) p ≡ drop n xs =
    ap (λ m. drop m p) (more_than n) ∙ ap (drop (n + 1)) whole ∙ seam (n + 1) all (take k (drop n all)) (omega (arith, len))
    ∙ ap (take k) high ∙ ap (λ m. take m (drop n xs ++ y ∷ [])) (left_of n last xs e) ∙ take-append_seam (drop n xs) (y ∷ []) in
    set_split p n x (omega (arith, e, len, length-paste all (n + 1) (drop n all) k (omega (arith, e, len)) (omega (arith, e, len, length-drop n all)))) ∙ (λ i. front i ++ x ∷ behind i)

pub written : {X : Type 0} (n : ℕ) (new old : List X) → length new ≡ length old → n ≡ length old → take n (new ++ drop (length new) old) ≡ new
written n new old e f = ap (λ m. take m (new ++ drop (length new) old)) (f ∙ sym e) ∙ take-append_seam new (drop (length new) old)

-- the last one at its place
pub raised_last : {X : Type 0} (n last : ℕ) (old others : List X) (y x : X) → old ≡ others ++ y ∷ [] → last ≡ length old - 1 → n < length old → x ≡ get_or old last x → set (copy_within old n last (n + 1)) n x ≡ insert others n y
raised_last n last old others y x e l h i =
    let len : length old ≡ length others + 1 = ap length e ∙ length-append others (y ∷ []) in
    let at : last ≡ length others = omega (arith, len, l) in
    let same : x ≡ y = i ∙ (λ j. get_or (e j) (at j) x) ∙ get_or-append_seam others y [] x in
    ap (λ xs. set (copy_within xs n last (n + 1)) n x) e ∙ raised n last others y x (omega (arith, len, h)) at ∙ ap (insert others n) same
