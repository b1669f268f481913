-- Lists that are read element by element.
use Rattle.std.proofs.Common.{ℕ, ◌≡◌, ◌+◌, ◌<◌, List, [], ◌∷◌, ◌++◌, length, get_or, take, drop, map, add-one, Ok, Err, refl, sym, ap, ◌∙◌, subst, arith}
use Rattle.std.proofs.lemmas.List.{take_more, length-take-le, length-map, map-append}
use Rattle.std.proofs.Math.Seq.{split_at}
use Rattle.pc_settings.specs.declared.runs.SettingsFault.{SettingsFault}
use Rattle.pc_settings.specs.Inner.Readings.{Read, and_then, each}

-- a list that was read, by its first element and the others
record Parts {X A : Type 0} (read : ℕ → X → Read A) (i : ℕ) (x : X) (xs : List X) (ys : List A) : Type 0 where
  first : A
  others : List A
  first_is : read i x ≡ Ok first
  others_are : each read (i + 1) xs ≡ Ok others
  whole : ys ≡ first ∷ others

parts_by : {X A : Type 0} (read : ℕ → X → Read A) (i : ℕ) (x : X) (xs : List X) (ys : List A) (first : Read A) (others : Read (List A))
    → read i x ≡ first → each read (i + 1) xs ≡ others → and_then first (λ a. and_then others (λ more. Ok (a ∷ more))) ≡ Ok ys → Parts read i x xs ys
parts_by read i x xs ys (Ok a) (Ok more) e f h = record { first = a; others = more; first_is = e; others_are = f; whole = cc }
parts_by read i x xs ys (Ok a) (Err g) e f h = cc
parts_by read i x xs ys (Err g) others e f h = cc

parts : {X A : Type 0} (read : ℕ → X → Read A) (i : ℕ) (x : X) (xs : List X) (ys : List A) → each read i (x ∷ xs) ≡ Ok ys → Parts read i x xs ys
parts read i x xs ys h = parts_by read i x xs ys (read i x) (each read (i + 1) xs) refl refl h

each_more : {X A : Type 0} (read : ℕ → X → Read A) (i n : ℕ) (xs : List X) (ys : List A) (x : X) (y : A) → n ≡ i + length xs
    → each read i xs ≡ Ok ys → read n x ≡ Ok y → each read i (xs ++ x ∷ []) ≡ Ok (ys ++ y ∷ [])
each_more read i n [] ys x y e h g =
    let here : n ≡ i = omega arith in
    let none : ys ≡ [] = cc in
    let read_x : read i x ≡ Ok y = subst (λ k. read k x ≡ Ok y) here g in
    ap (λ r. and_then r (λ a. Ok (a ∷ []))) read_x ∙ ap (λ done. Ok (done ++ y ∷ [])) (sym none)
each_more read i n (z ∷ zs) ys x y e h g =
    let p = parts read i z zs ys h in
    let rest = each_more read (i + 1) n zs p.others x y (omega arith) p.others_are g in
    ap (λ r. and_then r (λ a. and_then (each read (i + 1) (zs ++ x ∷ [])) (λ more. Ok (a ∷ more)))) p.first_is
    ∙ ap (λ r. and_then r (λ more. Ok (p.first ∷ more))) rest ∙ ap (λ done. Ok (done ++ y ∷ [])) (sym p.whole)

each_stops : {X A : Type 0} (read : ℕ → X → Read A) (i n : ℕ) (xs : List X) (ys : List A) (x : X) (rest : List X) (f : SettingsFault) → n ≡ i + length xs
    → each read i xs ≡ Ok ys → read n x ≡ Err f → each read i (xs ++ x ∷ rest) ≡ Err f
each_stops read i n [] ys x rest f e h g =
    let here : n ≡ i = omega arith in
    let read_x : read i x ≡ Err f = subst (λ k. read k x ≡ Err f) here g in
    ap (λ r. and_then r (λ a. and_then (each read (i + 1) rest) (λ more. Ok (a ∷ more)))) read_x
each_stops read i n (z ∷ zs) ys x rest f e h g =
    let p = parts read i z zs ys h in
    ap (λ r. and_then r (λ a. and_then (each read (i + 1) (zs ++ x ∷ rest)) (λ more. Ok (a ∷ more)))) p.first_is
    ∙ ap (λ r. and_then r (λ more. Ok (p.first ∷ more))) (each_stops read (i + 1) n zs p.others x rest f (omega arith) p.others_are g)

-- the turns of a loop over items, each of which stands for an element
pub turn : {W X A : Type 0} (h : W → X) (read : ℕ → X → Read A) (items : List W) (k : ℕ) (w : W) (ys : List A) (y : A) → k < length items → w ≡ get_or items k w
    → each read 0 (map h (take k items)) ≡ Ok ys → read k (h w) ≡ Ok y → each read 0 (map h (take (k + 1) items)) ≡ Ok (ys ++ y ∷ [])
turn h read items k w ys y below is done one =
    let count : k ≡ 0 + length (map h (take k items)) = omega (arith, length-map (take k items) h, length-take-le k items (omega arith)) in
    let more : take (k + 1) items ≡ take k items ++ w ∷ [] = take_more items k w below ∙ ap (λ v. take k items ++ v ∷ []) (sym is) in
    ap (λ vs. each read 0 (map h vs)) more ∙ ap (each read 0) (map-append h (take k items) (w ∷ []))
    ∙ each_more read 0 k (map h (take k items)) ys (h w) y count done one

pub stop : {W X A : Type 0} (h : W → X) (read : ℕ → X → Read A) (items : List W) (k : ℕ) (w : W) (ys : List A) (f : SettingsFault) → k < length items → w ≡ get_or items k w
    → each read 0 (map h (take k items)) ≡ Ok ys → read k (h w) ≡ Err f → each read 0 (map h items) ≡ Err f
stop h read items k w ys f below is done one =
    let count : k ≡ 0 + length (map h (take k items)) = omega (arith, length-map (take k items) h, length-take-le k items (omega arith)) in
    let split : items ≡ take k items ++ w ∷ drop (k + 1) items =
    split_at items k w below ∙ ap (λ n. take k items ++ get_or items k w ∷ drop n items) (sym (add-one k)) ∙ ap (λ v. take k items ++ v ∷ drop (k + 1) items) (sym is) in
    ap (λ vs. each read 0 (map h vs)) split ∙ ap (each read 0) (map-append h (take k items) (w ∷ drop (k + 1) items))
    ∙ each_stops read 0 k (map h (take k items)) ys (h w) (map h (drop (k + 1) items)) f count done one
