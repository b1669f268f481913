-- Elements that are read one by one, each of which may have faults.
use Rattle.std.proofs.Common.{ℕ, ◌≡◌, ◌+◌, ◌<◌, List, [], ◌∷◌, ◌++◌, length, get_or, take, drop, map, add-one, Option, Some, None, refl, sym, ap, ◌∙◌, subst, arith, append_assoc, filter_map}
use Rattle.std.proofs.lemmas.List.{append-nil, take_more, length-take-le, length-map, map-append}
use Rattle.std.proofs.lemmas.List.Elements.{filter_map-append}
use Rattle.std.proofs.Math.Seq.{split_at}
use Rattle.pc_settings.specs.Keys.{first_some, of_each}

-- the first of two lists
pub through : {F : Type 0} (faults rest : List (Option F)) → first_some faults ≡ None → first_some (faults ++ rest) ≡ first_some rest
through [] rest e = refl
through (None ∷ faults) rest e = through faults rest e
through (Some f ∷ faults) rest e = cc

pub told_first : {F : Type 0} (faults rest : List (Option F)) (f : F) → first_some faults ≡ Some f → first_some (faults ++ rest) ≡ Some f
told_first [] rest f e = cc
told_first (None ∷ faults) rest f e = told_first faults rest f e
told_first (Some g ∷ faults) rest f e = e

of_each-append : {X F : Type 0} (faults : ℕ → X → List (Option F)) (p n : ℕ) (xs ys : List X) → n ≡ p + length xs
    → of_each faults p (xs ++ ys) ≡ of_each faults p xs ++ of_each faults n ys
of_each-append faults p n [] ys e = let here : n ≡ p = omega (arith, e) in ap (λ k. of_each faults k ys) (sym here)
of_each-append faults p n (x ∷ xs) ys e =
    let next : n ≡ (p + 1) + length xs = omega (arith, e) in
    ap (λ rest. faults p x ++ rest) (of_each-append faults (p + 1) n xs ys next)
    ∙ sym (append_assoc (faults p x) (of_each faults (p + 1) xs) (of_each faults n ys))

seen : {W X : Type 0} (h : W → X) (items : List W) (k : ℕ) (w : W) → k < length items → map h (take (k + 1) items) ≡ map h (take k items) ++ h (get_or items k w) ∷ []
seen h items k w below = ap (map h) (take_more items k w below) ∙ map-append h (take k items) (get_or items k w ∷ [])

count : {W X : Type 0} (h : W → X) (items : List W) (k : ℕ) → k < length items → k ≡ 0 + length (map h (take k items))
count h items k below = omega (arith, length-map (take k items) h, length-take-le k items (omega arith))

-- one more
pub each_more : {W X F : Type 0} (h : W → X) (faults : ℕ → X → List (Option F)) (items : List W) (k : ℕ) (w : W) → k < length items → w ≡ get_or items k w
    → of_each faults 0 (map h (take (k + 1) items)) ≡ of_each faults 0 (map h (take k items)) ++ faults k (h w)
each_more h faults items k w below is =
    ap (of_each faults 0) (seen h items k w below)
    ∙ of_each-append faults 0 k (map h (take k items)) (h (get_or items k w) ∷ []) (count h items k below)
    ∙ ap (λ more. of_each faults 0 (map h (take k items)) ++ more) (append-nil (faults k (h (get_or items k w))) ∙ ap (λ v. faults k (h v)) (sym is))

-- one more without a fault
pub turn_at : {W X F : Type 0} (h : W → X) (faults : ℕ → X → List (Option F)) (items : List W) (k : ℕ) (w : W) → k < length items
    → first_some (of_each faults 0 (map h (take k items))) ≡ None → first_some (faults k (h (get_or items k w))) ≡ None
    → first_some (of_each faults 0 (map h (take (k + 1) items))) ≡ None
turn_at h faults items k w below none one =
    ap (λ xs. first_some (of_each faults 0 xs)) (seen h items k w below)
    ∙ ap first_some (of_each-append faults 0 k (map h (take k items)) (h (get_or items k w) ∷ []) (count h items k below))
    ∙ through (of_each faults 0 (map h (take k items))) (faults k (h (get_or items k w)) ++ []) none
    ∙ ap first_some (append-nil (faults k (h (get_or items k w)))) ∙ one

-- one with a fault, behind some without
pub stop_at : {W X F : Type 0} (h : W → X) (faults : ℕ → X → List (Option F)) (items : List W) (k : ℕ) (w : W) (f : F) → k < length items
    → first_some (of_each faults 0 (map h (take k items))) ≡ None → first_some (faults k (h (get_or items k w))) ≡ Some f
    → first_some (of_each faults 0 (map h items)) ≡ Some f
stop_at h faults items k w f below none one =
    let split : map h items ≡ map h (take k items) ++ h (get_or items k w) ∷ map h (drop (k + 1) items) =
    ap (map h) (split_at items k w below ∙ ap (λ n. take k items ++ get_or items k w ∷ drop n items) (sym (add-one k)))
    ∙ map-append h (take k items) (get_or items k w ∷ drop (k + 1) items) in
    ap (λ xs. first_some (of_each faults 0 xs)) split
    ∙ ap first_some (of_each-append faults 0 k (map h (take k items)) (h (get_or items k w) ∷ map h (drop (k + 1) items)) (count h items k below))
    ∙ through (of_each faults 0 (map h (take k items))) (faults k (h (get_or items k w)) ++ of_each faults (k + 1) (map h (drop (k + 1) items))) none
    ∙ told_first (faults k (h (get_or items k w))) (of_each faults (k + 1) (map h (drop (k + 1) items))) f one

-- one more value
pub map_more : {W X A : Type 0} (h : W → X) (g : X → A) (items : List W) (k : ℕ) (w : W) (ys : List A) (y : A) → k < length items
    → ys ≡ map g (map h (take k items)) → y ≡ g (h (get_or items k w)) → ys ++ y ∷ [] ≡ map g (map h (take (k + 1) items))
map_more h g items k w ys y below are is =
    ap (λ xs. xs ++ y ∷ []) are ∙ ap (λ x. map g (map h (take k items)) ++ x ∷ []) is
    ∙ sym (ap (map g) (seen h items k w below) ∙ map-append g (map h (take k items)) (h (get_or items k w) ∷ []))

filtered : {X A : Type 0} (g : X → Option A) (x : X) (y : A) → g x ≡ Some y → filter_map g (x ∷ []) ≡ y ∷ []
filtered g x y e = rw e refl

pub filter_more : {W X A : Type 0} (h : W → X) (g : X → Option A) (items : List W) (k : ℕ) (w : W) (ys : List A) (y : A) → k < length items
    → ys ≡ filter_map g (map h (take k items)) → g (h (get_or items k w)) ≡ Some y → ys ++ y ∷ [] ≡ filter_map g (map h (take (k + 1) items))
filter_more h g items k w ys y below are is =
    ap (λ xs. xs ++ y ∷ []) are ∙ ap (λ xs. filter_map g (map h (take k items)) ++ xs) (sym (filtered g (h (get_or items k w)) y is))
    ∙ sym (ap (filter_map g) (seen h items k w below) ∙ filter_map-append g (map h (take k items)) (h (get_or items k w) ∷ []))

-- the same, of an element that was read there
pub turn : {W X F : Type 0} (h : W → X) (faults : ℕ → X → List (Option F)) (items : List W) (k : ℕ) (w : W) → k < length items → w ≡ get_or items k w
    → first_some (of_each faults 0 (map h (take k items))) ≡ None → first_some (faults k (h w)) ≡ None
    → first_some (of_each faults 0 (map h (take (k + 1) items))) ≡ None
turn h faults items k w below is none one = turn_at h faults items k w below none (subst (λ v. first_some (faults k (h v)) ≡ None) is one)

pub stop : {W X F : Type 0} (h : W → X) (faults : ℕ → X → List (Option F)) (items : List W) (k : ℕ) (w : W) (f : F) → k < length items → w ≡ get_or items k w
    → first_some (of_each faults 0 (map h (take k items))) ≡ None → first_some (faults k (h w)) ≡ Some f
    → first_some (of_each faults 0 (map h items)) ≡ Some f
stop h faults items k w f below is none one = stop_at h faults items k w f below none (subst (λ v. first_some (faults k (h v)) ≡ Some f) is one)

pub map_on : {W X A : Type 0} (h : W → X) (g : X → A) (items : List W) (k : ℕ) (w : W) (ys : List A) (y : A) → k < length items → w ≡ get_or items k w
    → ys ≡ map g (map h (take k items)) → y ≡ g (h w) → ys ++ y ∷ [] ≡ map g (map h (take (k + 1) items))
map_on h g items k w ys y below is are one = map_more h g items k w ys y below are (subst (λ v. y ≡ g (h v)) is one)

pub filter_on : {W X A : Type 0} (h : W → X) (g : X → Option A) (items : List W) (k : ℕ) (w : W) (ys : List A) (y : A) → k < length items → w ≡ get_or items k w
    → ys ≡ filter_map g (map h (take k items)) → g (h w) ≡ Some y → ys ++ y ∷ [] ≡ filter_map g (map h (take (k + 1) items))
filter_on h g items k w ys y below is are one = filter_more h g items k w ys y below are (subst (λ v. g (h v) ≡ Some y) is one)
