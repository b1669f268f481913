-- Walks over ranges that are apart: whether a number, or all of some ranges, lie in them.
use Rattle.std.proofs.Common.{ℕ, suc, ◌==◌, ◌+◌, ◌-◌, ◌<◌, ◌≤◌, ◌≡◌, ◌⊎◌, ◌||◌, Bool, true, false, List, [], ◌∷◌, ◌++◌, length, take, drop, get_or, ◌≢◌, take-append-drop, refl, sym, ap, ◌∙◌, subst, arith, IsTrue, ◌↔◌, inl, inr}
use Rattle.std.proofs.lemmas.Bool.{false≢true}
use Rattle.std.proofs.lemmas.Bool.Decides.{nat_tests}
use Rattle.pc_join.specs.Sets.{IsVoid, IsWithin}
use Rattle.pc_join.specs.Ranges.{in_range, in_ranges, numbers_in, AreApart}
use Rattle.pc_join.specs.Inner.Ranges.{AreInside}
use Rattle.pc_join.specs.Inner.RangeLaws.{above_range, lacks_below, has_first, lacks_gap}
use Rattle.pc_messages.proofs.Bools.{or_none, or_right}

-- the first range cannot have a number of later ranges
drop_or : (a b : Bool) → a ≡ false → (a || b) ≡ true → b ≡ true
drop_or true b e h = absurd (false≢true (sym e))
drop_or false b e h = h

above_start : (k n : ℕ) (rs : List (ℕ × ℕ)) → AreApart k rs → in_ranges rs n ≡ true → k < n
above_start k n rs h e = elim (cases n k) [ inl le ↦ absurd (false≢true (sym (lacks_below k rs n h le) ∙ e)) | inr lt ↦ lt ]
  where
    cases : (a b : ℕ) → (a ≤ b) ⊎ (b < a)
    cases a b = grind arith

-- how far a walk has come: what is left decides what is asked
pub record IsWalk (mine others held asked : List (ℕ × ℕ)) : Type 0 where
  pub same : AreInside others mine ↔ AreInside asked held
  pub held_apart : AreApart 0 held
  pub asked_apart : AreApart 0 asked

apart_zero : (n : ℕ) (rs : List (ℕ × ℕ)) → AreApart n rs → AreApart 0 rs
apart_zero n [] k = tt
apart_zero n (r ∷ rs) k = (omega arith, k.1, k.2)

after : {A B C : Type 0} → A ↔ B → B ↔ C → A ↔ C
after f g = (λ a. g.0 (f.0 a), λ c. f.1 (g.1 c))

module _ (first range : ℕ × ℕ) (rest more : List (ℕ × ℕ)) (held_apart : AreApart 0 (first ∷ rest)) (asked_apart : AreApart 0 (range ∷ more)) where
  from_range : (n : ℕ) → in_ranges (range ∷ more) n ≡ true → range.0 ≤ n
  from_range n e = let k : range.0 - 1 < n = above_start (range.0 - 1) n (range ∷ more) (omega arith, asked_apart.1, asked_apart.2) e in omega arith

  passed : first.1 < range.0 → AreInside (range ∷ more) (first ∷ rest) ↔ AreInside (range ∷ more) rest
  passed h = (λ f n e. drop_or (in_range first n) (in_ranges rest n) (above_range first n (let k = from_range n e in omega arith)) (f n e), λ f n e. or_right (in_range first n) (in_ranges rest n) (f n e))

  found : first.0 ≤ range.0 → range.1 ≤ first.1 → AreInside (range ∷ more) (first ∷ rest) ↔ AreInside more (first ∷ rest)
  found h g = (λ f n e. f n (or_right (in_range range n) (in_ranges more n) e), λ f n e. by_test f n (in_range range n) refl e)
    where
      in_both : (n : ℕ) → in_range range n ≡ true → in_range first n ≡ true
      in_both n e = grind (arith, nat_tests)

      by_test : AreInside more (first ∷ rest) → (n : ℕ) (b : Bool) → in_range range n ≡ b → (b || in_ranges more n) ≡ true → in_ranges (first ∷ rest) n ≡ true
      by_test f n true e h = ap (λ b. b || in_ranges rest n) (in_both n e)
      by_test f n false e h = f n h

  starts_before : range.0 < first.0 → ¬ AreInside (range ∷ more) (first ∷ rest)
  starts_before h f = false≢true (sym (lacks_below range.0 (first ∷ rest) range.0 (h, held_apart.1, held_apart.2) (omega arith)) ∙ f range.0 (has_first range more range.0 (omega arith) asked_apart.1))

  ends_after : range.0 ≤ first.1 → first.1 < range.1 → ¬ AreInside (range ∷ more) (first ∷ rest)
  ends_after h g f = false≢true (sym (lacks_gap 0 first rest held_apart) ∙ f (first.1 + 1) (has_first range more (first.1 + 1) (omega arith) (omega arith)))

module _ (mine others held asked : List (ℕ × ℕ)) (walk : IsWalk mine others held asked) (first range : ℕ × ℕ) (rest more : List (ℕ × ℕ)) (h : held ≡ first ∷ rest) (a : asked ≡ range ∷ more) where
  here : IsWalk mine others (first ∷ rest) (range ∷ more)
  here = subst (λ x. IsWalk mine others x (range ∷ more)) h (subst (λ x. IsWalk mine others held x) a walk)

  pub walk_on : first.1 < range.0 → IsWalk mine others rest asked
  walk_on lt = subst (λ x. IsWalk mine others rest x) (sym a) (record {
    same = after here.same (passed first range rest more here.held_apart here.asked_apart lt);
    held_apart = apart_zero (first.1 + 1) rest here.held_apart.2;
    asked_apart = here.asked_apart;
  })

  pub walk_found : first.0 ≤ range.0 → range.1 ≤ first.1 → IsWalk mine others held more
  walk_found f t = subst (λ x. IsWalk mine others x more) (sym h) (record {
    same = after here.same (found first range rest more here.held_apart here.asked_apart f t);
    held_apart = here.held_apart;
    asked_apart = apart_zero (range.1 + 1) more here.asked_apart.2;
  })

  pub walk_before : range.0 < first.0 → ¬ AreInside others mine
  walk_before lt all = starts_before first range rest more here.held_apart here.asked_apart lt (here.same.0 all)

  pub walk_after : range.0 ≤ first.1 → first.1 < range.1 → ¬ AreInside others mine
  walk_after le lt all = ends_after first range rest more here.held_apart here.asked_apart le lt (here.same.0 all)

pub walk_start : (mine others : List (ℕ × ℕ)) → AreApart 0 mine → AreApart 0 others → IsWalk mine others mine others
walk_start mine others h a = record { same = (λ f. f, λ f. f); held_apart = h; asked_apart = a }

pub walk_all : (mine others held asked : List (ℕ × ℕ)) → IsWalk mine others held asked → asked ≡ [] → AreInside others mine
walk_all mine others held asked walk e =
    let there : IsWalk mine others held [] = subst (λ x. IsWalk mine others held x) e walk in
    there.same.1 (λ n f. absurd (false≢true f))

pub walk_none : (mine others held asked : List (ℕ × ℕ)) (range : ℕ × ℕ) (more : List (ℕ × ℕ)) → IsWalk mine others held asked → held ≡ [] → asked ≡ range ∷ more → ¬ AreInside others mine
walk_none mine others held asked range more walk e a all =
    let there : IsWalk mine others [] (range ∷ more) = subst (λ x. IsWalk mine others x (range ∷ more)) e (subst (λ x. IsWalk mine others held x) a walk) in
    false≢true (there.same.0 all range.0 (has_first range more range.0 (omega arith) there.asked_apart.1))

-- by halves
lacks_later : (k : ℕ) (low : List (ℕ × ℕ)) (r : ℕ × ℕ) (high : List (ℕ × ℕ)) (n : ℕ) → AreApart k (low ++ r ∷ high) → n < r.0 → in_ranges (low ++ r ∷ high) n ≡ in_ranges low n
lacks_later k [] r high n h lt = lacks_below (r.0 - 1) (r ∷ high) n (omega arith, h.1, h.2) (omega arith)
lacks_later k (s ∷ low) r high n h lt = ap (λ b. in_range s n || b) (lacks_later (s.1 + 1) low r high n h.2 lt)

first_above : (k : ℕ) (low : List (ℕ × ℕ)) (r : ℕ × ℕ) (high : List (ℕ × ℕ)) → AreApart k (low ++ r ∷ high) → k < r.0
first_above k [] r high h = h.0
first_above k (s ∷ low) r high h = let g = first_above (s.1 + 1) low r high h.2 in omega arith

lacks_earlier : (k : ℕ) (low : List (ℕ × ℕ)) (r : ℕ × ℕ) (high : List (ℕ × ℕ)) (n : ℕ) → AreApart k (low ++ r ∷ high) → r.0 ≤ n → in_ranges (low ++ r ∷ high) n ≡ in_ranges (r ∷ high) n
lacks_earlier k [] r high n h le = refl
lacks_earlier k (s ∷ low) r high n h le =
    let g = first_above (s.1 + 1) low r high h.2 in
    ap (λ b. b || in_ranges (low ++ r ∷ high) n) (above_range s n (omega arith)) ∙ lacks_earlier (s.1 + 1) low r high n h.2 le

apart_low : (k : ℕ) (low high : List (ℕ × ℕ)) → AreApart k (low ++ high) → AreApart k low
apart_low k [] high h = tt
apart_low k (s ∷ low) high h = (h.0, h.1, apart_low (s.1 + 1) low high h.2)

apart_high : (k : ℕ) (low high : List (ℕ × ℕ)) → AreApart k (low ++ high) → AreApart 0 high
apart_high k [] high h = apart_zero k high h
apart_high k (s ∷ low) high h = apart_high (s.1 + 1) low high h.2

-- the part has the number where the ranges have it
pub record IsPart (ranges part : List (ℕ × ℕ)) (n : ℕ) : Type 0 where
  pub same : in_ranges ranges n ≡ in_ranges part n
  pub apart : AreApart 0 part

pub part_low : (ranges part low : List (ℕ × ℕ)) (r : ℕ × ℕ) (high : List (ℕ × ℕ)) (n : ℕ) → IsPart ranges part n → part ≡ low ++ r ∷ high → n < r.0 → IsPart ranges low n
part_low ranges part low r high n p e lt =
    let there : IsPart ranges (low ++ r ∷ high) n = subst (λ x. IsPart ranges x n) e p in
    record { same = there.same ∙ lacks_later 0 low r high n there.apart lt; apart = apart_low 0 low (r ∷ high) there.apart }

pub part_high : (ranges part low : List (ℕ × ℕ)) (r : ℕ × ℕ) (high : List (ℕ × ℕ)) (n : ℕ) → IsPart ranges part n → part ≡ low ++ r ∷ high → r.0 ≤ n → IsPart ranges (r ∷ high) n
part_high ranges part low r high n p e le =
    let there : IsPart ranges (low ++ r ∷ high) n = subst (λ x. IsPart ranges x n) e p in
    record { same = there.same ∙ lacks_earlier 0 low r high n there.apart le; apart = apart_high 0 low (r ∷ high) there.apart }

-- what is empty
not_void : (r : ℕ × ℕ) (rs : List (ℕ × ℕ)) → AreApart 0 (r ∷ rs) → ¬ IsVoid (numbers_in (r ∷ rs))
not_void r rs h v = false≢true (sym (v (r.0 ∷ [])) ∙ has_first r rs r.0 (omega arith) h.1)

void_none : (m : List ℕ) → numbers_in [] m ≡ false
void_none [] = refl
void_none (n ∷ []) = refl
void_none (n ∷ k ∷ m) = refl

pub void_ranges : (rs : List (ℕ × ℕ)) → AreApart 0 rs → (length rs ≡ 0 ↔ IsVoid (numbers_in rs))
void_ranges [] h = (λ e. void_none, λ v. refl)
void_ranges (r ∷ rs) h = (λ e. absurd (omega arith), λ v. absurd (not_void r rs h v))

halves : (part low high : List (ℕ × ℕ)) (k : ℕ) → low ≡ take k part → high ≡ drop k part → part ≡ low ++ high
halves part low high k e f = sym (take-append-drop k part) ∙ ap (λ x. x ++ drop k part) (sym e) ∙ ap (λ x. low ++ x) (sym f)

pub half_low : (ranges part low high : List (ℕ × ℕ)) (k n : ℕ) → IsPart ranges part n → low ≡ take k part → high ≡ drop k part → 0 < length high → n < (get_or high 0 (0, 0)).0 → IsPart ranges low n
half_low ranges part low [] k n p e f some lt = absurd (omega arith)
half_low ranges part low (r ∷ high) k n p e f some lt = part_low ranges part low r high n p (halves part low (r ∷ high) k e f) lt

pub half_high : (ranges part low high : List (ℕ × ℕ)) (k n : ℕ) → IsPart ranges part n → low ≡ take k part → high ≡ drop k part → 0 < length high → (get_or high 0 (0, 0)).0 ≤ n → IsPart ranges high n
half_high ranges part low [] k n p e f some le = absurd (omega arith)
half_high ranges part low (r ∷ high) k n p e f some le = part_high ranges part low r high n p (halves part low (r ∷ high) k e f) le

-- where the numbers that are there from 1 on end
pub start_at_one : (first : ℕ × ℕ) (rest : List (ℕ × ℕ)) → AreApart 0 (first ∷ rest) → in_ranges (first ∷ rest) (first.1 + 1) ≡ false
start_at_one first rest h = lacks_gap 0 first rest h

pub start_later : (first : ℕ × ℕ) (rest : List (ℕ × ℕ)) → AreApart 0 (first ∷ rest) → first.0 ≢ 1 → in_ranges (first ∷ rest) 1 ≡ false
start_later first rest h ne = lacks_below 1 (first ∷ rest) 1 (omega arith, h.1, h.2) (omega arith)

pub none_start : (rs : List (ℕ × ℕ)) → AreApart 0 rs → ((first : ℕ × ℕ) (rest : List (ℕ × ℕ)) → rs ≡ first ∷ rest → first.0 ≢ 1) → in_ranges rs 1 ≡ false
none_start [] h f = refl
none_start (r ∷ rs) h f = start_later r rs h (f r rs refl)

pub no_items : {X : Type 0} (xs : List X) → length xs ≡ 0 → xs ≡ []
no_items [] e = refl
no_items (x ∷ xs) e = absurd (omega arith)

one_left : (range : ℕ × ℕ) (rest : List (ℕ × ℕ)) (n : ℕ) → length (range ∷ rest) ≤ 1 → in_range range n ≡ in_ranges (range ∷ rest) n
one_left range [] n h = sym (or_none (in_range range n))
one_left range (r ∷ rs) n h = absurd (omega arith)

-- where one range is left, it decides
pub part_one : (ranges part rest : List (ℕ × ℕ)) (range : ℕ × ℕ) (n : ℕ) → IsPart ranges part n → part ≡ range ∷ rest → length part ≤ 1 → in_range range n ≡ in_ranges ranges n
part_one ranges part rest range n p e h =
    one_left range rest n (subst (λ x. length x ≤ 1) e h) ∙ sym (ap (λ x. in_ranges x n) e) ∙ sym p.same

pub part_none : (ranges part : List (ℕ × ℕ)) (n : ℕ) → IsPart ranges part n → length part ≡ 0 → false ≡ in_ranges ranges n
part_none ranges part n p e = sym (p.same ∙ ap (λ x. in_ranges x n) (no_items part e))

pub is_empty_ranges : (rs : List (ℕ × ℕ)) (b : Bool) → b ≡ (length rs == 0) → AreApart 0 rs → IsTrue b ↔ IsVoid (numbers_in rs)
is_empty_ranges [] b e h = (λ t. void_none, λ v. e)
is_empty_ranges (r ∷ rs) b e h = (λ t. absurd (false≢true (sym (e ∙ nonzero (length rs)) ∙ t)), λ v. absurd (not_void r rs h v))
  where
    nonzero : (n : ℕ) → (suc n == 0) ≡ false
    nonzero n = grind (arith, nat_tests)

inside_members : (rs ss : List (ℕ × ℕ)) → AreInside rs ss → IsWithin (numbers_in rs) (numbers_in ss)
inside_members rs ss f [] e = e
inside_members rs ss f (n ∷ []) e = f n e
inside_members rs ss f (n ∷ k ∷ m) e = e

pub covers_members : (b : Bool) (mine held others asked : List (ℕ × ℕ)) → held ≡ mine → asked ≡ others → IsTrue b ↔ AreInside asked held → IsTrue b ↔ IsWithin (numbers_in others) (numbers_in mine)
covers_members b mine held others asked e f h =
    let P : List (ℕ × ℕ) → List (ℕ × ℕ) → Type 0 = λ rs ss. IsTrue b ↔ IsWithin (numbers_in ss) (numbers_in rs) in
    subst (λ rs. P rs others) e (subst (P held) f (λ t. inside_members asked held (h.0 t), λ w. h.1 (λ n. w (n ∷ []))))
