-- Digests, and how far one has come.
use Rattle.std.proofs.Common.{ℕ, ◌+◌, ◌<◌, ◌≤◌, ◌≡◌, ◌^◌, Bool, true, false, List, [], ◌∷◌, ◌++◌, Option, Some, None, IsSome, refl, sym, ap, subst, ◌∙◌, arith, inl, inr}
use Rattle.std.specs.List.{All}
use Rattle.std.specs.FinMap as map
use Rattle.std.specs.Ordering.{nat_cmp}
use Rattle.std.specs.Cmp.{nat_cmp_total}
use Rattle.std.proofs.lemmas.Bool.{false≢true}
use Rattle.std.proofs.lemmas.List.Elements.{All-push, All-weaker}
use Rattle.pc_join.specs.Sets.{Members, IsVoid, IsWithin, IsSameSet}
use Rattle.pc_join.specs.Ranges.{numbers_in, AreApart}
use Rattle.pc_join.specs.ByName.{AscendFrom, HasShortNames, known_in, value_at}
use Rattle.pc_join.proofs.Entries.{IsWalked, all_found, at_first, at_later, same_or_other, walked_start, walked_found, walked_on, walked_all, walked_weaker}
use Rattle.pc_thread_view.specs.Told.{Told, IsView, numbers_of}
use Rattle.pc_view.specs.declared.view.View.{View}
use Rattle.pc_view.specs.Views.{pairs_of, thread_of}
use Rattle.pc_delta.specs.Digests.{RangesByName, set_of_digest, IsDigest}
use Rattle.pc_delta.specs.Inner.DigestLaws.{unique_digest}
use Rattle.pc_delta.proofs.Lists.{all_first, all_none, all_rest}

-- no names
none_at : (x : RangesByName) → x ≡ map.empty → (q : ℕ) → map.get x q ≡ None
none_at x e q = ap (λ y. map.get y q) e ∙ map.get-empty nat_cmp q

pub nothing_known : (x : RangesByName) → x ≡ map.empty → IsVoid (set_of_digest x)
nothing_known x e [] = refl
nothing_known x e (t ∷ m) = ap (λ o. known_in numbers_in o m) (none_at x e t)

pub nothing_valid : (x : RangesByName) → x ≡ map.empty → IsDigest x
nothing_valid x e s = record { kept = λ q v some. absurd (clash (map.get x q) v (none_at x e q) some); each = λ q v some. absurd (clash (map.get x q) v (none_at x e q) some) }
  where
    clash : (o : Option (List (ℕ × ℕ))) (v : List (ℕ × ℕ)) → o ≡ None → o ≡ Some v → ⊥
    clash o v e f = cc

-- each of two digests has all that the other has
same_within : (s t : Members) → IsWithin s t → IsWithin t s → IsSameSet s t
same_within s t f g m = by_test (s m) (t m) (f m) (g m)
  where
    by_test : (a b : Bool) → (a ≡ true → b ≡ true) → (b ≡ true → a ≡ true) → a ≡ b
    by_test true b f g = sym (f refl)
    by_test false true f g = g refl
    by_test false false f g = refl

pub covers_both : (a b : RangesByName) → IsDigest a → IsDigest b → IsWithin (set_of_digest b) (set_of_digest a) → IsWithin (set_of_digest a) (set_of_digest b) → a ≡ b
covers_both a b of_a of_b back there = unique_digest (λ m. None) a b (of_a (λ m. None)) (of_b (λ m. None)) (same_within (set_of_digest a) (set_of_digest b) there back)

pub same_both : (a b : RangesByName) → a ≡ b → IsWithin (set_of_digest b) (set_of_digest a) × IsWithin (set_of_digest a) (set_of_digest b)
same_both a b e = (λ m h. ap (λ d. set_of_digest d m) e ∙ h, λ m h. sym (ap (λ d. set_of_digest d m) e) ∙ h)

-- an entry of a digest that is made: what is told of a thread of the view
pub record IsListed (view : View) (entry : ℕ × List (ℕ × ℕ)) : Type 0 where
  pub told : Told
  pub there : thread_of view entry.0 ≡ Some told
  pub same : IsSameSet (numbers_in entry.1) (numbers_of told)
  pub apart : AreApart 0 entry.1
  pub not_void : ¬ IsVoid (numbers_in entry.1)

-- how far the entries of a digest have been listed
pub record IsListing (view : View) (left : List (ℕ × Told)) (entries : List (ℕ × List (ℕ × ℕ))) : Type 0 where
  pub listed : All (IsListed view) entries
  pub ascend : AscendFrom 0 entries
  pub bound : ℕ
  pub below : All (λ entry. entry.0 < bound) entries
  pub above : AscendFrom bound left
  pub walked : IsWalked (λ thread told. IsSome (value_at entries thread)) view.threads left

module _ {X : Type 0} where
  push_ascend : (n : ℕ) (es : List (ℕ × X)) (k : ℕ) (x : X) → AscendFrom n es → n ≤ k → All (λ e. e.0 < k) es → AscendFrom n (es ++ (k, x) ∷ [])
  push_ascend n [] k x h le below = (le, tt)
  push_ascend n (e ∷ es) k x h le below =
      let lt : e.0 < k = all_first (λ (e : ℕ × X). e.0 < k) e es below in
      (h.0, push_ascend (e.0 + 1) es k x h.1 (omega arith) (all_rest (λ (e : ℕ × X). e.0 < k) e es below))

  some_first : (e : ℕ × X) (es : List (ℕ × X)) → IsSome (value_at (e ∷ es) e.0)
  some_first e es = subst (λ o. IsSome o) (sym (at_first e es)) refl

  some_more : (e : ℕ × X) (es : List (ℕ × X)) (q : ℕ) → IsSome (value_at es q) → IsSome (value_at (e ∷ es) q)
  some_more e es q some = elim (same_or_other q e.0) [
    | inl same ↦ subst (λ k. IsSome (value_at (e ∷ es) k)) (sym same) (some_first e es)
    | inr ne ↦ subst (λ o. IsSome o) (sym (at_later e es q ne)) some
  ]

  some_push : (es : List (ℕ × X)) (k : ℕ) (x : X) → IsSome (value_at (es ++ (k, x) ∷ []) k)
  some_push [] k x = some_first (k, x) []
  some_push (e ∷ es) k x = some_more e (es ++ (k, x) ∷ []) k (some_push es k x)

  some_kept : (es : List (ℕ × X)) (k : ℕ) (x : X) (q : ℕ) → IsSome (value_at es q) → IsSome (value_at (es ++ (k, x) ∷ []) q)
  some_kept [] k x q some = absurd (false≢true some)
  some_kept (e ∷ es) k x q some = elim (same_or_other q e.0) [
    | inl same ↦ subst (λ j. IsSome (value_at (e ∷ (es ++ (k, x) ∷ [])) j)) (sym same) (some_first e (es ++ (k, x) ∷ []))
    | inr ne ↦ some_more e (es ++ (k, x) ∷ []) q (some_kept es k x q (subst (λ o. IsSome o) (at_later e es q ne) some))
  ]

pub listing_start : (view : View) (left : List (ℕ × Told)) (entries : List (ℕ × List (ℕ × ℕ))) → left ≡ map.entries view.threads → entries ≡ [] → IsListing view left entries
listing_start view left entries e none =
    let walked = walked_start (λ thread told. IsSome (value_at entries thread)) view.threads left e in
    record {
      listed = subst (λ es. All (IsListed view) es) (sym none) (all_none (IsListed view));
      ascend = subst (AscendFrom 0) (sym none) tt;
      bound = 0;
      below = subst (λ (es : List (ℕ × List (ℕ × ℕ))). All (λ entry. entry.0 < 0) es) (sym none) (all_none (λ entry. entry.0 < 0));
      above = walked.ascend;
      walked = walked;
    }

module _ (view : View) (left after : List (ℕ × Told)) (k : ℕ) (told : Told) (entries new : List (ℕ × List (ℕ × ℕ))) (ranges : List (ℕ × ℕ)) (is : left ≡ (k, told) ∷ after) (listing : IsListing view left entries)
    (same : IsSameSet (numbers_in ranges) (numbers_of told)) (apart : AreApart 0 ranges) (held : IsView told) (push : new ≡ entries ++ (k, ranges) ∷ []) where
  above_here : AscendFrom listing.bound ((k, told) ∷ after)
  above_here = subst (AscendFrom listing.bound) is listing.above

  not_void : ¬ IsVoid (numbers_in ranges)
  not_void void = false≢true (sym (void (held.some.0 ∷ [])) ∙ same (held.some.0 ∷ []) ∙ held.some.1)

  below_on : All (λ entry. entry.0 < k) entries
  below_on = All-weaker (λ entry. entry.0 < listing.bound) (λ entry. entry.0 < k) (λ entry lt. let le = above_here.0 in omega arith) entries listing.below

  on : IsListing view after (entries ++ (k, ranges) ∷ [])
  on = record {
    listed = All-push (IsListed view) entries (k, ranges) listing.listed (record {
      told = told;
      there = walked_found (λ thread told. IsSome (value_at entries thread)) view.threads left after k told is listing.walked;
      same = same;
      apart = apart;
      not_void = not_void;
    });
    ascend = push_ascend 0 entries k ranges listing.ascend (omega arith) below_on;
    bound = k + 1;
    below = All-push (λ entry. entry.0 < k + 1) entries (k, ranges) (All-weaker (λ entry. entry.0 < k) (λ entry. entry.0 < k + 1) (λ entry lt. omega arith) entries below_on) (omega arith);
    above = above_here.1;
    walked = walked_on (λ thread told. IsSome (value_at (entries ++ (k, ranges) ∷ []) thread)) view.threads left after k told is
        (walked_weaker (λ thread told. IsSome (value_at entries thread)) (λ thread told. IsSome (value_at (entries ++ (k, ranges) ∷ []) thread)) view.threads left (λ q v some. some_kept entries k ranges q some) listing.walked)
        (some_push entries k ranges);
  }

  pub listing_on : IsListing view after new
  listing_on = subst (IsListing view after) (sym push) on

-- the digest of the entries
module _ (view : View) (left : List (ℕ × Told)) (entries : List (ℕ × List (ℕ × ℕ))) (listing : IsListing view left entries) where
  short_one : HasShortNames view.threads → (entry : ℕ × List (ℕ × ℕ)) → IsListed view entry → entry.0 < 2 ^ 32
  short_one short entry listed = short entry.0 (subst (λ o. IsSome o) (sym listed.there) refl)

  pub listing_short : HasShortNames view.threads → All (λ entry. entry.0 < 2 ^ 32) entries
  listing_short short = All-weaker (IsListed view) (λ entry. entry.0 < 2 ^ 32) (short_one short) entries listing.listed

  pub listing_not_void : All (λ entry. ¬ IsVoid (numbers_in entry.1)) entries
  listing_not_void = All-weaker (IsListed view) (λ entry. ¬ IsVoid (numbers_in entry.1)) (λ entry listed. listed.not_void) entries listing.listed

  module _ (digest : RangesByName) (made : digest ≡ map.from_entries entries) where
    found : (q : ℕ) → map.get digest q ≡ value_at entries q
    found q = ap (λ d. map.get d q) made ∙ map.get-from_entries nat_cmp_total entries q

    pub listing_valid : IsDigest digest
    listing_valid s = record {
      kept = λ q v e. (all_found (IsListed view) entries q v listing.listed (sym (found q) ∙ e)).not_void;
      each = λ q v e. (all_found (IsListed view) entries q v listing.listed (sym (found q) ∙ e)).apart;
    }

    by_value : (t : ℕ) (m : List ℕ) (o : Option (List (ℕ × ℕ))) → value_at entries t ≡ o → left ≡ [] → known_in numbers_in o m ≡ pairs_of view (t ∷ m)
    by_value t m (Some ranges) e none =
        let listed = all_found (IsListed view) entries t ranges listing.listed e in
        listed.same m ∙ sym (ap (λ o. known_in numbers_of o m) listed.there)
    by_value t m None e none = by_thread (thread_of view t) refl
      where
        by_thread : (o : Option Told) → thread_of view t ≡ o → false ≡ pairs_of view (t ∷ m)
        by_thread None f = sym (ap (λ o. known_in numbers_of o m) f)
        by_thread (Some told) f = absurd (false≢true (subst (λ o. IsSome o) e (walked_all (λ thread told. IsSome (value_at entries thread)) view.threads left none listing.walked t told f)))

    pub listing_same : left ≡ [] → IsSameSet (set_of_digest digest) (pairs_of view)
    listing_same none [] = refl
    listing_same none (t ∷ m) = ap (λ o. known_in numbers_in o m) (found t) ∙ by_value t m (value_at entries t) refl none
