-- The laws of a join and of equality, of digests.
use Rattle.std.specs.Prelude.{ℕ, ◌≡◌, List}
use Rattle.std.specs.Bool.{Decides}
use Rattle.std.specs.Cmp.{IsEquivalence, IsPartialEquivalence, decided, partial_equiv_from_equiv}
use Rattle.std.specs.Cmp.Lexicographic.{pointwise_decides}
use Rattle.pc_join.specs.Sets.{Source, IsSameSet, AgreesOn}
use Rattle.pc_join.specs.Ranges.{numbers_in, AreApart}
use Rattle.pc_join.specs.Inner.Equal.{by_name_Decides, number_Decides, pair_Decides}
use Rattle.pc_join.specs.Inner.RangeLaws.{unique_ranges}
use Rattle.pc_join.specs.Inner.NameLaws.{unique_by_name, stays_by_name}
use Rattle.pc_delta.specs.Digests.{RangesByName, set_of_digest, IsOfAnySource, is_same_ranges, is_same_digest}

pub unique_digest : (s : Source) (a b : RangesByName) → IsOfAnySource a s → IsOfAnySource b s
    → IsSameSet (set_of_digest a) (set_of_digest b) → a ≡ b
unique_digest s a b of_a of_b same =
    unique_by_name numbers_in (λ ranges t. AreApart 0 ranges)
    (λ s' xs ys apart others. unique_ranges xs ys apart others)
    s a b of_a of_b same

pub stays_digest : (s t : Source) (a : RangesByName) → AgreesOn (set_of_digest a) s t → IsOfAnySource a s
    → IsOfAnySource a t
stays_digest s t a agrees of_s =
    stays_by_name numbers_in (λ ranges u. AreApart 0 ranges) (λ s' t' xs agrees' apart. apart) s t a agrees of_s

-- the tests decide that two digests are equal
ranges_Decide : (qs rs : List (ℕ × ℕ)) → Decides (is_same_ranges qs rs) (qs ≡ rs)
ranges_Decide = pointwise_decides (pair_Decides number_Decides number_Decides)

pub digest_Decides : (a b : RangesByName) → Decides (is_same_digest a b) (a ≡ b)
digest_Decides a b = by_name_Decides ranges_Decide a b

pub digest_equivalence : IsEquivalence is_same_digest
digest_equivalence = decided is_same_digest digest_Decides

pub digest_partial : IsPartialEquivalence is_same_digest
digest_partial = partial_equiv_from_equiv digest_equivalence
