-- The numbers that are known of a thread, as they are gathered into ranges.
use Rattle.std.proofs.Common.{ℕ, ◌+◌, ◌<◌, ◌≤◌, ◌≡◌, ◌==◌, ◌||◌, List, [], ◌∷◌, length, drop, get_or, refl, sym, ap, ◌∙◌, subst, arith}
use Rattle.std.proofs.lemmas.Bool.Decides.{nat_tests}
use Rattle.pc_messages.specs.declared.kind.Kind.{Kind}
use Rattle.pc_join.specs.Sets.{IsUnion, IsSameSet}
use Rattle.pc_join.specs.Ranges.{in_range, in_ranges, numbers_in, AreApart, numbers_from_to, one_to}
use Rattle.pc_thread_view.specs.Told.{Told, IsSound, RiseAbove, numbers_of, tells, is_early}
use Rattle.pc_join.proofs.Joins.{or_assoc}
use Rattle.pc_messages.proofs.Bools.{or_none}
use Rattle.pc_delta.proofs.Lists.{left_item, none_left}

pub prefix_gathered : (old new : List (ℕ × ℕ)) (upto : ℕ) → old ≡ [] → IsUnion (numbers_in old) (numbers_from_to 1 upto) (numbers_in new) → (n : ℕ) → in_ranges new n ≡ one_to upto n
prefix_gathered old new upto e union n = union (n ∷ []) ∙ ap (λ ranges. in_ranges ranges n || in_range (1, upto) n) e

-- what is gathered, and the early messages that are left, are what is told
pub record IsGathering (told : Told) (left : List (ℕ × Kind)) (numbers : List (ℕ × ℕ)) : Type 0 where
  pub same : (n : ℕ) → (in_ranges numbers n || is_early left n) ≡ tells told n
  pub apart : AreApart 0 numbers
  pub rise : RiseAbove 0 left

rise_zero : (n : ℕ) (early : List (ℕ × Kind)) → RiseAbove n early → RiseAbove 0 early
rise_zero n [] h = tt
rise_zero n (e ∷ es) h = (omega arith, h.1)

pub gathering_start : (told : Told) (early : List (ℕ × Kind)) (upto : ℕ) (numbers : List (ℕ × ℕ)) → early ≡ told.early → upto ≡ told.upto → IsSound told → ((n : ℕ) → in_ranges numbers n ≡ one_to upto n) → AreApart 0 numbers → IsGathering told early numbers
gathering_start told early upto numbers e f sound same apart = record {
  same = λ n. ap (λ b. b || is_early early n) (same n) ∙ (λ i. one_to (f i) n || is_early (e i) n);
  apart = apart;
  rise = subst (λ es. RiseAbove 0 es) (sym e) (rise_zero (told.upto + 1) told.early sound.gap);
}

itself : (a n : ℕ) → in_range (a, a) n ≡ (a == n)
itself a n = grind (arith, nat_tests)

pub gathering_on : (told : Told) (entry : ℕ × Kind) (left : List (ℕ × Kind)) (old new : List (ℕ × ℕ)) → IsGathering told (entry ∷ left) old → IsUnion (numbers_in old) (numbers_from_to entry.0 entry.0) (numbers_in new) → AreApart 0 new → IsGathering told left new
gathering_on told entry left old new gathering union apart = record {
  same = λ n. ap (λ b. b || is_early left n) (union (n ∷ []) ∙ ap (λ b. in_ranges old n || b) (itself entry.0 n)) ∙ or_assoc (in_ranges old n) (entry.0 == n) (is_early left n) ∙ gathering.same n;
  apart = apart;
  rise = rise_zero entry.0 left gathering.rise.1;
}

same_members : (told : Told) (numbers : List (ℕ × ℕ)) → ((n : ℕ) → in_ranges numbers n ≡ tells told n) → IsSameSet (numbers_in numbers) (numbers_of told)
same_members told numbers h [] = refl
same_members told numbers h (n ∷ []) = h n
same_members told numbers h (n ∷ k ∷ m) = refl

pub gathering_done : (told : Told) (numbers : List (ℕ × ℕ)) → IsGathering told [] numbers → IsSameSet (numbers_in numbers) (numbers_of told)
gathering_done told numbers gathering = same_members told numbers (λ n. sym (or_none (in_ranges numbers n)) ∙ gathering.same n)

-- a loop over the early messages
abbrev pub IsGatheringFrom : Told → List (ℕ × Kind) → ℕ → List (ℕ × ℕ) → Type 0
IsGatheringFrom told early i numbers = IsGathering told (drop i early) numbers

pub next_entry : (told : Told) (early : List (ℕ × Kind)) (i : ℕ) (entry : ℕ × Kind) (numbers : List (ℕ × ℕ)) → entry ≡ get_or early i entry → i < length early → IsGatheringFrom told early i numbers → IsGathering told (entry ∷ drop (i + 1) early) numbers
next_entry told early i entry numbers e lt gathering = subst (λ left. IsGathering told left numbers) (left_item early i entry e lt) gathering

pub no_entry_left : (told : Told) (early : List (ℕ × Kind)) (i : ℕ) (numbers : List (ℕ × ℕ)) → length early ≤ i → IsGatheringFrom told early i numbers → IsGathering told [] numbers
no_entry_left told early i numbers le gathering = subst (λ left. IsGathering told left numbers) (none_left early i le) gathering
