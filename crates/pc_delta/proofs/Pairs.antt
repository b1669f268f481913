-- The set of parts is that of the pairs that they tell.
use Rattle.std.proofs.Common.{ℕ, zero, suc, ◌+◌, ◌≡◌, ◌==◌, ◌||◌, ◌&&◌, nat_le, nat_lt, Bool, true, false, List, [], ◌∷◌, map, refl, sym, ap, ◌∙◌, arith}
use Rattle.std.specs.List.{range_with_len}
use Rattle.std.proofs.lemmas.Bool.Decides.{nat_tests}
use Rattle.pc_join.specs.Sets.{IsSameSet, as_members, has}
use Rattle.pc_join.specs.Ranges.{one_to}
use Rattle.pc_join.proofs.Joins.{as_members-append, as_members-none}
use Rattle.pc_delta.specs.declared.part.Part.{Part}
use Rattle.pc_delta.specs.declared.part.Part.TheVariants.{One, Folded}
use Rattle.pc_delta.specs.Parts.{set_of_part, set_of, pairs_of_part, pairs_of_parts}
use Rattle.pc_delta.proofs.Bools.{and_none}
use Rattle.pc_messages.proofs.Bools.{or_none}

eq_turn : (a b : ℕ) → (a == b) ≡ (b == a)
eq_turn a b = grind (arith, nat_tests)

one_pair : (t n t' n' : ℕ) → ((t' == t) && (n' == n)) ≡ has ((t, n) ∷ []) t' n'
one_pair t n t' n' = sym (or_none ((t == t') && (n == n')) ∙ (λ i. eq_turn t t' i && eq_turn n n' i))

-- the numbers of a range, from a on
step : (b : Bool) (a c n : ℕ) → ((b && (a == n)) || (b && (nat_le (a + 1) n && nat_lt n (a + 1 + c)))) ≡ (b && (nat_le a n && nat_lt n (a + suc c)))
step true a c n = grind (arith, nat_tests)
step false a c n = refl

empty_range : (a n : ℕ) → false ≡ (nat_le a n && nat_lt n (a + 0))
empty_range a n = grind (arith, nat_tests)

pub has_range : (t a c t' n : ℕ) → has (map (λ k. (t, k)) (range_with_len a c)) t' n ≡ ((t == t') && (nat_le a n && nat_lt n (a + c)))
has_range t a zero t' n = sym (and_none (t == t')) ∙ ap (λ b. (t == t') && b) (empty_range a n)
has_range t a (suc c) t' n = ap (λ b. ((t == t') && (a == n)) || b) (has_range t (a + 1) c t' n) ∙ step (t == t') a c n

in_range : (upto n : ℕ) → one_to upto n ≡ (nat_le 1 n && nat_lt n (1 + upto))
in_range upto n = grind (arith, nat_tests)

part_pairs : (part : Part) → IsSameSet (set_of_part part) (as_members (pairs_of_part part))
part_pairs (One m) [] = refl
part_pairs (One m) (t ∷ []) = and_none (t == m.thread)
part_pairs (One m) (t ∷ n ∷ []) = one_pair m.thread m.number t n
part_pairs (One m) (t ∷ n ∷ k ∷ more) = and_none (t == m.thread)
part_pairs (Folded thread upto r) [] = refl
part_pairs (Folded thread upto r) (t ∷ []) = and_none (t == thread)
part_pairs (Folded thread upto r) (t ∷ n ∷ []) = (λ i. eq_turn t thread i && in_range upto n i) ∙ sym (has_range thread 1 upto t n)
part_pairs (Folded thread upto r) (t ∷ n ∷ k ∷ more) = and_none (t == thread)

pub parts_pairs : (parts : List Part) → IsSameSet (set_of parts) (as_members (pairs_of_parts parts))
parts_pairs [] m = sym (as_members-none m)
parts_pairs (p ∷ ps) m = (λ i. part_pairs p m i || parts_pairs ps m i) ∙ sym (as_members-append (pairs_of_part p) (pairs_of_parts ps) m)
