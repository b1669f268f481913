-- Numbers up to one are told by their set.
use Rattle.std.specs.Prelude.{ℕ, ◌≡◌, ◌≤◌, ◌&&◌, nat_le, [], ◌∷◌}
use Rattle.std.proofs.Common.{sym, arith}
use Rattle.std.proofs.lemmas.Bool.Decides.{nat_tests}
use Rattle.pc_join.specs.Sets.{IsSameSet}
use Rattle.pc_join.specs.Ranges.{numbers_to}

reaches : (a b : ℕ) → ((nat_le 1 a && nat_le a a) ≡ (nat_le 1 a && nat_le a b)) → a ≤ b
reaches a b e = grind (arith, nat_tests)

-- two numbers with the same set are equal
pub unique_upto : (a b : ℕ) → IsSameSet (numbers_to a) (numbers_to b) → a ≡ b
unique_upto a b same =
    let there : a ≤ b = reaches a b (same (a ∷ [])) in
    let back : b ≤ a = reaches b a (sym (same (b ∷ []))) in
    omega arith
