-- The numbers from 1 to a number, as a set.
use Rattle.std.proofs.Common.{ℕ, ◌≡◌, ◌≤◌, ◌&&◌, nat_le, nat_eq, true, false, [], ◌∷◌, IsTrue, ◌↔◌, refl, arith}
use Rattle.std.proofs.lemmas.Bool.Decides.{nat_tests}
use Rattle.pc_join.specs.Sets.{IsWithin, IsVoid}
use Rattle.pc_join.specs.Ranges.{numbers_to}

within_at : (a b n : ℕ) → a ≤ b → (nat_le 1 n && nat_le n a) ≡ true → (nat_le 1 n && nat_le n b) ≡ true
within_at a b n h e = grind (arith, nat_tests)

pub within_upto : (a b : ℕ) → a ≤ b → IsWithin (numbers_to a) (numbers_to b)
within_upto a b h [] e = e
within_upto a b h (n ∷ []) e = within_at a b n h e
within_upto a b h (n ∷ k ∷ m) e = e

le_from : (a b : ℕ) → ((nat_le 1 a && nat_le a a) ≡ true → (nat_le 1 a && nat_le a b) ≡ true) → nat_le a b ≡ true
le_from a b h = grind (arith, nat_tests)

covers_at : (a b : ℕ) → IsTrue (nat_le a b) → a ≤ b
covers_at a b h = grind (arith, nat_tests)

pub covers_upto : (a b : ℕ) → IsTrue (nat_le a b) ↔ IsWithin (numbers_to a) (numbers_to b)
covers_upto a b = (λ h. within_upto a b (covers_at a b h), λ h. le_from a b (h (a ∷ [])))

void_at : (a n : ℕ) → IsTrue (nat_eq a 0) → (nat_le 1 n && nat_le n a) ≡ false
void_at a n h = grind (arith, nat_tests)

void_upto : (a : ℕ) → IsTrue (nat_eq a 0) → IsVoid (numbers_to a)
void_upto a h [] = refl
void_upto a h (n ∷ []) = void_at a n h
void_upto a h (n ∷ k ∷ m) = refl

zero_from : (a : ℕ) → (nat_le 1 a && nat_le a a) ≡ false → nat_eq a 0 ≡ true
zero_from a h = grind (arith, nat_tests)

pub is_empty_upto : (a : ℕ) → IsTrue (nat_eq a 0) ↔ IsVoid (numbers_to a)
is_empty_upto a = (void_upto a, λ h. zero_from a (h (a ∷ [])))
