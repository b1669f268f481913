use Rattle.std.proofs.Common.{ℕ, ◌≤◌, ◌≡◌, ◌∷◌, [], true, subst, sym, ◌∙◌, arith}
use Rattle.std.specs.List.{All}
use Rattle.std.proofs.lemmas.Bool.{false≢true}
use Rattle.std.proofs.lemmas.Bool.Decides.{nat_tests}
use Rattle.std.proofs.lemmas.List.Elements.{All-cons}
use Rattle.pc_join.specs.Sets.{IsVoid}
use Rattle.pc_join.specs.Ranges.{numbers_to, one_to}
use Rattle.pc_tests.proofs.join.ascending.Goals as goal

has_one : (n : ℕ) → 1 ≤ n → one_to n 1 ≡ true
has_one n h = grind (arith, nat_tests)

some : (n k : ℕ) → n ≡ k → 1 ≤ k → ¬ IsVoid (numbers_to n)
some n k e h void = false≢true (sym (void (1 ∷ [])) ∙ has_one n (omega arith))

pub of_ascending-requires-clause-not_empty : goal.of_ascending-requires-clause-not_empty
of_ascending-requires-clause-not_empty c =
    let P : ℕ × ℕ → Type 0 = λ entry. ¬ IsVoid (numbers_to entry.1) in
    subst (λ es. All P es) (sym c.in_ok-entries.ensures.items)
    (All-cons P (2, c.new.result) ((5, c.new-2.result) ∷ []) (some c.new.result 4 c.new.ensures (omega arith))
    (All-cons P (5, c.new-2.result) [] (some c.new-2.result 3 c.new-2.ensures (omega arith)) (λ k d lt. absurd (omega arith))))
