-- What stands in front of parts, by how many parts the last code has.
use Rattle.std.specs.Prelude.{◌≡◌, ℕ, ◌-◌, ◌≤◌, ◌⊎◌, List, ◌++◌, length, take, slice_index_or, refl}
use Rattle.std.proofs.Common.{inl, inr}
use Rattle.pc_rank.specs.Expressions.{Condition}
use Rattle.pc_rank.specs.Inner.Ends.{AtExpression, AtTest, AtTwo}
use Rattle.pc_rank.specs.Layout.{test_layout}
use Rattle.pc_rank.specs.declared.code.Code.{Code}
use Rattle.pc_rank.specs.declared.code.Code.TheVariants as code
use Rattle.pc_rank.specs.declared.facts.Fact.{Fact}
use Rattle.pc_rank.specs.declared.operators.Comparison.{Comparison}
use Rattle.pc_rank.specs.declared.operators.Extreme.{Extreme}
use Rattle.pc_rank.specs.declared.operators.Joiner.{Joiner}
use Rattle.pc_rank.specs.declared.operators.Operator.{Operator}
use Rattle.pc_rank.proofs.Ends.{at_expression, at_test}

-- a code with no parts
abbrev HasNone : Code → Type 0
HasNone last = ((x : ℕ) × last ≡ code.Number x) ⊎ (((x : Fact) × last ≡ code.Given x) ⊎ (last ≡ code.NoRank))

-- a code with two
abbrev HasTwo : Code → Type 0
HasTwo last = ((x : Operator) × last ≡ code.Infix x) ⊎ (((x : Extreme) × last ≡ code.Call x)
    ⊎ (((x : Comparison) × last ≡ code.Compare x) ⊎ ((x : Joiner) × last ≡ code.Join x)))

pub of_none : (codes : List Code) (d : Code) → 1 ≤ length codes → HasNone (slice_index_or codes (length codes - 1) d)
    → AtExpression codes (λ front a. take (length codes - 1) codes ≡ front)
of_none codes d some (inl is) = at_expression _ codes d _ some is.1 refl
of_none codes d some (inr (inl is)) = at_expression _ codes d _ some is.1 refl
of_none codes d some (inr (inr is)) = at_expression _ codes d _ some is refl

pub of_none_test : (codes : List Code) (d : Code) → 1 ≤ length codes → HasNone (slice_index_or codes (length codes - 1) d)
    → AtTest codes (λ front a. take (length codes - 1) codes ≡ front)
of_none_test codes d some (inl is) = at_test _ codes d _ some is.1 tt
of_none_test codes d some (inr (inl is)) = at_test _ codes d _ some is.1 tt
of_none_test codes d some (inr (inr is)) = at_test _ codes d _ some is tt

pub of_two : (codes r : List Code) (d : Code) → 1 ≤ length codes → HasTwo (slice_index_or codes (length codes - 1) d)
    → AtTwo (take (length codes - 1) codes) (λ front a b. r ≡ front) → AtExpression codes (λ front a. r ≡ front)
of_two codes r d some (inl is) two = at_expression _ codes d _ some is.1 two
of_two codes r d some (inr (inl is)) two = at_expression _ codes d _ some is.1 two
of_two codes r d some (inr (inr (inl is))) two = at_expression _ codes d _ some is.1 tt
of_two codes r d some (inr (inr (inr is))) two = at_expression _ codes d _ some is.1 tt

pub of_two_test : (codes r : List Code) (d : Code) → 1 ≤ length codes → HasTwo (slice_index_or codes (length codes - 1) d)
    → AtTwo (take (length codes - 1) codes) (λ front a b. r ≡ front)
    → ((front : List Code) (p q : Condition) → take (length codes - 1) codes ≡ front ++ test_layout p ++ test_layout q → r ≡ front)
    → AtTest codes (λ front a. r ≡ front)
of_two_test codes r d some (inl is) two tests = at_test _ codes d _ some is.1 tt
of_two_test codes r d some (inr (inl is)) two tests = at_test _ codes d _ some is.1 tt
of_two_test codes r d some (inr (inr (inl is))) two tests = at_test _ codes d _ some is.1 two
of_two_test codes r d some (inr (inr (inr is))) two tests = at_test _ codes d _ some is.1 tests
