-- Expressions and tests as trees.
use Rattle.std.specs.Prelude.{ℕ}
use Rattle.pc_rank.specs.declared.facts.Fact.{Fact}
use Rattle.pc_rank.specs.declared.operators.Comparison.{Comparison}
use Rattle.pc_rank.specs.declared.operators.Extreme.{Extreme}
use Rattle.pc_rank.specs.declared.operators.Joiner.{Joiner}
use Rattle.pc_rank.specs.declared.operators.Operator.{Operator}

mutual
  -- An expression: a number, a name, `none`, two with an operator between them, `min` or `max` of two, or a choice
  -- between two by a test
  pub data Tree : Type 0 where
    Number : ℕ → Tree
    Given : Fact → Tree
    NoRank : Tree
    Infix : Operator → Tree → Tree → Tree
    Call : Extreme → Tree → Tree → Tree
    Choice : Condition → Tree → Tree → Tree

  -- A test: two expressions that are compared, two tests with a word between them, or `not` of one
  pub data Condition : Type 0 where
    Compare : Comparison → Tree → Tree → Condition
    Join : Joiner → Condition → Condition → Condition
    Negate : Condition → Condition

-- An expression or a test
pub data Found : Type 0 where
  Rank : Tree → Found
  Test : Condition → Found
