-- What an expression means: of a thread on a CPU a rank up to 2^64 - 1, of which the least runs first, or none.
use Rattle.std.specs.Prelude.{ℕ, ◌+◌, ◌-◌, ◌*◌, ◌/◌, ◌%◌, ◌^◌, ◌==◌, Bool, false, not, ◌&&◌, ◌||◌, nat_lt, leb}
use Rattle.std.specs.Prelude.{min, max, Option, Some, None, if◌then◌else◌}
use Rattle.pc_rank.specs.Expressions.{Tree, Condition}
use Rattle.pc_rank.specs.Expressions as tree
use Rattle.pc_rank.specs.declared.facts.Fact.{Fact}
use Rattle.pc_rank.specs.declared.facts.Fact.TheVariants as fact
use Rattle.pc_rank.specs.declared.facts.Facts.{Facts}
use Rattle.pc_rank.specs.declared.operators.Comparison.{Comparison}
use Rattle.pc_rank.specs.declared.operators.Comparison.TheVariants as comparison
use Rattle.pc_rank.specs.declared.operators.Extreme.{Extreme}
use Rattle.pc_rank.specs.declared.operators.Extreme.TheVariants as extreme
use Rattle.pc_rank.specs.declared.operators.Joiner.{Joiner}
use Rattle.pc_rank.specs.declared.operators.Joiner.TheVariants as joiner
use Rattle.pc_rank.specs.declared.operators.Operator.{Operator}
use Rattle.pc_rank.specs.declared.operators.Operator.TheVariants as operator

-- the number that a name stands for
abbrev pub fact_in : Facts → Fact → ℕ
fact_in facts fact.Level = facts.level
fact_in facts fact.Ran = facts.ran
fact_in facts fact.Thread = facts.thread
fact_in facts fact.Cpu = facts.cpu
fact_in facts fact.Allowed = facts.allowed

-- no number is above this one
abbrev pub greatest : ℕ
greatest = 2 ^ 64 - 1

-- sums and products stop at the greatest number, differences at 0; a quotient by 0 is the greatest number, and a
-- remainder by 0 is all
abbrev pub by_operator : Operator → ℕ → ℕ → ℕ
by_operator operator.Plus a b = min (a + b) greatest
by_operator operator.Times a b = min (a * b) greatest
by_operator operator.Minus a b = a - b
by_operator operator.Over a b = if b == 0 then greatest else a / b
by_operator operator.Modulo a b = if b == 0 then a else a % b

-- the lesser or the greater of two
abbrev pub by_extreme : Extreme → ℕ → ℕ → ℕ
by_extreme extreme.Min a b = min a b
by_extreme extreme.Max a b = max a b

-- how two numbers compare
abbrev pub compares : Comparison → ℕ → ℕ → Bool
compares comparison.Below a b = nat_lt a b
compares comparison.AtMost a b = leb a b
compares comparison.Same a b = a == b
compares comparison.Other a b = not (a == b)
compares comparison.AtLeast a b = leb b a
compares comparison.Above a b = nat_lt b a

-- both tests, or one of them
abbrev pub joined_by : Joiner → Bool → Bool → Bool
joined_by joiner.And a b = a && b
joined_by joiner.Or a b = a || b

-- what is made of two numbers; none, where one of them is none
abbrev pub of_both : (ℕ → ℕ → ℕ) → Option ℕ → Option ℕ → Option ℕ
of_both f None b = None
of_both f (Some a) None = None
of_both f (Some a) (Some b) = Some (f a b)

-- whether two numbers compare so; false, where one of them is none
abbrev pub are_both : (ℕ → ℕ → Bool) → Option ℕ → Option ℕ → Bool
are_both f None b = false
are_both f (Some a) None = false
are_both f (Some a) (Some b) = f a b

abbrev mutual
  -- the rank that an expression gives a thread
  pub rank_by : Tree → Facts → Option ℕ
  rank_by (tree.Number number) facts = Some number
  rank_by (tree.Given fact) facts = Some (fact_in facts fact)
  rank_by tree.NoRank facts = None
  rank_by (tree.Infix operator a b) facts = of_both (by_operator operator) (rank_by a facts) (rank_by b facts)
  rank_by (tree.Call extreme a b) facts = of_both (by_extreme extreme) (rank_by a facts) (rank_by b facts)
  rank_by (tree.Choice test a b) facts = if holds_of test facts then rank_by a facts else rank_by b facts

  -- whether a test holds of a thread
  pub holds_of : Condition → Facts → Bool
  holds_of (tree.Compare comparison a b) facts = are_both (compares comparison) (rank_by a facts) (rank_by b facts)
  holds_of (tree.Join joiner a b) facts = joined_by joiner (holds_of a facts) (holds_of b facts)
  holds_of (tree.Negate a) facts = not (holds_of a facts)
