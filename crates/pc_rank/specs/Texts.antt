-- The one text that an expression is written as: a space on both sides of an operator and behind a comma, and
-- parentheses where the grammar wants them, and nowhere else. `a + b + c` is `a` and the sum of the others, so the sum
-- of a sum and a third is written `(a + b) + c`.
use Rattle.std.specs.Prelude.{ℕ, Bool, true, false, not, ◌&&◌, List, ◌++◌, codes, decimal}
use Rattle.pc_rank.specs.Expressions.{Tree, Condition}
use Rattle.pc_rank.specs.Expressions as tree
use Rattle.pc_rank.specs.declared.facts.Fact.{Fact}
use Rattle.pc_rank.specs.declared.facts.Fact.TheVariants as fact
use Rattle.pc_rank.specs.declared.operators.Comparison.{Comparison}
use Rattle.pc_rank.specs.declared.operators.Comparison.TheVariants as comparison
use Rattle.pc_rank.specs.declared.operators.Extreme.{Extreme}
use Rattle.pc_rank.specs.declared.operators.Extreme.TheVariants as extreme
use Rattle.pc_rank.specs.declared.operators.Joiner.{Joiner}
use Rattle.pc_rank.specs.declared.operators.Joiner.TheVariants as joiner
use Rattle.pc_rank.specs.declared.operators.Operator.{Operator}
use Rattle.pc_rank.specs.declared.operators.Operator.TheVariants as operator

-- the names
abbrev pub fact_word : Fact → List ℕ
fact_word fact.Level = codes "level"
fact_word fact.Ran = codes "ran"
fact_word fact.Thread = codes "thread"
fact_word fact.Cpu = codes "cpu"
fact_word fact.Allowed = codes "allowed"

-- the words for the lesser and the greater of two
abbrev pub extreme_word : Extreme → List ℕ
extreme_word extreme.Min = codes "min"
extreme_word extreme.Max = codes "max"

-- the words that join tests
abbrev pub joiner_word : Joiner → List ℕ
joiner_word joiner.And = codes "and"
joiner_word joiner.Or = codes "or"

-- the signs of operators
abbrev pub operator_sign : Operator → List ℕ
operator_sign operator.Plus = codes "+"
operator_sign operator.Times = codes "*"
operator_sign operator.Minus = codes "-"
operator_sign operator.Over = codes "/"
operator_sign operator.Modulo = codes "%"

-- the signs of comparisons
abbrev pub comparison_sign : Comparison → List ℕ
comparison_sign comparison.Below = codes "<"
comparison_sign comparison.AtMost = codes "<="
comparison_sign comparison.Same = codes "=="
comparison_sign comparison.Other = codes "!="
comparison_sign comparison.AtLeast = codes ">="
comparison_sign comparison.Above = codes ">"

-- an operator that may stand again behind what it joins: a chain
abbrev pub may_chain : Operator → Bool
may_chain operator.Plus = true
may_chain operator.Times = true
may_chain operator.Minus = false
may_chain operator.Over = false
may_chain operator.Modulo = false

-- one operator is the other
abbrev pub is_operator : Operator → Operator → Bool
is_operator operator.Plus operator.Plus = true
is_operator operator.Times operator.Times = true
is_operator operator.Minus operator.Minus = true
is_operator operator.Over operator.Over = true
is_operator operator.Modulo operator.Modulo = true
is_operator _ _ = false

-- one word is the other
abbrev pub is_joiner : Joiner → Joiner → Bool
is_joiner joiner.And joiner.And = true
is_joiner joiner.Or joiner.Or = true
is_joiner _ _ = false

-- a choice, which stands in parentheses where it is compared
abbrev pub is_choice : Tree → Bool
is_choice (tree.Number number) = false
is_choice (tree.Given fact) = false
is_choice tree.NoRank = false
is_choice (tree.Infix operator a b) = false
is_choice (tree.Call extreme a b) = false
is_choice (tree.Choice test a b) = true

-- an expression that is no term, which stands in parentheses beside an operator
abbrev pub is_loose : Tree → Bool
is_loose (tree.Number number) = false
is_loose (tree.Given fact) = false
is_loose tree.NoRank = false
is_loose (tree.Infix operator a b) = true
is_loose (tree.Call extreme a b) = false
is_loose (tree.Choice test a b) = true

-- an expression that goes on the chain of an operator in front of it
abbrev pub goes_on : Operator → Tree → Bool
goes_on operator (tree.Number number) = false
goes_on operator (tree.Given fact) = false
goes_on operator tree.NoRank = false
goes_on operator (tree.Infix other a b) = may_chain operator && is_operator operator other
goes_on operator (tree.Call extreme a b) = false
goes_on operator (tree.Choice test a b) = false

-- a test that goes on the chain of a word in front of it
abbrev pub is_joined_on : Joiner → Condition → Bool
is_joined_on joiner (tree.Compare comparison a b) = false
is_joined_on joiner (tree.Join other a b) = is_joiner joiner other
is_joined_on joiner (tree.Negate a) = false

-- a text, in parentheses where they are wanted
abbrev pub grouped : Bool → List ℕ → List ℕ
grouped true text = codes "(" ++ text ++ codes ")"
grouped false text = text

abbrev mutual
  -- the text of an expression
  pub text_of : Tree → List ℕ
  text_of (tree.Number number) = decimal number
  text_of (tree.Given fact) = fact_word fact
  text_of tree.NoRank = codes "none"
  text_of (tree.Infix operator a b) =
      grouped (is_loose a) (text_of a) ++ codes " " ++ operator_sign operator ++ codes " "
      ++ grouped (is_loose b && not (goes_on operator b)) (text_of b)
  text_of (tree.Call extreme a b) =
      extreme_word extreme ++ codes "(" ++ text_of a ++ codes ", " ++ text_of b ++ codes ")"
  text_of (tree.Choice test a b) =
      codes "if " ++ test_text test ++ codes " then " ++ text_of a ++ codes " else " ++ text_of b

  -- the text of a test
  pub test_text : Condition → List ℕ
  test_text (tree.Compare comparison a b) =
      grouped (is_choice a) (text_of a) ++ codes " " ++ comparison_sign comparison ++ codes " "
      ++ grouped (is_choice b) (text_of b)
  test_text (tree.Join joiner a b) =
      grouped true (test_text a) ++ codes " " ++ joiner_word joiner ++ codes " "
      ++ grouped (not (is_joined_on joiner b)) (test_text b)
  test_text (tree.Negate a) = codes "not " ++ grouped true (test_text a)
