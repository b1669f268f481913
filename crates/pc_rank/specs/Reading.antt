-- Which expression a text has, and what a reader may answer.
use Rattle.std.specs.Prelude.{ℕ, ◌+◌, ◌<◌, ◌≤◌, leb, ◌&&◌, ◌⊎◌, List, length, Option, Some, None, Result, Ok, Err}
use Rattle.std.specs.Prelude.{if◌then◌else◌}
use Rattle.pc_rank.specs.Expressions.{Tree, Condition}
use Rattle.pc_rank.specs.Expressions as tree
use Rattle.pc_rank.specs.Grammar.{IsExpression}
use Rattle.pc_rank.specs.Inner.Cutting.{tokens_of}
use Rattle.pc_rank.specs.Inner.Reading.{whole}
use Rattle.pc_rank.specs.Texts.{text_of}
use Rattle.pc_rank.specs.Tokens.{Spells}
use Rattle.pc_rank.specs.declared.fault.RankFault.{RankFault}
use Rattle.pc_rank.specs.declared.fault.RankFault.TheVariants as fault
use Rattle.pc_rank.specs.declared.halt.Halt.{Halt}
use Rattle.pc_rank.specs.declared.token.Token.{Token}

abbrev mutual
  -- how many nodes an expression has
  pub nodes : Tree → ℕ
  nodes (tree.Number number) = 1
  nodes (tree.Given fact) = 1
  nodes tree.NoRank = 1
  nodes (tree.Infix operator a b) = nodes a + nodes b + 1
  nodes (tree.Call extreme a b) = nodes a + nodes b + 1
  nodes (tree.Choice test a b) = test_nodes test + nodes a + nodes b + 1

  -- how many nodes a test has
  pub test_nodes : Condition → ℕ
  test_nodes (tree.Compare comparison a b) = nodes a + nodes b + 1
  test_nodes (tree.Join joiner a b) = test_nodes a + test_nodes b + 1
  test_nodes (tree.Negate a) = test_nodes a + 1

-- the text is one of this expression: the grammar derives its tokens, sixteen levels deep at most
pub record IsText (text : List ℕ) (a : Tree) : Type 0 where
  pub tokens : List Token
  pub spelled : Spells text tokens
  pub derived : IsExpression 16 tokens a

-- what is written of an expression is a text of it that is read: 512 bytes at most, and 64 nodes
pub record IsReadable (a : Tree) : Type 0 where
  pub text : IsText (text_of a) a
  pub short : length (text_of a) ≤ 512
  pub few : nodes a ≤ 64

-- what was read, where it is within the limits
abbrev pub limited : Result Tree Halt → Option Tree
limited (Ok a) = if leb (nodes a) 64 && leb (length (text_of a)) 512 then Some a else None
limited (Err halt) = None

-- The expression that a text of up to 512 bytes is read as: the one that all of its tokens make, if that is within the
-- limits. How tokens are cut off and read stands in Inner, since a law of texts tells which expression it is.
unfoldable pub expression_of : List ℕ → Option Tree
expression_of text = if leb (length text) 512 then limited (whole (tokens_of text)) else None

-- the text is of an expression, and what it is of would be written in more than 512 bytes
pub record IsOfLongTree (text : List ℕ) : Type 0 where
  pub tree : Tree
  pub text_is : IsText text tree
  pub long : (a : Tree) → IsText text a → 512 < length (text_of a)

-- Why no expression was read: the text is past 512 bytes, or its expression would be written in more, or the text is of
-- no expression up to 64 nodes, or of none at all
abbrev pub Refuses : List ℕ → RankFault → Type 0
Refuses text fault.TooLong = (512 < length text) ⊎ IsOfLongTree text
Refuses text (fault.TooManyNodes at) = (a : Tree) → IsText text a → 64 < nodes a
Refuses text (fault.TooDeep at) = (a : Tree) → IsText text a → ⊥
Refuses text (fault.Wanted at wanted) = (a : Tree) → IsText text a → ⊥
