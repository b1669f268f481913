-- What is being made, as its stack has it.
use Rattle.std.specs.Prelude.{ℕ, ◌+◌, List, [], length}
use Rattle.pc_rank.specs.Expressions.{Tree, Condition, Found, Rank, Test}
use Rattle.pc_rank.specs.Inner.Reading.{weight}
use Rattle.pc_rank.specs.Inner.Stacks.{HasRank, HasTest, pop, test_of, top, tree_of}
use Rattle.pc_rank.specs.Layout.{builds}
use Rattle.pc_rank.specs.declared.halt.Part.{Part}
use Rattle.pc_rank.specs.declared.halt.Part.TheVariants as part
use Rattle.pc_rank.specs.declared.making.Making.{Making}
use Rattle.pc_rank.specs.declared.token.Token.{Token}

-- what was made and is no operand yet, the newest on top
unfoldable pub stack : Making → List Found
stack made = builds made.row []

-- the expression on top, the test on top, and either
abbrev pub tree_on : Making → Tree
tree_on made = tree_of (top (stack made))

abbrev pub test_on : Making → Condition
test_on made = test_of (top (stack made))

abbrev pub found_on : Part → Making → Found
found_on part.Rank made = Rank (tree_on made)
found_on part.Test made = Test (test_on made)

-- it is one that lies there
abbrev pub Has : Part → List Found → Type 0
Has part.Rank found = HasRank found
Has part.Test found = HasTest found

-- what lies under the top
abbrev pub under : Making → List Found
under made = pop (stack made)

-- how many codes there may be at most, when the tokens are read
abbrev pub load : Making → List Token → ℕ
load made tokens = length made.row + weight tokens
