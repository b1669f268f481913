-- A stack of what codes built and is no operand yet, the newest on top.
use Rattle.std.specs.Prelude.{List, [], ◌∷◌, ◌++◌}
use Rattle.pc_rank.specs.Expressions.{Tree, Condition, Found, Rank, Test}
use Rattle.pc_rank.specs.Expressions as tree
use Rattle.pc_rank.specs.Layout.{layout, test_layout}
use Rattle.pc_rank.specs.declared.code.Code.{Code}
use Rattle.pc_rank.specs.declared.code.Code.TheVariants as code
use Rattle.pc_rank.specs.declared.operators.Comparison.TheVariants as comparison

-- the expression; a test is none, and gives `none`
abbrev pub tree_of : Found → Tree
tree_of (Rank a) = a
tree_of (Test q) = tree.NoRank

-- the test; an expression is none, and gives one that never holds
abbrev pub test_of : Found → Condition
test_of (Rank a) = tree.Compare comparison.Same tree.NoRank tree.NoRank
test_of (Test q) = q

-- what lies on top; of an empty stack, `none`
unfoldable pub top : List Found → Found
top [] = Rank tree.NoRank
top (x ∷ xs) = x

-- what lies under it
unfoldable pub pop : List Found → List Found
pop [] = []
pop (x ∷ xs) = xs

-- an expression lies on top
unfoldable pub HasRank : List Found → Type 0
HasRank [] = ⊥
HasRank (Rank a ∷ xs) = Unit {0}
HasRank (Test q ∷ xs) = ⊥

-- a test lies on top
unfoldable pub HasTest : List Found → Type 0
HasTest [] = ⊥
HasTest (Rank a ∷ xs) = ⊥
HasTest (Test q ∷ xs) = Unit {0}

-- the codes of an expression or a test
abbrev pub found_layout : Found → List Code
found_layout (Rank a) = layout a
found_layout (Test q) = test_layout q

-- the codes of all that lies there, those of the newest behind the others
abbrev pub layouts : List Found → List Code
layouts [] = []
layouts (x ∷ xs) = layouts xs ++ found_layout x

-- what a code is made of lies on top
abbrev pub Finds : Code → List Found → Type 0
Finds (code.Number number) s = Unit {0}
Finds (code.Given fact) s = Unit {0}
Finds code.NoRank s = Unit {0}
Finds (code.Infix operator) s = HasRank s × HasRank (pop s)
Finds (code.Call extreme) s = HasRank s × HasRank (pop s)
Finds code.Choice s = HasRank s × HasRank (pop s) × HasTest (pop (pop s))
Finds (code.Compare comparison) s = HasRank s × HasRank (pop s)
Finds (code.Join joiner) s = HasTest s × HasTest (pop s)
Finds code.Negate s = HasTest s

-- what it makes of that
abbrev pub made_by : Code → List Found → Found
made_by (code.Number number) s = Rank (tree.Number number)
made_by (code.Given fact) s = Rank (tree.Given fact)
made_by code.NoRank s = Rank tree.NoRank
made_by (code.Infix operator) s = Rank (tree.Infix operator (tree_of (top (pop s))) (tree_of (top s)))
made_by (code.Call extreme) s = Rank (tree.Call extreme (tree_of (top (pop s))) (tree_of (top s)))
made_by code.Choice s = Rank (tree.Choice (test_of (top (pop (pop s)))) (tree_of (top (pop s))) (tree_of (top s)))
made_by (code.Compare comparison) s = Test (tree.Compare comparison (tree_of (top (pop s))) (tree_of (top s)))
made_by (code.Join joiner) s = Test (tree.Join joiner (test_of (top (pop s))) (test_of (top s)))
made_by code.Negate s = Test (tree.Negate (test_of (top s)))

-- an expression or a test
abbrev pub Makes : Code → List Found → Type 0
Makes (code.Compare comparison) s = HasTest s
Makes (code.Join joiner) s = HasTest s
Makes code.Negate s = HasTest s
Makes other s = HasRank s

-- what lies under it
abbrev pub under_by : Code → List Found → List Found
under_by (code.Number number) s = s
under_by (code.Given fact) s = s
under_by code.NoRank s = s
under_by code.Choice s = pop (pop (pop s))
under_by code.Negate s = pop s
under_by other s = pop (pop s)
