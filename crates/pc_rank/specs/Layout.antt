-- Trees as lists of codes: each code stands right behind what it is made of.
use Rattle.std.specs.Prelude.{List, [], ◌∷◌, ◌++◌}
use Rattle.pc_rank.specs.Expressions.{Tree, Condition, Found, Rank, Test}
use Rattle.pc_rank.specs.Expressions as tree
use Rattle.pc_rank.specs.declared.code.Code.{Code}
use Rattle.pc_rank.specs.declared.code.Code.TheVariants as code

abbrev mutual
  -- the codes of an expression
  pub layout : Tree → List Code
  layout (tree.Number number) = code.Number number ∷ []
  layout (tree.Given fact) = code.Given fact ∷ []
  layout tree.NoRank = code.NoRank ∷ []
  layout (tree.Infix operator a b) = layout a ++ layout b ++ code.Infix operator ∷ []
  layout (tree.Call extreme a b) = layout a ++ layout b ++ code.Call extreme ∷ []
  layout (tree.Choice test a b) = test_layout test ++ layout a ++ layout b ++ code.Choice ∷ []

  -- the codes of a test
  pub test_layout : Condition → List Code
  test_layout (tree.Compare comparison a b) = layout a ++ layout b ++ code.Compare comparison ∷ []
  test_layout (tree.Join joiner a b) = test_layout a ++ test_layout b ++ code.Join joiner ∷ []
  test_layout (tree.Negate a) = test_layout a ++ code.Negate ∷ []

-- what codes build, one after another, on what was built last first; nothing where a code has not what it is made of
abbrev pub builds : List Code → List Found → List Found
builds [] built = built
builds (code.Number number ∷ codes) built = builds codes (Rank (tree.Number number) ∷ built)
builds (code.Given fact ∷ codes) built = builds codes (Rank (tree.Given fact) ∷ built)
builds (code.NoRank ∷ codes) built = builds codes (Rank tree.NoRank ∷ built)
builds (code.Infix operator ∷ codes) (Rank b ∷ Rank a ∷ built) = builds codes (Rank (tree.Infix operator a b) ∷ built)
builds (code.Call extreme ∷ codes) (Rank b ∷ Rank a ∷ built) = builds codes (Rank (tree.Call extreme a b) ∷ built)
builds (code.Choice ∷ codes) (Rank b ∷ Rank a ∷ Test q ∷ built) = builds codes (Rank (tree.Choice q a b) ∷ built)
builds (code.Compare comparison ∷ codes) (Rank b ∷ Rank a ∷ built) =
    builds codes (Test (tree.Compare comparison a b) ∷ built)
builds (code.Join joiner ∷ codes) (Test b ∷ Test a ∷ built) = builds codes (Test (tree.Join joiner a b) ∷ built)
builds (code.Negate ∷ codes) (Test a ∷ built) = builds codes (Test (tree.Negate a) ∷ built)
builds (other ∷ codes) built = []

-- the one expression that was built
abbrev pub alone : List Found → Tree
alone (Rank a ∷ []) = a
alone other = tree.NoRank

-- the expression whose codes these are
abbrev pub built_of : List Code → Tree
built_of codes = alone (builds codes [])
