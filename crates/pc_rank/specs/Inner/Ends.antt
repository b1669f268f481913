-- What codes end by.
use Rattle.std.specs.Prelude.{◌≡◌, List, ◌++◌}
use Rattle.pc_rank.specs.Expressions.{Tree, Condition}
use Rattle.pc_rank.specs.Layout.{layout, test_layout}
use Rattle.pc_rank.specs.declared.code.Code.{Code}

-- where codes end by those of an expression, this holds of the codes in front of it, and of it
abbrev pub AtExpression : List Code → (List Code → Tree → Type 0) → Type 0
AtExpression codes holds = (front : List Code) (a : Tree) → codes ≡ front ++ layout a → holds front a

-- where they end by those of two expressions
abbrev pub AtTwo : List Code → (List Code → Tree → Tree → Type 0) → Type 0
AtTwo codes holds = (front : List Code) (a b : Tree) → codes ≡ front ++ layout a ++ layout b → holds front a b

-- where they end by those of a test
abbrev pub AtTest : List Code → (List Code → Condition → Type 0) → Type 0
AtTest codes holds = (front : List Code) (a : Condition) → codes ≡ front ++ test_layout a → holds front a
