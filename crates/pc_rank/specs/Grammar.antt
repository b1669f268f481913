-- Which tokens an expression has. There is no precedence: an operand is a term, and where two different operators meet,
-- parentheses make terms. `a + b + c` is `a`, and behind the first operator `b + c`; only sums and products are chains
-- of this kind, and tests that one word joins. A level is used up by parentheses, `min`, `max`, `if`, a test, and each
-- operand of a chain behind its first: what has n levels may use n within one another.
use Rattle.std.specs.Prelude.{◌≡◌, ℕ, suc, true, false, List, [], ◌∷◌, ◌++◌}
use Rattle.pc_rank.specs.Expressions.{Tree, Condition}
use Rattle.pc_rank.specs.Expressions as tree
use Rattle.pc_rank.specs.Texts.{may_chain}
use Rattle.pc_rank.specs.declared.facts.Fact.{Fact}
use Rattle.pc_rank.specs.declared.operators.Comparison.{Comparison}
use Rattle.pc_rank.specs.declared.operators.Extreme.{Extreme}
use Rattle.pc_rank.specs.declared.operators.Joiner.{Joiner}
use Rattle.pc_rank.specs.declared.operators.Operator.{Operator}
use Rattle.pc_rank.specs.declared.token.Token.{Token}
use Rattle.pc_rank.specs.declared.token.Token.TheVariants as token

mutual
  -- An expression is a sum, or `if` test `then` expression `else` expression
  pub data IsExpression : ℕ → List Token → Tree → Type 0 where
    plain : {n : ℕ} {s : List Token} {a : Tree} → IsSum n s a → IsExpression (suc n) s a
    choice : {n : ℕ} {s t u : List Token} {q : Condition} {a b : Tree}
        → IsTest n s q → IsExpression n t a → IsExpression n u b
        → IsExpression (suc n) (token.If ∷ (s ++ token.Then ∷ (t ++ token.Else ∷ u))) (tree.Choice q a b)

  -- A sum is a term, a chain, or two terms with another operator between them
  pub data IsSum : ℕ → List Token → Tree → Type 0 where
    single : {n : ℕ} {s : List Token} {a : Tree} → IsTerm n s a → IsSum n s a
    chain : {n : ℕ} {s t : List Token} {o : Operator} {a b : Tree}
        → may_chain o ≡ true → IsTerm n s a → IsChain o n t b
        → IsSum n (s ++ token.Infix o ∷ t) (tree.Infix o a b)
    two : {n : ℕ} {s t : List Token} {o : Operator} {a b : Tree}
        → may_chain o ≡ false → IsTerm n s a → IsTerm n t b
        → IsSum n (s ++ token.Infix o ∷ t) (tree.Infix o a b)

  -- What is behind an operator in a chain is a term, or a term, the same operator and what is behind it
  pub data IsChain : Operator → ℕ → List Token → Tree → Type 0 where
    last : {n : ℕ} {s : List Token} {o : Operator} {a : Tree} → IsTerm n s a → IsChain o (suc n) s a
    more : {n : ℕ} {s t : List Token} {o : Operator} {a b : Tree}
        → IsTerm n s a → IsChain o n t b
        → IsChain o (suc n) (s ++ token.Infix o ∷ t) (tree.Infix o a b)

  -- A term is a number, a name, `none`, an expression in parentheses, or `min` or `max` of two expressions
  pub data IsTerm : ℕ → List Token → Tree → Type 0 where
    number : {n k : ℕ} → IsTerm n (token.Number k ∷ []) (tree.Number k)
    given : {n : ℕ} {f : Fact} → IsTerm n (token.Given f ∷ []) (tree.Given f)
    no_rank : {n : ℕ} → IsTerm n (token.NoRank ∷ []) tree.NoRank
    group : {n : ℕ} {s : List Token} {a : Tree}
        → IsExpression n s a
        → IsTerm n (token.Open ∷ (s ++ token.Close ∷ [])) a
    call : {n : ℕ} {s t : List Token} {x : Extreme} {a b : Tree}
        → IsExpression n s a → IsExpression n t b
        → IsTerm n (token.Call x ∷ token.Open ∷ (s ++ token.Comma ∷ (t ++ token.Close ∷ []))) (tree.Call x a b)

  -- A test compares two sums, joins tests in parentheses by one word, or is `not` of one in parentheses
  pub data IsTest : ℕ → List Token → Condition → Type 0 where
    compare : {n : ℕ} {s t : List Token} {c : Comparison} {a b : Tree}
        → IsSum n s a → IsSum n t b
        → IsTest (suc n) (s ++ token.Compare c ∷ t) (tree.Compare c a b)
    join : {n : ℕ} {s t : List Token} {j : Joiner} {p q : Condition}
        → IsTest n s p → IsJoined j n t q
        → IsTest (suc n) (token.Open ∷ (s ++ token.Close ∷ token.Join j ∷ t)) (tree.Join j p q)
    negate : {n : ℕ} {s : List Token} {p : Condition}
        → IsTest n s p
        → IsTest (suc n) (token.Not ∷ token.Open ∷ (s ++ token.Close ∷ [])) (tree.Negate p)

  -- What is behind a word that joins is a test in parentheses, or that, the same word and what is behind it
  pub data IsJoined : Joiner → ℕ → List Token → Condition → Type 0 where
    last_test : {n : ℕ} {s : List Token} {j : Joiner} {p : Condition}
        → IsTest n s p
        → IsJoined j (suc n) (token.Open ∷ (s ++ token.Close ∷ [])) p
    more_tests : {n : ℕ} {s t : List Token} {j : Joiner} {p q : Condition}
        → IsTest n s p → IsJoined j n t q
        → IsJoined j (suc n) (token.Open ∷ (s ++ token.Close ∷ token.Join j ∷ t)) (tree.Join j p q)
