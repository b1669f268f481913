-- What the grammar derives has known tokens, and as many nodes as its tokens make.
use Rattle.std.proofs.Common.{◌≡◌, ℕ, zero, suc, ◌+◌, List, [], ◌∷◌, ◌++◌, cond, refl, ap, ◌∙◌, zero-add, arith}
use Rattle.std.specs.List.{AllByRecursion, count_by, sum_by}
use Rattle.std.proofs.lemmas.List.Sums.{sum_by-append}
use Rattle.pc_rank.specs.Expressions.{Tree, Condition}
use Rattle.pc_rank.specs.Grammar.{IsExpression, IsSum, IsChain, IsTerm, IsTest, IsJoined, plain, choice, single, chain, two, last, more, number, given, no_rank, group, call, compare, join, negate, last_test, more_tests}
use Rattle.pc_rank.specs.Reading.{nodes, test_nodes}
use Rattle.pc_rank.specs.Tokens.{is_node}
use Rattle.pc_rank.specs.declared.operators.Joiner.{Joiner}
use Rattle.pc_rank.specs.declared.operators.Operator.{Operator}
use Rattle.pc_rank.specs.declared.token.Token.{Token}
use Rattle.pc_rank.specs.declared.token.Token.TheVariants as token
use Rattle.pc_rank.proofs.Complete.{no_chain, no_expression, no_test, no_tests}
use Rattle.pc_rank.proofs.Cuts.{IsKnown}

-- so many nodes, of known tokens
pub record Makes (s : List Token) (n : ℕ) : Type 0 where
  pub known : AllByRecursion IsKnown s
  pub count : count_by is_node s ≡ n

all_both : (s t : List Token) → AllByRecursion IsKnown s → AllByRecursion IsKnown t → AllByRecursion IsKnown (s ++ t)
all_both [] t none all = all
all_both (x ∷ s) t all others = (all.0, all_both s t all.1 others)

abbrev weight : Token → ℕ
weight x = cond (is_node x) 1 0

more_weight : (x : Token) (t : List Token) → sum_by weight (x ∷ t) ≡ weight x + sum_by weight t
more_weight x t = sum_by-append weight (x ∷ []) t ∙ ap (λ k. k + sum_by weight t) (zero-add (weight x))

-- parts with a token between them
between : (s t : List Token) (x : Token) (m n k : ℕ) → IsKnown x → m + weight x + n ≡ k → Makes s m → Makes t n → Makes (s ++ x ∷ t) k
between s t x m n k is sum a b = record {
  known = all_both s (x ∷ t) a.known (is, b.known);
  count = sum_by-append weight s (x ∷ t) ∙ (let cons = more_weight x t in omega (arith, a.count, b.count, sum, cons));
}

-- a token in front
front : (t : List Token) (x : Token) (n k : ℕ) → IsKnown x → weight x + n ≡ k → Makes t n → Makes (x ∷ t) k
front t x n k is sum b = record { known = (is, b.known); count = more_weight x t ∙ omega (arith, b.count, sum) }

nothing : Makes [] 0
nothing = record { known = tt; count = refl }

module _ (n : ℕ)
    (expressions : (s : List Token) (a : Tree) → IsExpression n s a → Makes s (nodes a))
    (chains : (o : Operator) (s : List Token) (a : Tree) → IsChain o n s a → Makes s (nodes a))
    (tests : (s : List Token) (q : Condition) → IsTest n s q → Makes s (test_nodes q))
    (joins : (j : Joiner) (s : List Token) (q : Condition) → IsJoined j n s q → Makes s (test_nodes q)) where
  closed : (s : List Token) (m : ℕ) → Makes s m → Makes (s ++ token.Close ∷ []) m
  closed s m h = between s [] token.Close m 0 m tt (omega arith) h nothing

  term_makes : (s : List Token) (a : Tree) → IsTerm n s a → Makes s (nodes a)
  term_makes _ _ (number {k}) = front [] (token.Number k) 0 1 tt (omega arith) nothing
  term_makes _ _ (given {f}) = front [] (token.Given f) 0 1 tt (omega arith) nothing
  term_makes _ _ no_rank = front [] token.NoRank 0 1 tt (omega arith) nothing
  term_makes _ _ (group {s} {a} h) = front _ token.Open (nodes a) _ tt (omega arith) (closed s (nodes a) (expressions s a h))
  term_makes _ _ (call {s} {t} {x} {a} {b} h k) =
      front _ (token.Call x) (nodes a + nodes b) _ tt (omega arith)
      (front _ token.Open (nodes a + nodes b) _ tt (omega arith)
      (between s _ token.Comma (nodes a) (nodes b) _ tt (omega arith) (expressions s a h) (closed t (nodes b) (expressions t b k))))

  infix_makes : (s t : List Token) (o : Operator) (a b : Tree) → Makes s (nodes a) → Makes t (nodes b) → Makes (s ++ token.Infix o ∷ t) (nodes a + nodes b + 1)
  infix_makes s t o a b h k = between s t (token.Infix o) (nodes a) (nodes b) _ tt (omega arith) h k

  sum_makes : (s : List Token) (a : Tree) → IsSum n s a → Makes s (nodes a)
  sum_makes _ _ (single {s} {a} h) = term_makes s a h
  sum_makes _ _ (chain {s} {t} {o} {a} {b} may h k) = infix_makes s t o a b (term_makes s a h) (chains o t b k)
  sum_makes _ _ (two {s} {t} {o} {a} {b} may h k) = infix_makes s t o a b (term_makes s a h) (term_makes t b k)

  expression_makes : (s : List Token) (a : Tree) → IsExpression (suc n) s a → Makes s (nodes a)
  expression_makes _ _ (plain {s} {a} h) = sum_makes s a h
  expression_makes _ _ (choice {s} {t} {u} {q} {a} {b} h i j) =
      front _ token.If (test_nodes q + (nodes a + nodes b)) _ tt (omega arith)
      (between s _ token.Then (test_nodes q) (nodes a + nodes b) _ tt (omega arith) (tests s q h)
      (between t u token.Else (nodes a) (nodes b) _ tt (omega arith) (expressions t a i) (expressions u b j)))

  chain_makes : (o : Operator) (s : List Token) (a : Tree) → IsChain o (suc n) s a → Makes s (nodes a)
  chain_makes _ _ _ (last {s} {o} {a} h) = term_makes s a h
  chain_makes _ _ _ (more {s} {t} {o} {a} {b} h k) = infix_makes s t o a b (term_makes s a h) (chains o t b k)

  grouped : (s : List Token) (q : Condition) (t : List Token) (m k : ℕ) → IsTest n s q → test_nodes q + m ≡ k → Makes t m → Makes (token.Open ∷ (s ++ token.Close ∷ t)) k
  grouped s q t m k h sum rest = front _ token.Open k k tt (omega arith) (between s t token.Close (test_nodes q) m k tt (omega (arith, sum)) (tests s q h) rest)

  joined : (s t : List Token) (j : Joiner) (p q : Condition) → IsTest n s p → Makes t (test_nodes q) → Makes (token.Open ∷ (s ++ token.Close ∷ token.Join j ∷ t)) (test_nodes p + test_nodes q + 1)
  joined s t j p q h k = grouped s p (token.Join j ∷ t) (test_nodes q + 1) _ h (omega arith) (front t (token.Join j) (test_nodes q) _ tt (omega arith) k)

  test_makes : (s : List Token) (q : Condition) → IsTest (suc n) s q → Makes s (test_nodes q)
  test_makes _ _ (compare {s} {t} {c} {a} {b} h k) = between s t (token.Compare c) (nodes a) (nodes b) _ tt (omega arith) (sum_makes s a h) (sum_makes t b k)
  test_makes _ _ (join {s} {t} {j} {p} {q} h k) = joined s t j p q h (joins j t q k)
  test_makes _ _ (negate {s} {p} h) = front _ token.Not (test_nodes p) _ tt (omega arith) (grouped s p [] 0 _ h (omega arith) nothing)

  joined_makes : (j : Joiner) (s : List Token) (q : Condition) → IsJoined j (suc n) s q → Makes s (test_nodes q)
  joined_makes _ _ _ (last_test {s} {j} {p} h) = grouped s p [] 0 _ h (omega arith) nothing
  joined_makes _ _ _ (more_tests {s} {t} {j} {p} {q} h k) = joined s t j p q h (joins j t q k)

-- the same of each kind of part
record All_make (n : ℕ) : Type 0 where
  expressions : (s : List Token) (a : Tree) → IsExpression n s a → Makes s (nodes a)
  chains : (o : Operator) (s : List Token) (a : Tree) → IsChain o n s a → Makes s (nodes a)
  tests : (s : List Token) (q : Condition) → IsTest n s q → Makes s (test_nodes q)
  joins : (j : Joiner) (s : List Token) (q : Condition) → IsJoined j n s q → Makes s (test_nodes q)

all_make : (n : ℕ) → All_make n
all_make zero = record {
  expressions = λ s a h. absurd (no_expression s a h);
  chains = λ o s a h. absurd (no_chain o s a h);
  tests = λ s q h. absurd (no_test s q h);
  joins = λ j s q h. absurd (no_tests j s q h);
}
all_make (suc n) =
    let below = all_make n in
    record {
      expressions = expression_makes n below.expressions below.chains below.tests below.joins;
      chains = chain_makes n below.expressions below.chains below.tests below.joins;
      tests = test_makes n below.expressions below.chains below.tests below.joins;
      joins = joined_makes n below.expressions below.chains below.tests below.joins;
    }

pub expression_makes_nodes : (n : ℕ) (s : List Token) (a : Tree) → IsExpression n s a → Makes s (nodes a)
expression_makes_nodes n = (all_make n).expressions
