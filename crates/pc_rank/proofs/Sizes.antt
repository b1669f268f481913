-- An expression has as many codes as nodes.
use Rattle.std.specs.Prelude.{◌≡◌, ◌+◌, ◌∷◌, ◌++◌, [], length, List, refl}
use Rattle.std.proofs.Common.{arith}
use Rattle.std.proofs.lemmas.List.{length-append}
use Rattle.pc_rank.specs.Expressions.{Tree, Condition}
use Rattle.pc_rank.specs.Expressions as tree
use Rattle.pc_rank.specs.Layout.{layout, test_layout}
use Rattle.pc_rank.specs.Reading.{nodes, test_nodes}
use Rattle.pc_rank.specs.declared.code.Code.{Code}
use Rattle.pc_rank.specs.declared.code.Code.TheVariants as code

one_more : (a : List Code) (last : Code) → length (a ++ last ∷ []) ≡ length a + 1
one_more a last = length-append a (last ∷ [])

two_more : (a b : List Code) (last : Code) → length (a ++ b ++ last ∷ []) ≡ length a + length b + 1
two_more a b last = omega (arith, one_more (a ++ b) last, length-append a b)

three_more : (a b c : List Code) (last : Code) → length (a ++ b ++ c ++ last ∷ []) ≡ length a + length b + length c + 1
three_more a b c last = omega (arith, two_more (a ++ b) c last, length-append a b)

mutual
  pub length_layout : (a : Tree) → length (layout a) ≡ nodes a
  length_layout (tree.Number number) = refl
  length_layout (tree.Given fact) = refl
  length_layout tree.NoRank = refl
  length_layout (tree.Infix operator a b) =
      omega (arith, two_more (layout a) (layout b) (code.Infix operator), length_layout a, length_layout b)
  length_layout (tree.Call extreme a b) =
      omega (arith, two_more (layout a) (layout b) (code.Call extreme), length_layout a, length_layout b)
  length_layout (tree.Choice q a b) =
      omega (arith, three_more (test_layout q) (layout a) (layout b) code.Choice, length_test q, length_layout a, length_layout b)

  pub length_test : (a : Condition) → length (test_layout a) ≡ test_nodes a
  length_test (tree.Compare comparison a b) =
      omega (arith, two_more (layout a) (layout b) (code.Compare comparison), length_layout a, length_layout b)
  length_test (tree.Join joiner a b) =
      omega (arith, two_more (test_layout a) (test_layout b) (code.Join joiner), length_test a, length_test b)
  length_test (tree.Negate a) = omega (arith, one_more (test_layout a) code.Negate, length_test a)
