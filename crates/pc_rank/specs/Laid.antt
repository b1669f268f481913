-- The codes of an expression build it.
use Rattle.std.specs.Prelude.{◌≡◌, List, [], ◌∷◌, ◌++◌, refl}
use Rattle.std.proofs.Common.{sym, ap, ◌∙◌, append_assoc, append-nil}
use Rattle.pc_rank.specs.Expressions.{Tree, Condition, Found, Rank, Test}
use Rattle.pc_rank.specs.Expressions as tree
use Rattle.pc_rank.specs.Layout.{layout, test_layout, builds, alone, built_of}
use Rattle.pc_rank.specs.declared.code.Code.{Code}
use Rattle.pc_rank.specs.declared.code.Code.TheVariants as code

-- parts behind one another, from the first on
three : (a b c rest : List Code) → (a ++ b ++ c) ++ rest ≡ a ++ (b ++ (c ++ rest))
three a b c rest = append_assoc (a ++ b) c rest ∙ append_assoc a b (c ++ rest)

four : (a b c d rest : List Code) → (a ++ b ++ c ++ d) ++ rest ≡ a ++ (b ++ (c ++ (d ++ rest)))
four a b c d rest = append_assoc (a ++ b ++ c) d rest ∙ three a b c (d ++ rest)

mutual
  -- behind the codes of an expression it was built, on what was there
  pub builds_it : (a : Tree) (rest : List Code) (built : List Found)
      → builds (layout a ++ rest) built ≡ builds rest (Rank a ∷ built)
  builds_it (tree.Number number) rest built = refl
  builds_it (tree.Given fact) rest built = refl
  builds_it tree.NoRank rest built = refl
  builds_it (tree.Infix operator a b) rest built =
      ap (λ l. builds l built) (three (layout a) (layout b) (code.Infix operator ∷ []) rest)
      ∙ builds_it a (layout b ++ (code.Infix operator ∷ rest)) built
      ∙ builds_it b (code.Infix operator ∷ rest) (Rank a ∷ built)
  builds_it (tree.Call extreme a b) rest built =
      ap (λ l. builds l built) (three (layout a) (layout b) (code.Call extreme ∷ []) rest)
      ∙ builds_it a (layout b ++ (code.Call extreme ∷ rest)) built
      ∙ builds_it b (code.Call extreme ∷ rest) (Rank a ∷ built)
  builds_it (tree.Choice q a b) rest built =
      ap (λ l. builds l built) (four (test_layout q) (layout a) (layout b) (code.Choice ∷ []) rest)
      ∙ builds_test q (layout a ++ (layout b ++ (code.Choice ∷ rest))) built
      ∙ builds_it a (layout b ++ (code.Choice ∷ rest)) (Test q ∷ built)
      ∙ builds_it b (code.Choice ∷ rest) (Rank a ∷ Test q ∷ built)

  -- and behind those of a test
  pub builds_test : (a : Condition) (rest : List Code) (built : List Found)
      → builds (test_layout a ++ rest) built ≡ builds rest (Test a ∷ built)
  builds_test (tree.Compare comparison a b) rest built =
      ap (λ l. builds l built) (three (layout a) (layout b) (code.Compare comparison ∷ []) rest)
      ∙ builds_it a (layout b ++ (code.Compare comparison ∷ rest)) built
      ∙ builds_it b (code.Compare comparison ∷ rest) (Rank a ∷ built)
  builds_test (tree.Join joiner a b) rest built =
      ap (λ l. builds l built) (three (test_layout a) (test_layout b) (code.Join joiner ∷ []) rest)
      ∙ builds_test a (test_layout b ++ (code.Join joiner ∷ rest)) built
      ∙ builds_test b (code.Join joiner ∷ rest) (Test a ∷ built)
  builds_test (tree.Negate a) rest built =
      ap (λ l. builds l built) (append_assoc (test_layout a) (code.Negate ∷ []) rest)
      ∙ builds_test a (code.Negate ∷ rest) built

-- so an expression is that of its codes
pub built_again : (a : Tree) → built_of (layout a) ≡ a
built_again a = ap alone (ap (λ l. builds l []) (sym (append-nil (layout a))) ∙ builds_it a [] [])
