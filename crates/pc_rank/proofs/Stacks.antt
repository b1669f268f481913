-- Codes that build a stack are those of what lies there.
use Rattle.std.proofs.Common.{◌≡◌, List, [], ◌∷◌, ◌++◌, Ok, refl, ap, sym, subst, ◌∙◌, append_assoc}
use Rattle.pc_rank.specs.Expressions.{Tree, Condition, Found, Rank, Test}
use Rattle.pc_rank.specs.Expressions as tree
use Rattle.pc_rank.specs.Inner.Limits.{IsMadeOf}
use Rattle.pc_rank.specs.Inner.Reading.{whole}
use Rattle.pc_rank.specs.Inner.Stacks.{Finds, HasRank, HasTest, Makes, found_layout, layouts, made_by, pop, top, tree_of, under_by}
use Rattle.pc_rank.specs.Laid.{builds_it, builds_test}
use Rattle.pc_rank.specs.Layout.{alone, built_of, builds, layout}
use Rattle.pc_rank.specs.declared.code.Code.{Code}
use Rattle.pc_rank.specs.declared.code.Code.TheVariants as code
use Rattle.pc_rank.specs.declared.operators.Joiner.{Joiner}
use Rattle.pc_rank.specs.declared.token.Token.{Token}

builds_found : (x : Found) (rest : List Code) (built : List Found) → builds (found_layout x ++ rest) built ≡ builds rest (x ∷ built)
builds_found (Rank a) rest built = builds_it a rest built
builds_found (Test q) rest built = builds_test q rest built

-- behind the codes of what lies on a stack, that stack was built
builds_all : (xs : List Found) (rest : List Code) → builds (layouts xs ++ rest) [] ≡ builds rest xs
builds_all [] rest = refl
builds_all (x ∷ xs) rest =
    ap (λ l. builds l []) (append_assoc (layouts xs) (found_layout x) rest)
    ∙ builds_all xs (found_layout x ++ rest) ∙ builds_found x rest xs

-- ---- what a code puts on a stack

-- what it is made of gives way to what it makes
record Puts (c : Code) (s : List Found) : Type 0 where
  is : builds (c ∷ []) s ≡ made_by c s ∷ under_by c s
  fits : layouts (builds (c ∷ []) s) ≡ layouts s ++ c ∷ []

-- a code of two expressions
of_two : (c : Code) (make : Tree → Tree → Found) → ((a b : Tree) (s : List Found) → builds (c ∷ []) (Rank b ∷ Rank a ∷ s) ≡ make a b ∷ s)
    → ((a b : Tree) → found_layout (make a b) ≡ layout a ++ layout b ++ c ∷ [])
    → (s : List Found) → HasRank s × HasRank (pop s) → (builds (c ∷ []) s ≡ make (tree_of (top (pop s))) (tree_of (top s)) ∷ pop (pop s)) × (layouts (builds (c ∷ []) s) ≡ layouts s ++ c ∷ [])
unfolding HasRank top pop
of_two c make builds_so lies_so [] kinds = absurd kinds.0
of_two c make builds_so lies_so (Test q ∷ s) kinds = absurd kinds.0
of_two c make builds_so lies_so (Rank b ∷ []) kinds = absurd kinds.1
of_two c make builds_so lies_so (Rank b ∷ Test q ∷ s) kinds = absurd kinds.1
of_two c make builds_so lies_so (Rank b ∷ Rank a ∷ s) kinds = (
  builds_so a b s,
  ap layouts (builds_so a b s) ∙ ap (λ l. layouts s ++ l) (lies_so a b) ∙ simp append_assoc,
)

of_choice : (s : List Found) → HasRank s × HasRank (pop s) × HasTest (pop (pop s)) → Puts code.Choice s
unfolding HasRank HasTest top pop
of_choice [] kinds = absurd kinds.0
of_choice (Test q ∷ s) kinds = absurd kinds.0
of_choice (Rank b ∷ []) kinds = absurd kinds.1
of_choice (Rank b ∷ Test q ∷ s) kinds = absurd kinds.1
of_choice (Rank b ∷ Rank a ∷ []) kinds = absurd kinds.2
of_choice (Rank b ∷ Rank a ∷ Rank q ∷ s) kinds = absurd kinds.2
of_choice (Rank b ∷ Rank a ∷ Test q ∷ s) kinds = record { is = refl; fits = simp append_assoc }

of_tests : (j : Joiner) (s : List Found) → HasTest s × HasTest (pop s) → Puts (code.Join j) s
unfolding HasTest top pop
of_tests j [] kinds = absurd kinds.0
of_tests j (Rank a ∷ s) kinds = absurd kinds.0
of_tests j (Test q ∷ []) kinds = absurd kinds.1
of_tests j (Test q ∷ Rank a ∷ s) kinds = absurd kinds.1
of_tests j (Test q ∷ Test p ∷ s) kinds = record { is = refl; fits = simp append_assoc }

of_test : (s : List Found) → HasTest s → Puts code.Negate s
unfolding HasTest top pop
of_test [] kind = absurd kind
of_test (Rank a ∷ s) kind = absurd kind
of_test (Test q ∷ s) kind = record { is = refl; fits = simp append_assoc }

puts : (c : Code) (s : List Found) → Finds c s → Puts c s
puts (code.Number number) s kinds = record { is = refl; fits = refl }
puts (code.Given fact) s kinds = record { is = refl; fits = refl }
puts code.NoRank s kinds = record { is = refl; fits = refl }
puts (code.Infix operator) s kinds =
    let both = of_two (code.Infix operator) (λ a b. Rank (tree.Infix operator a b)) (λ a b s. refl) (λ a b. refl) s kinds in
    record { is = both.0; fits = both.1 }
puts (code.Call extreme) s kinds =
    let both = of_two (code.Call extreme) (λ a b. Rank (tree.Call extreme a b)) (λ a b s. refl) (λ a b. refl) s kinds in
    record { is = both.0; fits = both.1 }
puts code.Choice s kinds = of_choice s kinds
puts (code.Compare comparison) s kinds =
    let both = of_two (code.Compare comparison) (λ a b. Test (tree.Compare comparison a b)) (λ a b s. refl) (λ a b. refl) s kinds in
    record { is = both.0; fits = both.1 }
puts (code.Join joiner) s kinds = of_tests joiner s kinds
puts code.Negate s kinds = of_test s kinds

has_rank : (s : List Found) (a : Tree) (rest : List Found) → s ≡ Rank a ∷ rest → HasRank s
unfolding HasRank
has_rank s a rest is = subst HasRank (sym is) tt

has_test : (s : List Found) (q : Condition) (rest : List Found) → s ≡ Test q ∷ rest → HasTest s
unfolding HasTest
has_test s q rest is = subst HasTest (sym is) tt

makes : (c : Code) (s new : List Found) → new ≡ made_by c s ∷ under_by c s → Makes c new
makes (code.Number number) s new is = has_rank new _ _ is
makes (code.Given fact) s new is = has_rank new _ _ is
makes code.NoRank s new is = has_rank new _ _ is
makes (code.Infix operator) s new is = has_rank new _ _ is
makes (code.Call extreme) s new is = has_rank new _ _ is
makes code.Choice s new is = has_rank new _ _ is
makes (code.Compare comparison) s new is = has_test new _ _ is
makes (code.Join joiner) s new is = has_test new _ _ is
makes code.Negate s new is = has_test new _ _ is

-- ---- a code behind those that were there

module _ (codes grown : List Code) (c : Code) (laid : codes ≡ layouts (builds codes [])) (is : grown ≡ codes ++ c ∷ []) (kinds : Finds c (builds codes [])) where
  -- it is built on what was there
  pushed : builds grown [] ≡ builds (c ∷ []) (builds codes [])
  pushed = ap (λ l. builds l []) (is ∙ ap (λ l. l ++ c ∷ []) laid) ∙ builds_all (builds codes []) (c ∷ [])

  put : builds grown [] ≡ made_by c (builds codes []) ∷ under_by c (builds codes [])
  put = pushed ∙ (puts c (builds codes []) kinds).is

  pub still_laid : grown ≡ layouts (builds grown [])
  still_laid = is ∙ ap (λ l. l ++ c ∷ []) laid ∙ sym (puts c (builds codes []) kinds).fits ∙ ap layouts (sym pushed)

  pub put_kind : Makes c (builds grown [])
  put_kind = makes c (builds codes []) (builds grown []) put

  pub put_top : top (builds grown []) ≡ made_by c (builds codes [])
  unfolding top
  put_top = ap top put

  pub put_under : pop (builds grown []) ≡ under_by c (builds codes [])
  unfolding pop
  put_under = ap pop put

-- an expression alone on a stack
pub alone_is : (s : List Found) → HasRank s → pop s ≡ [] → s ≡ Rank (tree_of (top s)) ∷ []
unfolding HasRank top pop
alone_is [] kind none = absurd kind
alone_is (Test q ∷ s) kind none = absurd kind
alone_is (Rank a ∷ s) kind none = ap (λ l. Rank a ∷ l) none

-- the one expression that was made is that of its codes
pub made_is : (tokens : List Token) (codes : List Code) (a : Tree) → codes ≡ layouts (builds codes []) → builds codes [] ≡ Rank a ∷ [] → whole tokens ≡ Ok a → IsMadeOf tokens codes
made_is tokens codes a laid is read =
    let built : a ≡ built_of codes = sym (ap alone is) in
    record { read = read ∙ ap Ok built; laid = laid ∙ ap layouts is ∙ ap layout built }
