-- The text that an expression is written as has the tokens that it is written as.
use Rattle.std.proofs.Common.{◌≡◌, ℕ, zero, suc, ◌<◌, ◌^◌, ◌==◌, ◌||◌, Bool, true, false, not, ◌&&◌, List, [], ◌∷◌, ◌++◌, codes, refl, sym, ap, subst, append_assoc}
use Rattle.std.proofs.lemmas.List.{append-nil}
use Rattle.std.specs.List.{AllByRecursion}
use Rattle.pc_rank.specs.Expressions.{Tree, Condition}
use Rattle.pc_rank.specs.Expressions as tree
use Rattle.pc_rank.specs.Grammar.{IsExpression, IsSum, IsChain, IsTerm, IsTest, IsJoined, plain, choice, single, chain, two, last, more, number, given, no_rank, group, call, compare, join, negate, last_test, more_tests}
use Rattle.pc_rank.specs.Reading.{IsText}
use Rattle.pc_rank.specs.Texts.{comparison_sign, extreme_word, goes_on, grouped, is_choice, is_joined_on, is_loose, joiner_word, operator_sign, test_text, text_of}
use Rattle.pc_rank.specs.Tokens.{IsToken, Spells, done, space, one, begins, is_of_word, lengthens_sign}
use Rattle.pc_rank.specs.declared.operators.Comparison.{Comparison}
use Rattle.pc_rank.specs.declared.operators.Comparison.TheVariants as comparison
use Rattle.pc_rank.specs.declared.operators.Extreme.{Extreme}
use Rattle.pc_rank.specs.declared.operators.Joiner.{Joiner}
use Rattle.pc_rank.specs.declared.operators.Operator.{Operator}
use Rattle.pc_rank.specs.declared.token.Token.{Token}
use Rattle.pc_rank.specs.declared.token.Token.TheVariants as token
use Rattle.pc_rank.proofs.Canonical.{in_group, tree_tokens, test_tokens, written_is_derived}
use Rattle.pc_rank.proofs.Complete.{no_chain, no_expression, no_test, no_tests}

-- ---- small numbers

abbrev mutual
  pub Small : Tree → Type 0
  Small (tree.Number k) = k < 2 ^ 64
  Small (tree.Given f) = Unit {0}
  Small tree.NoRank = Unit {0}
  Small (tree.Infix o a b) = Small a × Small b
  Small (tree.Call x a b) = Small a × Small b
  Small (tree.Choice q a b) = SmallTest q × Small a × Small b

  pub SmallTest : Condition → Type 0
  SmallTest (tree.Compare c a b) = Small a × Small b
  SmallTest (tree.Join j p q) = SmallTest p × SmallTest q
  SmallTest (tree.Negate p) = SmallTest p

abbrev AreTokens : List Token → Type 0
AreTokens ts = AllByRecursion IsToken ts

tokens_spelled : {text : List ℕ} {ts : List Token} → Spells text ts → AreTokens ts
tokens_spelled done = tt
tokens_spelled (space s) = tokens_spelled s
tokens_spelled (one t known apart s) = (known, tokens_spelled s)

in_front : (s t : List Token) → AreTokens (s ++ t) → AreTokens s
in_front [] t h = tt
in_front (x ∷ s) t h = (h.0, in_front s t h.1)

at_back : (s t : List Token) → AreTokens (s ++ t) → AreTokens t
at_back [] t h = h
at_back (x ∷ s) t h = at_back s t h.1

module _ (n : ℕ)
    (expressions : (s : List Token) (a : Tree) → IsExpression n s a → AreTokens s → Small a)
    (chains : (o : Operator) (s : List Token) (a : Tree) → IsChain o n s a → AreTokens s → Small a)
    (tests : (s : List Token) (q : Condition) → IsTest n s q → AreTokens s → SmallTest q)
    (joins : (j : Joiner) (s : List Token) (q : Condition) → IsJoined j n s q → AreTokens s → SmallTest q) where
  term_small : (s : List Token) (a : Tree) → IsTerm n s a → AreTokens s → Small a
  term_small _ _ number h = h.0
  term_small _ _ given h = tt
  term_small _ _ no_rank h = tt
  term_small _ _ (group {s} {a} d) h = expressions s a d (in_front s _ h.1)
  term_small _ _ (call {s} {t} {x} {a} {b} d e) h =
      (expressions s a d (in_front s _ h.1.1), expressions t b e (in_front t _ (at_back s _ h.1.1).1))

  sum_small : (s : List Token) (a : Tree) → IsSum n s a → AreTokens s → Small a
  sum_small _ _ (single {s} {a} d) h = term_small s a d h
  sum_small _ _ (chain {s} {t} {o} {a} {b} may d e) h = (term_small s a d (in_front s _ h), chains o t b e (at_back s _ h).1)
  sum_small _ _ (two {s} {t} {o} {a} {b} may d e) h = (term_small s a d (in_front s _ h), term_small t b e (at_back s _ h).1)

  expression_small : (s : List Token) (a : Tree) → IsExpression (suc n) s a → AreTokens s → Small a
  expression_small _ _ (plain {s = s} {a = a} d) h = sum_small s a d h
  expression_small _ _ (choice {s} {t} {u} {q} {a} {b} d e f) h =
      let later = (at_back s _ h.1).1 in
      (tests s q d (in_front s _ h.1), expressions t a e (in_front t _ later), expressions u b f (at_back t _ later).1)

  chain_small : (o : Operator) (s : List Token) (a : Tree) → IsChain o (suc n) s a → AreTokens s → Small a
  chain_small _ _ _ (last {s = s} {a = a} d) h = term_small s a d h
  chain_small _ _ _ (more {s} {t} {o} {a} {b} d e) h = (term_small s a d (in_front s _ h), chains o t b e (at_back s _ h).1)

  test_small : (s : List Token) (q : Condition) → IsTest (suc n) s q → AreTokens s → SmallTest q
  test_small _ _ (compare {s} {t} {c} {a} {b} d e) h = (sum_small s a d (in_front s _ h), sum_small t b e (at_back s _ h).1)
  test_small _ _ (join {s} {t} {j} {p} {q} d e) h = (tests s p d (in_front s _ h.1), joins j t q e (at_back s _ h.1).1.1)
  test_small _ _ (negate {s} {p} d) h = tests s p d (in_front s _ h.1.1)

  joined_small : (j : Joiner) (s : List Token) (q : Condition) → IsJoined j (suc n) s q → AreTokens s → SmallTest q
  joined_small _ _ _ (last_test {s} {j} {p} d) h = tests s p d (in_front s _ h.1)
  joined_small _ _ _ (more_tests {s} {t} {j} {p} {q} d e) h = (tests s p d (in_front s _ h.1), joins j t q e (at_back s _ h.1).1.1)

record All_small (n : ℕ) : Type 0 where
  expressions : (s : List Token) (a : Tree) → IsExpression n s a → AreTokens s → Small a
  chains : (o : Operator) (s : List Token) (a : Tree) → IsChain o n s a → AreTokens s → Small a
  tests : (s : List Token) (q : Condition) → IsTest n s q → AreTokens s → SmallTest q
  joins : (j : Joiner) (s : List Token) (q : Condition) → IsJoined j n s q → AreTokens s → SmallTest q

all_small : (n : ℕ) → All_small n
all_small zero = record {
  expressions = λ s a d h. absurd (no_expression s a d);
  chains = λ o s a d h. absurd (no_chain o s a d);
  tests = λ s q d h. absurd (no_test s q d);
  joins = λ j s q d h. absurd (no_tests j s q d);
}
all_small (suc n) =
    let below = all_small n in
    record {
      expressions = expression_small n below.expressions below.chains below.tests below.joins;
      chains = chain_small n below.expressions below.chains below.tests below.joins;
      tests = test_small n below.expressions below.chains below.tests below.joins;
      joins = joined_small n below.expressions below.chains below.tests below.joins;
    }

-- ---- texts

-- no letter, no digit and no `=` stands in front
abbrev IsApart : List ℕ → Type 0
IsApart rest = begins (λ b. is_of_word b || b == 61) rest ≡ false

first_false : (a b : Bool) → (a || b) ≡ false → a ≡ false
first_false true b e = cc
first_false false b e = refl

apart_word : (rest : List ℕ) → IsApart rest → begins is_of_word rest ≡ false
apart_word [] h = refl
apart_word (b ∷ bs) h = first_false (is_of_word b) (b == 61) h

never : (rest : List ℕ) → begins (λ b. false) rest ≡ false
never [] = refl
never (b ∷ bs) = refl

sign_apart : (c : Comparison) → lengthens_sign c 32 ≡ false
sign_apart comparison.Below = refl
sign_apart comparison.AtMost = refl
sign_apart comparison.Same = refl
sign_apart comparison.Other = refl
sign_apart comparison.AtLeast = refl
sign_apart comparison.Above = refl

-- a text has these tokens, whatever stands apart behind it
abbrev Writes : List ℕ → List Token → Type 0
Writes text ts = (rest : List ℕ) (us : List Token) → IsApart rest → Spells rest us → Spells (text ++ rest) (ts ++ us)

-- the same of equal texts and tokens
same_spelling : (text other : List ℕ) (ts us : List Token) → text ≡ other → ts ≡ us → Spells other us → Spells text ts
same_spelling text other ts us e f s = subst (λ w. Spells w ts) (sym e) (subst (Spells other) (sym f) s)

group_writes : (text : List ℕ) (ts : List Token) (b : Bool) → Writes text ts → Writes (grouped b text) (in_group b ts)
group_writes text ts false w = w
group_writes text ts true w = λ rest us apart s.
    same_spelling _ (40 ∷ (text ++ 41 ∷ rest)) _ (token.Open ∷ (ts ++ token.Close ∷ us)) (flat rest) (ap (λ others. token.Open ∷ others) (append_assoc ts (token.Close ∷ []) us))
    (one token.Open tt (never (text ++ 41 ∷ rest)) (w (41 ∷ rest) (token.Close ∷ us) refl (one token.Close tt (never rest) s)))
  where
    flat : (rest : List ℕ) → ((40 ∷ []) ++ text ++ (41 ∷ [])) ++ rest ≡ 40 ∷ (text ++ 41 ∷ rest)
    flat rest = simp append_assoc

infix_writes : (o : Operator) (text other : List ℕ) (ts us : List Token) → Writes text ts → Writes other us → Writes (text ++ codes " " ++ operator_sign o ++ codes " " ++ other) (ts ++ token.Infix o ∷ us)
infix_writes o text other ts us w v rest others apart s =
    same_spelling _ (text ++ 32 ∷ (operator_sign o ++ 32 ∷ (other ++ rest))) _ (ts ++ token.Infix o ∷ (us ++ others)) flat (append_assoc ts (token.Infix o ∷ us) others)
    (w (32 ∷ (operator_sign o ++ 32 ∷ (other ++ rest))) (token.Infix o ∷ (us ++ others)) refl (space (one (token.Infix o) tt refl (space (v rest others apart s)))))
  where
    flat : (text ++ (32 ∷ []) ++ operator_sign o ++ (32 ∷ []) ++ other) ++ rest ≡ text ++ 32 ∷ (operator_sign o ++ 32 ∷ (other ++ rest))
    flat = simp append_assoc

compare_writes : (c : Comparison) (text other : List ℕ) (ts us : List Token) → Writes text ts → Writes other us → Writes (text ++ codes " " ++ comparison_sign c ++ codes " " ++ other) (ts ++ token.Compare c ∷ us)
compare_writes c text other ts us w v rest others apart s =
    same_spelling _ (text ++ 32 ∷ (comparison_sign c ++ 32 ∷ (other ++ rest))) _ (ts ++ token.Compare c ∷ (us ++ others)) flat (append_assoc ts (token.Compare c ∷ us) others)
    (w (32 ∷ (comparison_sign c ++ 32 ∷ (other ++ rest))) (token.Compare c ∷ (us ++ others)) refl (space (one (token.Compare c) tt (sign_apart c) (space (v rest others apart s)))))
  where
    flat : (text ++ (32 ∷ []) ++ comparison_sign c ++ (32 ∷ []) ++ other) ++ rest ≡ text ++ 32 ∷ (comparison_sign c ++ 32 ∷ (other ++ rest))
    flat = simp append_assoc

join_writes : (j : Joiner) (text other : List ℕ) (ts us : List Token) → Writes text ts → Writes other us → Writes (text ++ codes " " ++ joiner_word j ++ codes " " ++ other) (ts ++ token.Join j ∷ us)
join_writes j text other ts us w v rest others apart s =
    same_spelling _ (text ++ 32 ∷ (joiner_word j ++ 32 ∷ (other ++ rest))) _ (ts ++ token.Join j ∷ (us ++ others)) flat (append_assoc ts (token.Join j ∷ us) others)
    (w (32 ∷ (joiner_word j ++ 32 ∷ (other ++ rest))) (token.Join j ∷ (us ++ others)) refl (space (one (token.Join j) tt refl (space (v rest others apart s)))))
  where
    flat : (text ++ (32 ∷ []) ++ joiner_word j ++ (32 ∷ []) ++ other) ++ rest ≡ text ++ 32 ∷ (joiner_word j ++ 32 ∷ (other ++ rest))
    flat = simp append_assoc

call_writes : (x : Extreme) (text other : List ℕ) (ts us : List Token) → Writes text ts → Writes other us → Writes (extreme_word x ++ codes "(" ++ text ++ codes ", " ++ other ++ codes ")") (token.Call x ∷ token.Open ∷ (ts ++ token.Comma ∷ (us ++ token.Close ∷ [])))
call_writes x text other ts us w v rest others apart s =
    same_spelling _ (extreme_word x ++ 40 ∷ (text ++ 44 ∷ 32 ∷ (other ++ 41 ∷ rest))) _ (token.Call x ∷ token.Open ∷ (ts ++ token.Comma ∷ (us ++ token.Close ∷ others))) flat (ap (λ all. token.Call x ∷ token.Open ∷ all) tokens_flat)
    (one (token.Call x) tt refl (one token.Open tt (never _) (w (44 ∷ 32 ∷ (other ++ 41 ∷ rest)) (token.Comma ∷ (us ++ token.Close ∷ others)) refl
    (one token.Comma tt refl (space (v (41 ∷ rest) (token.Close ∷ others) refl (one token.Close tt (never rest) s)))))))
  where
    flat : (extreme_word x ++ (40 ∷ []) ++ text ++ (44 ∷ 32 ∷ []) ++ other ++ (41 ∷ [])) ++ rest ≡ extreme_word x ++ 40 ∷ (text ++ 44 ∷ 32 ∷ (other ++ 41 ∷ rest))
    flat = simp append_assoc

    tokens_flat : (ts ++ token.Comma ∷ (us ++ token.Close ∷ [])) ++ others ≡ ts ++ token.Comma ∷ (us ++ token.Close ∷ others)
    tokens_flat = simp append_assoc

choice_writes : (test text other : List ℕ) (qs ts us : List Token) → Writes test qs → Writes text ts → Writes other us → Writes (codes "if " ++ test ++ codes " then " ++ text ++ codes " else " ++ other) (token.If ∷ (qs ++ token.Then ∷ (ts ++ token.Else ∷ us)))
choice_writes test text other qs ts us q w v rest others apart s =
    same_spelling _ (105 ∷ 102 ∷ 32 ∷ (test ++ 32 ∷ (codes "then" ++ 32 ∷ (text ++ 32 ∷ (codes "else" ++ 32 ∷ (other ++ rest)))))) _ (token.If ∷ (qs ++ token.Then ∷ (ts ++ token.Else ∷ (us ++ others)))) flat (ap (λ all. token.If ∷ all) tokens_flat)
    (one token.If tt refl (space (q (32 ∷ (codes "then" ++ 32 ∷ (text ++ 32 ∷ (codes "else" ++ 32 ∷ (other ++ rest))))) (token.Then ∷ (ts ++ token.Else ∷ (us ++ others))) refl
    (space (one token.Then tt refl (space (w (32 ∷ (codes "else" ++ 32 ∷ (other ++ rest))) (token.Else ∷ (us ++ others)) refl
    (space (one token.Else tt refl (space (v rest others apart s)))))))))))
  where
    flat : (codes "if " ++ test ++ codes " then " ++ text ++ codes " else " ++ other) ++ rest ≡ 105 ∷ 102 ∷ 32 ∷ (test ++ 32 ∷ (codes "then" ++ 32 ∷ (text ++ 32 ∷ (codes "else" ++ 32 ∷ (other ++ rest)))))
    flat = simp append_assoc

    tokens_flat : (qs ++ token.Then ∷ (ts ++ token.Else ∷ us)) ++ others ≡ qs ++ token.Then ∷ (ts ++ token.Else ∷ (us ++ others))
    tokens_flat = simp append_assoc

negate_writes : (text : List ℕ) (ts : List Token) → Writes text ts → Writes (codes "not " ++ text) (token.Not ∷ ts)
negate_writes text ts w rest others apart s = one token.Not tt refl (space (w rest others apart s))

regrouped : (p q : Condition) (j : Joiner) (us : List Token) → (in_group true (test_tokens p) ++ token.Join j ∷ in_group (not (is_joined_on j q)) (test_tokens q)) ++ us ≡ test_tokens (tree.Join j p q) ++ us
regrouped p q j us = ap (λ ts. token.Open ∷ ts ++ us) (append_assoc (test_tokens p) (token.Close ∷ []) (token.Join j ∷ in_group (not (is_joined_on j q)) (test_tokens q)))

mutual
  tree_writes : (a : Tree) → Small a → Writes (text_of a) (tree_tokens a)
  tree_writes (tree.Number k) small rest us apart s = one (token.Number k) small (apart_word rest apart) s
  tree_writes (tree.Given f) small rest us apart s = one (token.Given f) tt (apart_word rest apart) s
  tree_writes tree.NoRank small rest us apart s = one token.NoRank tt (apart_word rest apart) s
  tree_writes (tree.Infix o a b) small rest us apart s =
      infix_writes o _ _ _ _ (group_writes _ _ (is_loose a) (tree_writes a small.0)) (group_writes _ _ (is_loose b && not (goes_on o b)) (tree_writes b small.1)) rest us apart s
  tree_writes (tree.Call x a b) small rest us apart s = call_writes x _ _ _ _ (tree_writes a small.0) (tree_writes b small.1) rest us apart s
  tree_writes (tree.Choice q a b) small rest us apart s = choice_writes _ _ _ _ _ _ (test_writes q small.0) (tree_writes a small.1) (tree_writes b small.2) rest us apart s

  test_writes : (q : Condition) → SmallTest q → Writes (test_text q) (test_tokens q)
  test_writes (tree.Compare c a b) small rest us apart s =
      compare_writes c _ _ _ _ (group_writes _ _ (is_choice a) (tree_writes a small.0)) (group_writes _ _ (is_choice b) (tree_writes b small.1)) rest us apart s
  test_writes (tree.Join j p q) small rest us apart s =
      subst (Spells (test_text (tree.Join j p q) ++ rest)) (regrouped p q j us)
      (join_writes j (grouped true (test_text p)) _ (in_group true (test_tokens p)) _ (group_writes (test_text p) (test_tokens p) true (test_writes p small.0)) (group_writes _ _ (not (is_joined_on j q)) (test_writes q small.1)) rest us apart s)
  test_writes (tree.Negate p) small rest us apart s = negate_writes (grouped true (test_text p)) (in_group true (test_tokens p)) (group_writes (test_text p) (test_tokens p) true (test_writes p small)) rest us apart s

pub text_is_small : (text : List ℕ) (a : Tree) → IsText text a → Small a
text_is_small text a h = (all_small 16).expressions h.tokens a h.derived (tokens_spelled h.spelled)

pub small_is_read : (a : Tree) → Small a → IsExpression 16 (tree_tokens a) a → IsText (text_of a) a
small_is_read a small derived =
    record {
      tokens = tree_tokens a;
      spelled = subst (λ w. Spells w (tree_tokens a)) (append-nil (text_of a)) (subst (Spells (text_of a ++ [])) (append-nil (tree_tokens a)) (tree_writes a small [] [] refl done));
      derived = derived;
    }

pub text_is_read : (text : List ℕ) (a : Tree) → IsText text a → IsText (text_of a) a
text_is_read text a h = small_is_read a (text_is_small text a h) (written_is_derived 16 h.tokens a h.derived)
