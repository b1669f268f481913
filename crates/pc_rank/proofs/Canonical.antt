-- An expression that some text has, has the text that it is written as.
use Rattle.std.proofs.Common.{◌≡◌, ℕ, zero, suc, Bool, true, false, not, ◌&&◌, List, [], ◌∷◌, ◌++◌, refl, sym, ap, subst, ◌∙◌}
use Rattle.pc_rank.specs.Expressions.{Tree, Condition}
use Rattle.pc_rank.specs.Expressions as tree
use Rattle.pc_rank.specs.Grammar.{IsExpression, IsSum, IsChain, IsTerm, IsTest, IsJoined, plain, choice, single, chain, two, last, more, number, given, no_rank, group, call, compare, join, negate, last_test, more_tests}
use Rattle.pc_rank.specs.Texts.{goes_on, is_choice, is_joined_on, is_loose, is_operator, may_chain}
use Rattle.pc_rank.specs.declared.operators.Joiner.{Joiner}
use Rattle.pc_rank.specs.declared.operators.Operator.{Operator}
use Rattle.pc_rank.specs.declared.token.Token.{Token}
use Rattle.pc_rank.specs.declared.token.Token.TheVariants as token
use Rattle.pc_rank.proofs.Complete.{itself, no_chain, no_expression, no_test, no_tests, same_word}
use Rattle.pc_rank.proofs.Sound.{same_joiner, same_operator}

-- ---- more levels

module _ (n : ℕ)
    (expressions : (s : List Token) (a : Tree) → IsExpression n s a → IsExpression (suc n) s a)
    (chains : (o : Operator) (s : List Token) (a : Tree) → IsChain o n s a → IsChain o (suc n) s a)
    (tests : (s : List Token) (q : Condition) → IsTest n s q → IsTest (suc n) s q)
    (joins : (j : Joiner) (s : List Token) (q : Condition) → IsJoined j n s q → IsJoined j (suc n) s q) where
  term_more : (s : List Token) (a : Tree) → IsTerm n s a → IsTerm (suc n) s a
  term_more _ _ number = number
  term_more _ _ given = given
  term_more _ _ no_rank = no_rank
  term_more _ _ (group h) = group (expressions _ _ h)
  term_more _ _ (call h k) = call (expressions _ _ h) (expressions _ _ k)

  sum_more : (s : List Token) (a : Tree) → IsSum n s a → IsSum (suc n) s a
  sum_more _ _ (single h) = single (term_more _ _ h)
  sum_more _ _ (chain may h k) = chain may (term_more _ _ h) (chains _ _ _ k)
  sum_more _ _ (two may h k) = two may (term_more _ _ h) (term_more _ _ k)

  expression_more : (s : List Token) (a : Tree) → IsExpression (suc n) s a → IsExpression (suc (suc n)) s a
  expression_more _ _ (plain h) = plain (sum_more _ _ h)
  expression_more _ _ (choice h i j) = choice (tests _ _ h) (expressions _ _ i) (expressions _ _ j)

  chain_more : (o : Operator) (s : List Token) (a : Tree) → IsChain o (suc n) s a → IsChain o (suc (suc n)) s a
  chain_more _ _ _ (last h) = last (term_more _ _ h)
  chain_more _ _ _ (more h k) = more (term_more _ _ h) (chains _ _ _ k)

  test_more : (s : List Token) (q : Condition) → IsTest (suc n) s q → IsTest (suc (suc n)) s q
  test_more _ _ (compare h k) = compare (sum_more _ _ h) (sum_more _ _ k)
  test_more _ _ (join h k) = join (tests _ _ h) (joins _ _ _ k)
  test_more _ _ (negate h) = negate (tests _ _ h)

  joined_more : (j : Joiner) (s : List Token) (q : Condition) → IsJoined j (suc n) s q → IsJoined j (suc (suc n)) s q
  joined_more _ _ _ (last_test h) = last_test (tests _ _ h)
  joined_more _ _ _ (more_tests h k) = more_tests (tests _ _ h) (joins _ _ _ k)

record Rises (n : ℕ) : Type 0 where
  expressions : (s : List Token) (a : Tree) → IsExpression n s a → IsExpression (suc n) s a
  chains : (o : Operator) (s : List Token) (a : Tree) → IsChain o n s a → IsChain o (suc n) s a
  tests : (s : List Token) (q : Condition) → IsTest n s q → IsTest (suc n) s q
  joins : (j : Joiner) (s : List Token) (q : Condition) → IsJoined j n s q → IsJoined j (suc n) s q

rises : (n : ℕ) → Rises n
rises zero = record {
  expressions = λ s a h. absurd (no_expression s a h);
  chains = λ o s a h. absurd (no_chain o s a h);
  tests = λ s q h. absurd (no_test s q h);
  joins = λ j s q h. absurd (no_tests j s q h);
}
rises (suc n) =
    let below = rises n in
    record {
      expressions = expression_more n below.expressions below.chains below.tests below.joins;
      chains = chain_more n below.expressions below.chains below.tests below.joins;
      tests = test_more n below.expressions below.chains below.tests below.joins;
      joins = joined_more n below.expressions below.chains below.tests below.joins;
    }

rise_term : (n : ℕ) (s : List Token) (a : Tree) → IsTerm n s a → IsTerm (suc n) s a
rise_term n = let r = rises n in term_more n r.expressions r.chains r.tests r.joins

rise_sum : (n : ℕ) (s : List Token) (a : Tree) → IsSum n s a → IsSum (suc n) s a
rise_sum n = let r = rises n in sum_more n r.expressions r.chains r.tests r.joins

-- ---- the tokens that an expression is written as

abbrev pub in_group : Bool → List Token → List Token
in_group true s = token.Open ∷ (s ++ token.Close ∷ [])
in_group false s = s

abbrev mutual
  pub tree_tokens : Tree → List Token
  tree_tokens (tree.Number k) = token.Number k ∷ []
  tree_tokens (tree.Given f) = token.Given f ∷ []
  tree_tokens tree.NoRank = token.NoRank ∷ []
  tree_tokens (tree.Infix o a b) =
      in_group (is_loose a) (tree_tokens a) ++ token.Infix o ∷ in_group (is_loose b && not (goes_on o b)) (tree_tokens b)
  tree_tokens (tree.Call x a b) = token.Call x ∷ token.Open ∷ (tree_tokens a ++ token.Comma ∷ (tree_tokens b ++ token.Close ∷ []))
  tree_tokens (tree.Choice q a b) = token.If ∷ (test_tokens q ++ token.Then ∷ (tree_tokens a ++ token.Else ∷ tree_tokens b))

  pub test_tokens : Condition → List Token
  test_tokens (tree.Compare c a b) = in_group (is_choice a) (tree_tokens a) ++ token.Compare c ∷ in_group (is_choice b) (tree_tokens b)
  test_tokens (tree.Join j p q) = token.Open ∷ (test_tokens p ++ token.Close ∷ token.Join j ∷ in_group (not (is_joined_on j q)) (test_tokens q))
  test_tokens (tree.Negate p) = token.Not ∷ token.Open ∷ (test_tokens p ++ token.Close ∷ [])

abbrev behind_operator : Operator → Tree → List Token
behind_operator o b = in_group (is_loose b && not (goes_on o b)) (tree_tokens b)

-- what is true of each part at so many levels
record Written (n : ℕ) : Type 0 where
  expression : (s : List Token) (a : Tree) → IsExpression n s a → IsExpression n (tree_tokens a) a
  term : (s : List Token) (a : Tree) → IsExpression n s a → is_loose a ≡ false → IsTerm n (tree_tokens a) a
  sum : (s : List Token) (a : Tree) → IsExpression n s a → is_choice a ≡ false → IsSum n (tree_tokens a) a
  link : (o : Operator) (s : List Token) (a : Tree) → IsExpression n s a → goes_on o a ≡ true → IsChain o n (tree_tokens a) a
  chain_ : (o : Operator) (s : List Token) (a : Tree) → may_chain o ≡ true → IsChain o n s a → IsChain o n (behind_operator o a) a
  test : (s : List Token) (q : Condition) → IsTest n s q → IsTest n (test_tokens q) q
  joint : (j : Joiner) (s : List Token) (q : Condition) → IsTest n s q → is_joined_on j q ≡ true → IsJoined j n (test_tokens q) q
  joined : (j : Joiner) (s : List Token) (q : Condition) → IsJoined j n s q → IsJoined j n (in_group (not (is_joined_on j q)) (test_tokens q)) q

and_false : (b : Bool) → (b && false) ≡ false
and_false true = refl
and_false false = refl

and_true : (b : Bool) → (b && true) ≡ b
and_true true = refl
and_true false = refl

-- an operator that makes no chain goes on none
no_chain_goes_on : (o : Operator) (b : Tree) → may_chain o ≡ false → goes_on o b ≡ false
no_chain_goes_on o (tree.Number k) e = refl
no_chain_goes_on o (tree.Given f) e = refl
no_chain_goes_on o tree.NoRank e = refl
no_chain_goes_on o (tree.Infix p a b) e = ap (λ m. m && is_operator o p) e
no_chain_goes_on o (tree.Call x a b) e = refl
no_chain_goes_on o (tree.Choice q a b) e = refl

both_true : (a b : Bool) → (a && b) ≡ true → (a ≡ true) × (b ≡ true)
both_true true b e = (refl, e)
both_true false b e = cc

module _ (n : ℕ) (below : Written n) where
  -- a term, in its parentheses
  term_written : (s : List Token) (a : Tree) → IsTerm n s a → IsTerm n (in_group (is_loose a) (tree_tokens a)) a
  term_written _ _ number = number
  term_written _ _ given = given
  term_written _ _ no_rank = no_rank
  term_written _ _ (group {s} {a} h) = by_loose (is_loose a) refl
    where
      by_loose : (b : Bool) → is_loose a ≡ b → IsTerm n (in_group b (tree_tokens a)) a
      by_loose true e = group (below.expression s a h)
      by_loose false e = below.term s a h e
  term_written _ _ (call {s} {t} {x} {a} {b} h k) = call (below.expression s a h) (below.expression t b k)

  two_written : (o : Operator) (s t : List Token) (a b : Tree) → may_chain o ≡ false → IsTerm n s a → IsTerm n t b → IsSum n (tree_tokens (tree.Infix o a b)) (tree.Infix o a b)
  two_written o s t a b may h k =
      let grouped : (is_loose b && not (goes_on o b)) ≡ is_loose b = ap (λ g. is_loose b && not g) (no_chain_goes_on o b may) ∙ and_true (is_loose b) in
      let other : IsTerm n (behind_operator o b) b = subst (λ g. IsTerm n (in_group g (tree_tokens b)) b) (sym grouped) (term_written t b k) in
      two may (term_written s a h) other

  -- a sum, in parentheses where it is a choice
  sum_written : (s : List Token) (a : Tree) → IsSum n s a → IsSum n (in_group (is_choice a) (tree_tokens a)) a
  sum_written _ _ (single number) = single number
  sum_written _ _ (single given) = single given
  sum_written _ _ (single no_rank) = single no_rank
  sum_written _ _ (single (call {s} {t} {x} {a} {b} h k)) = single (call (below.expression s a h) (below.expression t b k))
  sum_written _ _ (single (group {s} {a} h)) = by_choice (is_choice a) refl
    where
      by_choice : (b : Bool) → is_choice a ≡ b → IsSum n (in_group b (tree_tokens a)) a
      by_choice true e = single (group (below.expression s a h))
      by_choice false e = below.sum s a h e
  sum_written _ _ (chain {s} {t} {o} {a} {b} may h k) = chain may (term_written s a h) (below.chain_ o t b may k)
  sum_written _ _ (two {s} {t} {o} {a} {b} may h k) = two_written o s t a b may h k

  expression_written : (s : List Token) (a : Tree) → IsExpression (suc n) s a → IsExpression (suc n) (tree_tokens a) a
  expression_written _ _ (choice {s} {t} {u} {q} {a} {b} h i j) = choice (below.test s q h) (below.expression t a i) (below.expression u b j)
  expression_written _ _ (plain (single number)) = plain (single number)
  expression_written _ _ (plain (single given)) = plain (single given)
  expression_written _ _ (plain (single no_rank)) = plain (single no_rank)
  expression_written _ _ (plain (single (call {s} {t} {x} {a} {b} h k))) = plain (single (call (below.expression s a h) (below.expression t b k)))
  expression_written _ _ (plain (single (group {s} {a} h))) = (rises n).expressions (tree_tokens a) a (below.expression s a h)
  expression_written _ _ (plain (chain {s} {t} {o} {a} {b} may h k)) = plain (chain may (term_written s a h) (below.chain_ o t b may k))
  expression_written _ _ (plain (two {s} {t} {o} {a} {b} may h k)) = plain (two_written o s t a b may h k)

  loose_written : (s : List Token) (a : Tree) → IsExpression (suc n) s a → is_loose a ≡ false → IsTerm (suc n) (tree_tokens a) a
  loose_written _ _ (plain (single {s} {a} h)) e =
      rise_term n (tree_tokens a) a (subst (λ b. IsTerm n (in_group b (tree_tokens a)) a) e (term_written s a h))
  loose_written _ _ (plain (chain may h k)) e = cc
  loose_written _ _ (plain (two may h k)) e = cc
  loose_written _ _ (choice h i j) e = cc

  choice_written : (s : List Token) (a : Tree) → IsExpression (suc n) s a → is_choice a ≡ false → IsSum (suc n) (tree_tokens a) a
  choice_written _ _ (plain {s = s} {a = a} h) e =
      rise_sum n (tree_tokens a) a (subst (λ b. IsSum n (in_group b (tree_tokens a)) a) e (sum_written s a h))
  choice_written _ _ (choice h i j) e = cc

  link_written : (o : Operator) (s : List Token) (a : Tree) → IsExpression (suc n) s a → goes_on o a ≡ true → IsChain o (suc n) (tree_tokens a) a
  link_written o _ _ (plain (single number)) e = cc
  link_written o _ _ (plain (single given)) e = cc
  link_written o _ _ (plain (single no_rank)) e = cc
  link_written o _ _ (plain (single (call h k))) e = cc
  link_written o _ _ (plain (single (group {s} {a} h))) e = (rises n).chains o (tree_tokens a) a (below.link o s a h e)
  link_written o _ _ (plain (chain {s} {t} {o = p} {a} {b} may h k)) e =
      let same = same_operator o p (both_true (may_chain o) (is_operator o p) e).1 in
      subst (λ r. IsChain r (suc n) (tree_tokens (tree.Infix p a b)) (tree.Infix p a b)) (sym same) (more (term_written s a h) (below.chain_ p t b may k))
  link_written o _ _ (plain (two {s} {t} {o = p} {a} {b} may h k)) e =
      let both = both_true (may_chain o) (is_operator o p) e in
      let no : true ≡ false = sym both.0 ∙ ap may_chain (same_operator o p both.1) ∙ may in cc
  link_written o _ _ (choice h i j) e = cc

  chain_written : (o : Operator) (s : List Token) (a : Tree) → may_chain o ≡ true → IsChain o (suc n) s a → IsChain o (suc n) (behind_operator o a) a
  chain_written _ _ _ may (last number) = last number
  chain_written _ _ _ may (last given) = last given
  chain_written _ _ _ may (last no_rank) = last no_rank
  chain_written _ _ _ may (last (call {s} {t} {x} {a} {b} h k)) = last (call (below.expression s a h) (below.expression t b k))
  chain_written o _ _ may (last (group {s} {a} h)) = by_goes (goes_on o a) refl
    where
      by_goes : (b : Bool) → goes_on o a ≡ b → IsChain o (suc n) (in_group (is_loose a && not b) (tree_tokens a)) a
      by_goes true e = subst (λ g. IsChain o (suc n) (in_group g (tree_tokens a)) a) (sym (and_false (is_loose a))) ((rises n).chains o (tree_tokens a) a (below.link o s a h e))
      by_goes false e = subst (λ g. IsChain o (suc n) (in_group g (tree_tokens a)) a) (sym (and_true (is_loose a))) (last (term_written _ a (group h)))
  chain_written _ _ _ may (more {s} {t} {o} {a} {b} h k) =
      let goes : goes_on o (tree.Infix o a b) ≡ true = ap (λ m. m && is_operator o o) may ∙ itself o in
      subst (λ g. IsChain o (suc n) (in_group (not g) (tree_tokens (tree.Infix o a b))) (tree.Infix o a b)) (sym goes) (more (term_written s a h) (below.chain_ o t b may k))

  test_written : (s : List Token) (q : Condition) → IsTest (suc n) s q → IsTest (suc n) (test_tokens q) q
  test_written _ _ (compare {s} {t} {c} {a} {b} h k) = compare (sum_written s a h) (sum_written t b k)
  test_written _ _ (join {s} {t} {j} {p} {q} h k) = join (below.test s p h) (below.joined j t q k)
  test_written _ _ (negate {s} {p} h) = negate (below.test s p h)

  joint_written : (j : Joiner) (s : List Token) (q : Condition) → IsTest (suc n) s q → is_joined_on j q ≡ true → IsJoined j (suc n) (test_tokens q) q
  joint_written j _ _ (compare h k) e = cc
  joint_written j _ _ (join {s} {t} {j = i} {p} {q} h k) e =
      subst (λ r. IsJoined r (suc n) (test_tokens (tree.Join i p q)) (tree.Join i p q)) (sym (same_joiner j i e)) (more_tests (below.test s p h) (below.joined i t q k))
  joint_written j _ _ (negate h) e = cc

  joined_written : (j : Joiner) (s : List Token) (q : Condition) → IsJoined j (suc n) s q → IsJoined j (suc n) (in_group (not (is_joined_on j q)) (test_tokens q)) q
  joined_written _ _ _ (last_test {s} {j} {p} h) = by_joint (is_joined_on j p) refl
    where
      by_joint : (b : Bool) → is_joined_on j p ≡ b → IsJoined j (suc n) (in_group (not b) (test_tokens p)) p
      by_joint true e = (rises n).joins j (test_tokens p) p (below.joint j s p h e)
      by_joint false e = last_test (below.test s p h)
  joined_written _ _ _ (more_tests {s} {t} {j} {p} {q} h k) =
      subst (λ g. IsJoined j (suc n) (in_group (not g) (test_tokens (tree.Join j p q))) (tree.Join j p q)) (sym (same_word j)) (more_tests (below.test s p h) (below.joined j t q k))

written : (n : ℕ) → Written n
written zero = record {
  expression = λ s a h. absurd (no_expression s a h);
  term = λ s a h e. absurd (no_expression s a h);
  sum = λ s a h e. absurd (no_expression s a h);
  link = λ o s a h e. absurd (no_expression s a h);
  chain_ = λ o s a may h. absurd (no_chain o s a h);
  test = λ s q h. absurd (no_test s q h);
  joint = λ j s q h e. absurd (no_test s q h);
  joined = λ j s q h. absurd (no_tests j s q h);
}
written (suc n) =
    let below = written n in
    record {
      expression = expression_written n below;
      term = loose_written n below;
      sum = choice_written n below;
      link = link_written n below;
      chain_ = chain_written n below;
      test = test_written n below;
      joint = joint_written n below;
      joined = joined_written n below;
    }

pub written_is_derived : (n : ℕ) (s : List Token) (a : Tree) → IsExpression n s a → IsExpression n (tree_tokens a) a
written_is_derived n = (written n).expression
