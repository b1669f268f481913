-- What the grammar derives is read.
use Rattle.std.proofs.Common.{◌≡◌, ℕ, zero, suc, true, false, not, cond, List, [], ◌∷◌, ◌++◌, Option, Some, None, Result, Ok, Err, refl, sym, ap, ◌∙◌, append_assoc}
use Rattle.std.proofs.lemmas.List.{append-nil}
use Rattle.pc_rank.specs.Expressions.{Tree, Condition, Found, Rank, Test}
use Rattle.pc_rank.specs.Expressions as tree
use Rattle.pc_rank.specs.Grammar.{IsExpression, IsSum, IsChain, IsTerm, IsTest, IsJoined, plain, choice, single, chain, two, last, more, number, given, no_rank, group, call, compare, join, negate, last_test, more_tests}
use Rattle.pc_rank.specs.Inner.Reading.{◌>>=◌, Readers, halt, operator_of, next_operator, joiner_of, next_joiner, comparison_of, next_comparison, behind, meets, mixes, as_rank, rank_in, as_test, test_in, choice_in, call_in, group_in, term_in, ended, ended_of, chain_in, two_in, infix_in, after_of, after_in, sum_in, compared_of, compared_in, grouped_in, more_in, joined_of, joined_in, opened_in, either_in, expression_in, tested_in, tests_in, part_in, part_at, whole}
use Rattle.pc_rank.specs.Texts.{is_joiner, is_operator, may_chain}
use Rattle.pc_rank.specs.declared.fault.Wanted.TheVariants as wanted
use Rattle.pc_rank.specs.declared.halt.Halt.{Halt}
use Rattle.pc_rank.specs.declared.halt.Place.{Place}
use Rattle.pc_rank.specs.declared.halt.Place.TheVariants as place
use Rattle.pc_rank.specs.declared.operators.Comparison.{Comparison}
use Rattle.pc_rank.specs.declared.operators.Extreme.{Extreme}
use Rattle.pc_rank.specs.declared.operators.Joiner.{Joiner}
use Rattle.pc_rank.specs.declared.operators.Joiner.TheVariants as joiner
use Rattle.pc_rank.specs.declared.operators.Operator.{Operator}
use Rattle.pc_rank.specs.declared.operators.Operator.TheVariants as operator
use Rattle.pc_rank.specs.declared.token.Token.{Token}
use Rattle.pc_rank.specs.declared.token.Token.TheVariants as token

then_by : {A B : Type 0} (read : Result A Halt) (next : A → Result B Halt) (x : A) (y : Result B Halt) → read ≡ Ok x → next x ≡ y → (read >>= next) ≡ y
then_by read next x y e f = ap (λ r. r >>= next) e ∙ f

-- what stands behind a part ends it
pub record Ends (rest : List Token) : Type 0 where
  pub operator : next_operator rest ≡ None
  pub joiner : next_joiner rest ≡ None
  pub comparison : next_comparison rest ≡ None

abbrev Stops : Place → List Token → Type 0
Stops place.Expression rest = Ends rest
Stops place.Test rest = Ends rest
Stops place.Either rest = Ends rest
Stops (place.Chain o) rest = next_operator rest ≡ None
Stops (place.Joined j) rest = Ends rest

abbrev Claims : ℕ → Place → List Token → Found → Type 0
Claims n place.Expression s (Rank a) = IsExpression n s a
Claims n place.Expression s (Test q) = ⊥
Claims n place.Test s (Rank a) = ⊥
Claims n place.Test s (Test q) = IsTest n s q
Claims n place.Either s (Rank a) = IsExpression n s a
Claims n place.Either s (Test q) = IsTest n s q
Claims n (place.Chain o) s (Rank a) = (may_chain o ≡ true) × IsChain o n s a
Claims n (place.Chain o) s (Test q) = ⊥
Claims n (place.Joined j) s (Rank a) = ⊥
Claims n (place.Joined j) s (Test q) = IsJoined j n s q

abbrev Complete : ℕ → Readers → Type 0
Complete n L = (where_ : Place) (s : List Token) (found : Found) → Claims n where_ s found → (rest : List Token) → Stops where_ rest → L where_ (s ++ rest) ≡ Ok (found, rest)

pub itself : (o : Operator) → is_operator o o ≡ true
itself operator.Plus = refl
itself operator.Times = refl
itself operator.Minus = refl
itself operator.Over = refl
itself operator.Modulo = refl

pub same_word : (j : Joiner) → is_joiner j j ≡ true
same_word joiner.And = refl
same_word joiner.Or = refl

fits : (k : Operator) → meets (Some k) k ≡ false
fits k = ap not (itself k)

fits_word : (j : Joiner) → mixes (Some j) j ≡ false
fits_word j = ap not (same_word j)

module _ (n : ℕ) (L : Readers) (complete : Complete n L) where
  rank_complete : (where_ : Place) (s : List Token) (a : Tree) (rest : List Token) → Claims n where_ s (Rank a) → Stops where_ rest → rank_in L where_ (s ++ rest) ≡ Ok (a, rest)
  unfolding rank_in
  rank_complete where_ s a rest h stops =
      then_by (L where_ (s ++ rest)) (λ found. as_rank (s ++ rest) found.0 found.1) (Rank a, rest) _ (complete where_ s (Rank a) h rest stops) refl

  test_complete : (where_ : Place) (s : List Token) (q : Condition) (rest : List Token) → Claims n where_ s (Test q) → Stops where_ rest → test_in L where_ (s ++ rest) ≡ Ok (q, rest)
  unfolding test_in
  test_complete where_ s q rest h stops =
      then_by (L where_ (s ++ rest)) (λ found. as_test found.0 found.1) (Test q, rest) _ (complete where_ s (Test q) h rest stops) refl

  ends_before : (t : Token) (rest : List Token) → operator_of t ≡ None → joiner_of t ≡ None → comparison_of t ≡ None → Ends (t ∷ rest)
  ends_before t rest o j c = record { operator = o; joiner = j; comparison = c }

  choice_complete : (s t u : List Token) (q : Condition) (a b : Tree) (rest : List Token) → IsTest n s q → IsExpression n t a → IsExpression n u b → Ends rest → choice_in L ((s ++ token.Then ∷ (t ++ token.Else ∷ u)) ++ rest) ≡ Ok (tree.Choice q a b, rest)
  unfolding choice_in behind
  choice_complete s t u q a b rest test first second ends =
      let shape : (s ++ token.Then ∷ (t ++ token.Else ∷ u)) ++ rest ≡ s ++ token.Then ∷ (t ++ token.Else ∷ (u ++ rest)) = simp append_assoc in
      let read : choice_in L (s ++ token.Then ∷ (t ++ token.Else ∷ (u ++ rest))) ≡ Ok (tree.Choice q a b, rest) =
      then_by (test_in L place.Test (s ++ token.Then ∷ (t ++ token.Else ∷ (u ++ rest)))) _ (q, token.Then ∷ (t ++ token.Else ∷ (u ++ rest))) _ (test_complete place.Test s q _ test (ends_before token.Then _ refl refl refl))
      (then_by (rank_in L place.Expression (t ++ token.Else ∷ (u ++ rest))) _ (a, token.Else ∷ (u ++ rest)) _ (rank_complete place.Expression t a _ first (ends_before token.Else _ refl refl refl))
      (then_by (rank_in L place.Expression (u ++ rest)) _ (b, rest) _ (rank_complete place.Expression u b rest second ends) refl)) in
      ap (choice_in L) shape ∙ read

  call_complete : (x : Extreme) (s t : List Token) (a b : Tree) (rest : List Token) → IsExpression n s a → IsExpression n t b → call_in L x ((token.Open ∷ (s ++ token.Comma ∷ (t ++ token.Close ∷ []))) ++ rest) ≡ Ok (tree.Call x a b, rest)
  unfolding call_in behind
  call_complete x s t a b rest first second =
      let shape : (s ++ token.Comma ∷ (t ++ token.Close ∷ [])) ++ rest ≡ s ++ token.Comma ∷ (t ++ token.Close ∷ rest) = simp append_assoc in
      let read : call_in L x (token.Open ∷ (s ++ token.Comma ∷ (t ++ token.Close ∷ rest))) ≡ Ok (tree.Call x a b, rest) =
      then_by (rank_in L place.Expression (s ++ token.Comma ∷ (t ++ token.Close ∷ rest))) _ (a, token.Comma ∷ (t ++ token.Close ∷ rest)) _ (rank_complete place.Expression s a _ first (ends_before token.Comma _ refl refl refl))
      (then_by (rank_in L place.Expression (t ++ token.Close ∷ rest)) _ (b, token.Close ∷ rest) _ (rank_complete place.Expression t b _ second (ends_before token.Close _ refl refl refl)) refl) in
      ap (λ ts. call_in L x (token.Open ∷ ts)) shape ∙ read

  group_complete : (s : List Token) (a : Tree) (rest : List Token) → IsExpression n s a → group_in L ((s ++ token.Close ∷ []) ++ rest) ≡ Ok (a, rest)
  unfolding group_in behind
  group_complete s a rest h =
      let read : group_in L (s ++ token.Close ∷ rest) ≡ Ok (a, rest) =
      then_by (rank_in L place.Expression (s ++ token.Close ∷ rest)) _ (a, token.Close ∷ rest) _ (rank_complete place.Expression s a _ h (ends_before token.Close _ refl refl refl)) refl in
      ap (group_in L) (append_assoc s (token.Close ∷ []) rest) ∙ read

  term_complete : (s : List Token) (a : Tree) → IsTerm n s a → (rest : List Token) → term_in L (s ++ rest) ≡ Ok (a, rest)
  unfolding term_in
  term_complete _ _ number rest = refl
  term_complete _ _ given rest = refl
  term_complete _ _ no_rank rest = refl
  term_complete _ _ (group {s} {a} h) rest = group_complete s a rest h
  term_complete _ _ (call {s} {t} {x} {a} {b} h k) rest = call_complete x s t a b rest h k

  -- ---- operands

  chain_complete : (o : Operator) (a : Tree) (t : List Token) (b : Tree) (rest : List Token) → may_chain o ≡ true → IsChain o n t b → next_operator rest ≡ None → infix_in L o a (t ++ rest) ≡ Ok (tree.Infix o a b, rest)
  unfolding infix_in
  chain_complete o a t b rest may h none =
      ap (λ m. cond m (chain_in L o a (t ++ rest)) (two_in L o a (t ++ rest))) may
      ∙ then_by (rank_in L (place.Chain o) (t ++ rest)) _ (b, rest) _ (rank_complete (place.Chain o) t b rest (may, h) none) refl

  two_complete : (o : Operator) (a : Tree) (t : List Token) (b : Tree) (rest : List Token) → may_chain o ≡ false → IsTerm n t b → next_operator rest ≡ None → infix_in L o a (t ++ rest) ≡ Ok (tree.Infix o a b, rest)
  unfolding infix_in ended
  two_complete o a t b rest may h none =
      ap (λ m. cond m (chain_in L o a (t ++ rest)) (two_in L o a (t ++ rest))) may
      ∙ then_by (term_in L (t ++ rest)) _ (b, rest) _ (term_complete t b h rest)
      (then_by (ended_of rest (next_operator rest)) _ rest _ (ap (ended_of rest) none) refl)

  -- nothing behind an operand
  after_none : (chained : Option Operator) (a : Tree) (rest : List Token) → next_operator rest ≡ None → after_in L chained a rest ≡ Ok (a, rest)
  unfolding after_in
  after_none chained a rest none = ap (after_of L chained a rest) none

  after_more : (chained : Option Operator) (o : Operator) (a : Tree) (t : List Token) (c : Tree) (rest : List Token) → meets chained o ≡ false → infix_in L o a (t ++ rest) ≡ Ok (c, rest) → after_in L chained a ((token.Infix o ∷ t) ++ rest) ≡ Ok (c, rest)
  unfolding after_in
  after_more chained o a t c rest fit e =
      ap (λ m. cond m (Err (halt (token.Infix o ∷ (t ++ rest)) wanted.Parentheses)) (infix_in L o a (t ++ rest))) fit ∙ e

  -- a sum is a term and what is behind it
  record Operands (s : List Token) (c : Tree) : Type 0 where
    first : List Token
    a : Tree
    term : IsTerm n first a
    others : List Token
    is : s ≡ first ++ others
    goes_on : (rest : List Token) → next_operator rest ≡ None → after_in L None a (others ++ rest) ≡ Ok (c, rest)

  operands : (s : List Token) (c : Tree) → IsSum n s c → Operands s c
  operands _ _ (single {s} {a} h) =
      record { first = s; a = a; term = h; others = []; is = sym (append-nil s); goes_on = after_none None a }
  operands _ _ (chain {s} {t} {o} {a} {b} may h k) =
      record { first = s; a = a; term = h; others = token.Infix o ∷ t; is = refl; goes_on = λ rest none. after_more None o a t _ rest refl (chain_complete o a t b rest may k none) }
  operands _ _ (two {s} {t} {o} {a} {b} may h k) =
      record { first = s; a = a; term = h; others = token.Infix o ∷ t; is = refl; goes_on = λ rest none. after_more None o a t _ rest refl (two_complete o a t b rest may k none) }

  sum_first : (chained : Option Operator) (first : List Token) (a : Tree) (after : List Token) (c : Tree) (rest : List Token) → IsTerm n first a → after_in L chained a after ≡ Ok (c, rest) → sum_in L chained (first ++ after) ≡ Ok (c, rest)
  unfolding sum_in
  sum_first chained first a after c rest h e = then_by (term_in L (first ++ after)) _ (a, after) _ (term_complete first a h after) e

  sum_complete : (s : List Token) (c : Tree) (rest : List Token) → IsSum n s c → next_operator rest ≡ None → sum_in L None (s ++ rest) ≡ Ok (c, rest)
  sum_complete s c rest h none =
      let o = operands s c h in
      ap (λ ts. sum_in L None (ts ++ rest)) o.is ∙ ap (sum_in L None) (append_assoc o.first o.others rest)
      ∙ sum_first None o.first o.a (o.others ++ rest) c rest o.term (o.goes_on rest none)

  chained_complete : (o : Operator) (s : List Token) (c : Tree) (rest : List Token) → may_chain o ≡ true → IsChain o (suc n) s c → next_operator rest ≡ None → sum_in L (Some o) (s ++ rest) ≡ Ok (c, rest)
  chained_complete _ _ _ rest may (last {s} {o} {a} h) none = sum_first (Some o) s a rest a rest h (after_none (Some o) a rest none)
  chained_complete _ _ _ rest may (more {s} {t} {o} {a} {b} h k) none =
      ap (sum_in L (Some o)) (append_assoc s (token.Infix o ∷ t) rest)
      ∙ sum_first (Some o) s a ((token.Infix o ∷ t) ++ rest) (tree.Infix o a b) rest h (after_more (Some o) o a t _ rest (fits o) (chain_complete o a t b rest may k none))

  -- ---- what begins with a term

  either_first : (first : List Token) (a : Tree) → IsTerm n first a → (after : List Token) (c : Tree) (rest : List Token) → after_in L None a after ≡ Ok (c, rest) → either_in L (first ++ after) ≡ compared_in L c rest
  unfolding either_in opened_in behind
  either_first _ _ (number {k}) after c rest e = then_by (sum_in L None (token.Number k ∷ after)) _ (c, rest) _ (sum_first None (token.Number k ∷ []) (tree.Number k) after c rest number e) refl
  either_first _ _ (given {f}) after c rest e = then_by (sum_in L None (token.Given f ∷ after)) _ (c, rest) _ (sum_first None (token.Given f ∷ []) (tree.Given f) after c rest given e) refl
  either_first _ _ no_rank after c rest e = then_by (sum_in L None (token.NoRank ∷ after)) _ (c, rest) _ (sum_first None (token.NoRank ∷ []) tree.NoRank after c rest no_rank e) refl
  either_first _ _ (group {s} {a} h) after c rest e =
      ap (opened_in L) (append_assoc s (token.Close ∷ []) after)
      ∙ then_by (L place.Either (s ++ token.Close ∷ after)) _ (Rank a, token.Close ∷ after) _ (complete place.Either s (Rank a) h (token.Close ∷ after) (ends_before token.Close after refl refl refl))
      (then_by (after_in L None a after) _ (c, rest) _ e refl)
  either_first _ _ (call {s} {t} {x} {a} {b} h k) after c rest e =
      then_by (sum_in L None ((token.Call x ∷ token.Open ∷ (s ++ token.Comma ∷ (t ++ token.Close ∷ []))) ++ after)) _ (c, rest) _ (sum_first None (token.Call x ∷ token.Open ∷ (s ++ token.Comma ∷ (t ++ token.Close ∷ []))) (tree.Call x a b) after c rest (call h k) e) refl

  either_sum : (s : List Token) (c : Tree) (rest : List Token) → IsSum n s c → next_operator rest ≡ None → either_in L (s ++ rest) ≡ compared_in L c rest
  either_sum s c rest h none =
      let o = operands s c h in
      ap (λ ts. either_in L (ts ++ rest)) o.is ∙ ap (either_in L) (append_assoc o.first o.others rest)
      ∙ either_first o.first o.a o.term (o.others ++ rest) c rest (o.goes_on rest none)

  -- no choice begins with a term
  expression_first : (first : List Token) (a : Tree) → IsTerm n first a → (after : List Token) → expression_in L (first ++ after) ≡ sum_in L None (first ++ after)
  unfolding expression_in
  expression_first _ _ number after = refl
  expression_first _ _ given after = refl
  expression_first _ _ no_rank after = refl
  expression_first _ _ (group h) after = refl
  expression_first _ _ (call h k) after = refl

  tested_first : (first : List Token) (a : Tree) → IsTerm n first a → (after : List Token) → tested_in L (first ++ after) ≡ either_in L (first ++ after)
  unfolding tested_in
  tested_first _ _ number after = refl
  tested_first _ _ given after = refl
  tested_first _ _ no_rank after = refl
  tested_first _ _ (group h) after = refl
  tested_first _ _ (call h k) after = refl

  -- ---- parts

  expression_complete : (s : List Token) (a : Tree) (rest : List Token) → IsExpression (suc n) s a → Ends rest → expression_in L (s ++ rest) ≡ Ok (a, rest)
  unfolding expression_in
  expression_complete _ _ rest (plain {s} {a} h) ends =
      let o = operands s a h in
      let flat : s ++ rest ≡ o.first ++ (o.others ++ rest) = ap (λ ts. ts ++ rest) o.is ∙ append_assoc o.first o.others rest in
      ap (expression_in L) flat ∙ expression_first o.first o.a o.term (o.others ++ rest)
      ∙ sum_first None o.first o.a (o.others ++ rest) a rest o.term (o.goes_on rest ends.operator)
  expression_complete _ _ rest (choice {s} {t} {u} {q} {a} {b} h i j) ends = choice_complete s t u q a b rest h i j ends

  compared_none : (a : Tree) (rest : List Token) → next_comparison rest ≡ None → compared_in L a rest ≡ Ok (Rank a, rest)
  unfolding compared_in
  compared_none a rest none = ap (compared_of L a rest) none

  either_expression : (s : List Token) (a : Tree) (rest : List Token) → IsExpression (suc n) s a → Ends rest → either_in L (s ++ rest) ≡ Ok (Rank a, rest)
  unfolding either_in
  either_expression _ _ rest (plain {s} {a} h) ends = either_sum s a rest h ends.operator ∙ compared_none a rest ends.comparison
  either_expression _ _ rest (choice {s} {t} {u} {q} {a} {b} h i j) ends =
      then_by (choice_in L ((s ++ token.Then ∷ (t ++ token.Else ∷ u)) ++ rest)) _ (tree.Choice q a b, rest) _ (choice_complete s t u q a b rest h i j ends) refl

  grouped_complete : (s : List Token) (q : Condition) (after : List Token) → IsTest n s q → grouped_in L (token.Open ∷ ((s ++ token.Close ∷ []) ++ after)) ≡ Ok (q, after)
  unfolding grouped_in behind
  grouped_complete s q after h =
      let read : grouped_in L (token.Open ∷ (s ++ token.Close ∷ after)) ≡ Ok (q, after) =
      then_by (test_in L place.Test (s ++ token.Close ∷ after)) _ (q, token.Close ∷ after) _ (test_complete place.Test s q _ h (ends_before token.Close _ refl refl refl)) refl in
      ap (λ ts. grouped_in L (token.Open ∷ ts)) (append_assoc s (token.Close ∷ []) after) ∙ read

  joined_more : (chained : Option Joiner) (j : Joiner) (p : Condition) (t : List Token) (q : Condition) (rest : List Token) → mixes chained j ≡ false → IsJoined j n t q → Ends rest → joined_in L chained p (token.Join j ∷ (t ++ rest)) ≡ Ok (tree.Join j p q, rest)
  unfolding joined_in
  joined_more chained j p t q rest fit h ends =
      ap (λ m. cond m (Err (halt (token.Join j ∷ (t ++ rest)) wanted.Parentheses)) (more_in L j p (t ++ rest))) fit
      ∙ then_by (test_in L (place.Joined j) (t ++ rest)) _ (q, rest) _ (test_complete (place.Joined j) t q rest h ends) refl

  compared_more : (c : Comparison) (a : Tree) (t : List Token) (b : Tree) (rest : List Token) → IsSum n t b → next_operator rest ≡ None → compared_in L a (token.Compare c ∷ (t ++ rest)) ≡ Ok (Test (tree.Compare c a b), rest)
  unfolding compared_in
  compared_more c a t b rest h none = then_by (sum_in L None (t ++ rest)) _ (b, rest) _ (sum_complete t b rest h none) refl

  either_test : (s : List Token) (q : Condition) (rest : List Token) → IsTest (suc n) s q → Ends rest → either_in L (s ++ rest) ≡ Ok (Test q, rest)
  unfolding either_in opened_in behind
  either_test _ _ rest (compare {s} {t} {c} {a} {b} h k) ends =
      ap (either_in L) (append_assoc s (token.Compare c ∷ t) rest)
      ∙ either_sum s a (token.Compare c ∷ (t ++ rest)) h refl
      ∙ compared_more c a t b rest k ends.operator
  either_test _ _ rest (join {s} {t} {j} {p} {q} h k) ends =
      ap (opened_in L) (append_assoc s (token.Close ∷ token.Join j ∷ t) rest)
      ∙ then_by (L place.Either (s ++ token.Close ∷ token.Join j ∷ (t ++ rest))) _ (Test p, token.Close ∷ token.Join j ∷ (t ++ rest)) _ (complete place.Either s (Test p) h _ (ends_before token.Close _ refl refl refl))
      (then_by (joined_in L None p (token.Join j ∷ (t ++ rest))) _ (tree.Join j p q, rest) _ (joined_more None j p t q rest refl k ends) refl)
  either_test _ _ rest (negate {s} {p} h) ends =
      then_by (grouped_in L (token.Open ∷ ((s ++ token.Close ∷ []) ++ rest))) _ (p, rest) _ (grouped_complete s p rest h) refl

  tested_complete : (s : List Token) (q : Condition) (rest : List Token) → IsTest (suc n) s q → Ends rest → tested_in L (s ++ rest) ≡ Ok (Test q, rest)
  unfolding tested_in
  tested_complete _ _ rest (compare {s} {t} {c} {a} {b} h k) ends =
      let o = operands s a h in
      let flat : (s ++ token.Compare c ∷ t) ++ rest ≡ o.first ++ (o.others ++ token.Compare c ∷ (t ++ rest)) =
      append_assoc s (token.Compare c ∷ t) rest ∙ ap (λ ts. ts ++ token.Compare c ∷ (t ++ rest)) o.is ∙ append_assoc o.first o.others _ in
      ap (tested_in L) flat ∙ tested_first o.first o.a o.term _ ∙ ap (either_in L) (sym flat)
      ∙ either_test (s ++ token.Compare c ∷ t) (tree.Compare c a b) rest (compare h k) ends
  tested_complete _ _ rest (join {s} {t} {j} {p} {q} h k) ends = either_test _ _ rest (join h k) ends
  tested_complete _ _ rest (negate {s} {p} h) ends = either_test _ _ rest (negate h) ends

  tests_complete : (j : Joiner) (s : List Token) (q : Condition) (rest : List Token) → IsJoined j (suc n) s q → Ends rest → tests_in L j (s ++ rest) ≡ Ok (q, rest)
  unfolding tests_in joined_in
  tests_complete _ _ _ rest (last_test {s} {j} {p} h) ends =
      then_by (grouped_in L (token.Open ∷ ((s ++ token.Close ∷ []) ++ rest))) _ (p, rest) _ (grouped_complete s p rest h) (ap (joined_of L (Some j) p rest) ends.joiner)
  tests_complete _ _ _ rest (more_tests {s} {t} {j} {p} {q} h k) ends =
      let shape : (s ++ token.Close ∷ token.Join j ∷ t) ++ rest ≡ (s ++ token.Close ∷ []) ++ (token.Join j ∷ (t ++ rest)) = simp append_assoc in
      ap (λ ts. tests_in L j (token.Open ∷ ts)) shape
      ∙ then_by (grouped_in L (token.Open ∷ ((s ++ token.Close ∷ []) ++ (token.Join j ∷ (t ++ rest))))) _ (p, token.Join j ∷ (t ++ rest)) _ (grouped_complete s p _ h) (joined_more (Some j) j p t q rest (fits_word j) k ends)

  part_in_complete : Complete (suc n) (part_in L)
  part_in_complete place.Expression s (Rank a) h rest ends = then_by (expression_in L (s ++ rest)) _ (a, rest) _ (expression_complete s a rest h ends) refl
  part_in_complete place.Expression s (Test q) h rest ends = absurd h
  part_in_complete place.Test s (Rank a) h rest ends = absurd h
  part_in_complete place.Test s (Test q) h rest ends = tested_complete s q rest h ends
  part_in_complete place.Either s (Rank a) h rest ends = either_expression s a rest h ends
  part_in_complete place.Either s (Test q) h rest ends = either_test s q rest h ends
  part_in_complete (place.Chain o) s (Rank a) h rest none = then_by (sum_in L (Some o) (s ++ rest)) _ (a, rest) _ (chained_complete o s a rest h.0 h.1 none) refl
  part_in_complete (place.Chain o) s (Test q) h rest none = absurd h
  part_in_complete (place.Joined j) s (Rank a) h rest ends = absurd h
  part_in_complete (place.Joined j) s (Test q) h rest ends = then_by (tests_in L j (s ++ rest)) _ (q, rest) _ (tests_complete j s q rest h ends) refl

-- nothing lies in no levels
pub no_expression : (s : List Token) (a : Tree) → IsExpression zero s a → ⊥
no_expression s a h = elim h [ ]

pub no_test : (s : List Token) (q : Condition) → IsTest zero s q → ⊥
no_test s q h = elim h [ ]

pub no_chain : (o : Operator) (s : List Token) (a : Tree) → IsChain o zero s a → ⊥
no_chain o s a h = elim h [ ]

pub no_tests : (j : Joiner) (s : List Token) (q : Condition) → IsJoined j zero s q → ⊥
no_tests j s q h = elim h [ ]

none_claimed : (where_ : Place) (s : List Token) (found : Found) → Claims zero where_ s found → ⊥
none_claimed place.Expression s (Rank a) h = no_expression s a h
none_claimed place.Expression s (Test q) h = h
none_claimed place.Test s (Rank a) h = h
none_claimed place.Test s (Test q) h = no_test s q h
none_claimed place.Either s (Rank a) h = no_expression s a h
none_claimed place.Either s (Test q) h = no_test s q h
none_claimed (place.Chain o) s (Rank a) h = no_chain o s a h.1
none_claimed (place.Chain o) s (Test q) h = h
none_claimed (place.Joined j) s (Rank a) h = h
none_claimed (place.Joined j) s (Test q) h = no_tests j s q h

part_complete : (n : ℕ) → Complete n (part_at n)
unfolding part_at
part_complete zero where_ s found h rest stops = absurd (none_claimed where_ s found h)
part_complete (suc n) where_ s found h rest stops = part_in_complete n (part_at n) (part_complete n) where_ s found h rest stops

-- each expression is read, whatever it is
pub whole_complete : (tokens : List Token) (a : Tree) → IsExpression 16 tokens a → whole tokens ≡ Ok a
unfolding whole
whole_complete tokens a h =
    let read : rank_in (part_at 16) place.Expression (tokens ++ []) ≡ Ok (a, []) =
    rank_complete 16 (part_at 16) (part_complete 16) place.Expression tokens a [] h (record { operator = refl; joiner = refl; comparison = refl }) in
    then_by (rank_in (part_at 16) place.Expression tokens) _ (a, []) _ (ap (rank_in (part_at 16) place.Expression) (sym (append-nil tokens)) ∙ read) refl
