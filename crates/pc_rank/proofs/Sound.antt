-- What is read is derived by the grammar.
use Rattle.std.proofs.Common.{◌≡◌, ℕ, zero, suc, Bool, true, false, not, cond, List, [], ◌∷◌, ◌++◌, drop, Option, Some, None, Result, Ok, Err, refl, sym, ap, subst, ◌∙◌, append_assoc}
use Rattle.std.proofs.lemmas.List.{append-nil}
use Rattle.pc_rank.specs.Expressions.{Tree, Condition, Found, Rank, Test}
use Rattle.pc_rank.specs.Expressions as tree
use Rattle.pc_rank.specs.Grammar.{IsExpression, IsSum, IsChain, IsTerm, IsTest, IsJoined, plain, choice, single, chain, two, last, more, number, given, no_rank, group, call, compare, join, negate, last_test, more_tests}
use Rattle.pc_rank.specs.Inner.Reading.{◌>>=◌, Readers, halt, lead_of, next_lead, operator_of, next_operator, joiner_of, next_joiner, comparison_of, next_comparison, is_wanted, behind, meets, mixes, as_rank, rank_in, as_test, test_in, choice_in, call_in, group_in, term_of, term_in, ended, ended_of, chain_in, two_in, infix_in, after_of, after_in, sum_in, compared_of, compared_in, grouped_in, more_in, joined_of, joined_in, opened_of, opened_in, either_of, either_in, expression_led, expression_in, tested_of, tested_in, tests_in, part_in, part_at, whole, whole_of}
use Rattle.pc_rank.specs.Texts.{is_joiner, is_operator, may_chain}
use Rattle.pc_rank.specs.declared.fault.Wanted.{Wanted}
use Rattle.pc_rank.specs.declared.fault.Wanted.TheVariants as wanted
use Rattle.pc_rank.specs.declared.halt.Halt.{Halt}
use Rattle.pc_rank.specs.declared.halt.Lead.{Lead}
use Rattle.pc_rank.specs.declared.halt.Lead.TheVariants as lead
use Rattle.pc_rank.specs.declared.halt.Place.{Place}
use Rattle.pc_rank.specs.declared.halt.Place.TheVariants as place
use Rattle.pc_rank.specs.declared.operators.Comparison.{Comparison}
use Rattle.pc_rank.specs.declared.operators.Extreme.{Extreme}
use Rattle.pc_rank.specs.declared.operators.Joiner.{Joiner}
use Rattle.pc_rank.specs.declared.operators.Joiner.TheVariants as joiner
use Rattle.pc_rank.specs.declared.operators.Operator.{Operator}
use Rattle.pc_rank.specs.declared.operators.Operator.TheVariants as operator
use Rattle.pc_rank.specs.declared.token.Token.{Token}
use Rattle.pc_rank.specs.declared.token.Token.TheVariants as token

-- ---- results

-- a step that succeeded
pub record Step {A B : Type 0} (read : Result A Halt) (next : A → Result B Halt) (y : B) : Type 0 where
  pub x : A
  pub first : read ≡ Ok x
  pub then_ : next x ≡ Ok y

bind_ok : {A B : Type 0} (read : Result A Halt) (next : A → Result B Halt) (y : B) → (read >>= next) ≡ Ok y → Step read next y
bind_ok (Ok x) next y e = record { x = x; first = refl; then_ = e }
bind_ok (Err h) next y e = cc

pub ok_same : {A : Type 0} {x y : A} → ◌≡◌ {A = Result A Halt} (Ok x) (Ok y) → x ≡ y
ok_same e = cc

-- tokens in front, of which this holds
pub record Reads (P : List Token → Type 0) (tokens rest : List Token) : Type 0 where
  pub front : List Token
  pub is : tokens ≡ front ++ rest
  pub holds : P front

-- ---- signs

abbrev pub mark : Wanted → Token
mark wanted.Then = token.Then
mark wanted.Else = token.Else
mark wanted.Open = token.Open
mark wanted.Close = token.Close
mark wanted.Comma = token.Comma
mark _ = token.Unknown

wanted_is : (w : Wanted) (t : Token) → is_wanted w t ≡ true → t ≡ mark w
wanted_is wanted.Then token.Then e = refl
wanted_is wanted.Else token.Else e = refl
wanted_is wanted.Open token.Open e = refl
wanted_is wanted.Close token.Close e = refl
wanted_is wanted.Comma token.Comma e = refl
wanted_is _ _ e = cc

behind_is : (w : Wanted) (tokens rest : List Token) → behind w tokens ≡ Ok rest → tokens ≡ mark w ∷ rest
unfolding behind
behind_is w [] rest e = cc
behind_is w (t ∷ ts) rest e = by_test (is_wanted w t) refl e
  where
    by_test : (b : Bool) → is_wanted w t ≡ b → cond b (Ok ts) (Err (halt (t ∷ ts) w)) ≡ Ok rest → t ∷ ts ≡ mark w ∷ rest
    by_test true is same = ap (λ u. u ∷ ts) (wanted_is w t is) ∙ ap (λ us. mark w ∷ us) (ok_same same)
    by_test false is same = cc

operator_is : (t : Token) (o : Operator) → operator_of t ≡ Some o → t ≡ token.Infix o
operator_is (token.Infix p) o e = cc
operator_is _ o e = cc

next_operator_is : (ts : List Token) (o : Operator) → next_operator ts ≡ Some o → ts ≡ token.Infix o ∷ drop 1 ts
next_operator_is [] o e = cc
next_operator_is (t ∷ ts) o e = ap (λ u. u ∷ ts) (operator_is t o e)

joiner_is : (t : Token) (j : Joiner) → joiner_of t ≡ Some j → t ≡ token.Join j
joiner_is (token.Join i) j e = cc
joiner_is _ j e = cc

next_joiner_is : (ts : List Token) (j : Joiner) → next_joiner ts ≡ Some j → ts ≡ token.Join j ∷ drop 1 ts
next_joiner_is [] j e = cc
next_joiner_is (t ∷ ts) j e = ap (λ u. u ∷ ts) (joiner_is t j e)

comparison_is : (t : Token) (c : Comparison) → comparison_of t ≡ Some c → t ≡ token.Compare c
comparison_is (token.Compare d) c e = cc
comparison_is _ c e = cc

next_comparison_is : (ts : List Token) (c : Comparison) → next_comparison ts ≡ Some c → ts ≡ token.Compare c ∷ drop 1 ts
next_comparison_is [] c e = cc
next_comparison_is (t ∷ ts) c e = ap (λ u. u ∷ ts) (comparison_is t c e)

-- the token with which a choice, a negation or a group begins
abbrev lead_mark : Lead → Token
lead_mark lead.Choice = token.If
lead_mark lead.Negation = token.Not
lead_mark lead.Group = token.Open
lead_mark lead.Other = token.Unknown

abbrev Leads : Lead → List Token → Type 0
Leads lead.Other ts = Unit {0}
Leads l ts = ts ≡ lead_mark l ∷ drop 1 ts

lead_token : (t : Token) (ts : List Token) → Leads (lead_of t) (t ∷ ts)
lead_token token.If ts = refl
lead_token token.Not ts = refl
lead_token token.Open ts = refl
lead_token _ ts = tt

leads : (ts : List Token) → Leads (next_lead ts) ts
leads [] = tt
leads (t ∷ ts) = lead_token t ts

pub same_operator : (o p : Operator) → is_operator o p ≡ true → o ≡ p
same_operator operator.Plus operator.Plus e = refl
same_operator operator.Times operator.Times e = refl
same_operator operator.Minus operator.Minus e = refl
same_operator operator.Over operator.Over e = refl
same_operator operator.Modulo operator.Modulo e = refl
same_operator _ _ e = cc

pub same_joiner : (j k : Joiner) → is_joiner j k ≡ true → j ≡ k
same_joiner joiner.And joiner.And e = refl
same_joiner joiner.Or joiner.Or e = refl
same_joiner _ _ e = cc

not_false : (b : Bool) → not b ≡ false → b ≡ true
not_false true e = refl
not_false false e = cc

-- ---- what is read at a place

abbrev pub IsEither : ℕ → List Token → Found → Type 0
IsEither n s (Rank a) = IsExpression n s a
IsEither n s (Test q) = IsTest n s q

abbrev pub IsFound : ℕ → Place → List Token → Found → Type 0
IsFound n place.Expression s (Rank a) = IsExpression n s a
IsFound n place.Expression s (Test q) = ⊥
IsFound n place.Test s found = IsEither n s found
IsFound n place.Either s found = IsEither n s found
IsFound n (place.Chain o) s (Rank a) = may_chain o ≡ true → IsChain o n s a
IsFound n (place.Chain o) s (Test q) = ⊥
IsFound n (place.Joined j) s (Rank a) = ⊥
IsFound n (place.Joined j) s (Test q) = IsJoined j n s q

abbrev Sound : ℕ → Readers → Type 0
Sound n L = (where_ : Place) (tokens : List Token) (found : Found) (rest : List Token) → L where_ tokens ≡ Ok (found, rest) → Reads (λ s. IsFound n where_ s found) tokens rest

-- parts with a sign behind each
regroup : (s t u : List Token) (a b : Token) (rest all after_s behind_a after_t behind_b : List Token) → all ≡ s ++ after_s → after_s ≡ a ∷ behind_a → behind_a ≡ t ++ after_t → after_t ≡ b ∷ behind_b → behind_b ≡ u ++ rest → all ≡ (s ++ a ∷ (t ++ b ∷ u)) ++ rest
regroup s t u a b rest all after_s behind_a after_t behind_b e f g h i =
    let last_is : after_t ≡ b ∷ (u ++ rest) = h ∙ ap (λ ts. b ∷ ts) i in
    let there : after_s ≡ a ∷ (t ++ b ∷ (u ++ rest)) = f ∙ ap (λ ts. a ∷ ts) (g ∙ ap (λ ts. t ++ ts) last_is) in
    let flat : (s ++ a ∷ (t ++ b ∷ u)) ++ rest ≡ s ++ a ∷ (t ++ b ∷ (u ++ rest)) = simp append_assoc in
    e ∙ ap (λ ts. s ++ ts) there ∙ sym flat

module _ (n : ℕ) (L : Readers) (sound : Sound n L) where
  rank_sound : (where_ : Place) (tokens : List Token) (a : Tree) (rest : List Token) → rank_in L where_ tokens ≡ Ok (a, rest) → Reads (λ s. IsFound n where_ s (Rank a)) tokens rest
  unfolding rank_in
  rank_sound where_ tokens a rest e =
      let step = bind_ok (L where_ tokens) (λ found. as_rank tokens found.0 found.1) (a, rest) e in
      by_found step.x.0 step.x.1 step.first step.then_
    where
      by_found : (found : Found) (r : List Token) → L where_ tokens ≡ Ok (found, r) → as_rank tokens found r ≡ Ok (a, rest) → Reads (λ s. IsFound n where_ s (Rank a)) tokens rest
      by_found (Rank b) r is same =
          let both = ok_same same in
          sound where_ tokens (Rank a) rest (is ∙ ap (λ (p : Tree × List Token). Ok (Rank p.0, p.1)) both)
      by_found (Test q) r is same = cc

  test_sound : (where_ : Place) (tokens : List Token) (q : Condition) (rest : List Token) → test_in L where_ tokens ≡ Ok (q, rest) → Reads (λ s. IsFound n where_ s (Test q)) tokens rest
  unfolding test_in
  test_sound where_ tokens q rest e =
      let step = bind_ok (L where_ tokens) (λ found. as_test found.0 found.1) (q, rest) e in
      by_found step.x.0 step.x.1 step.first step.then_
    where
      by_found : (found : Found) (r : List Token) → L where_ tokens ≡ Ok (found, r) → as_test found r ≡ Ok (q, rest) → Reads (λ s. IsFound n where_ s (Test q)) tokens rest
      by_found (Rank b) r is same = cc
      by_found (Test p) r is same =
          let both = ok_same same in
          sound where_ tokens (Test q) rest (is ∙ ap (λ (p : Condition × List Token). Ok (Test p.0, p.1)) both)

  choice_sound : (tokens : List Token) (a : Tree) (rest : List Token) → choice_in L tokens ≡ Ok (a, rest) → Reads (λ s. IsExpression (suc n) (token.If ∷ s) a) tokens rest
  unfolding choice_in
  choice_sound tokens a rest e =
      let q = bind_ok (test_in L place.Test tokens) _ (a, rest) e in
      let t = bind_ok (behind wanted.Then q.x.1) _ (a, rest) q.then_ in
      let x = bind_ok (rank_in L place.Expression t.x) _ (a, rest) t.then_ in
      let m = bind_ok (behind wanted.Else x.x.1) _ (a, rest) x.then_ in
      let y = bind_ok (rank_in L place.Expression m.x) _ (a, rest) m.then_ in
      let one = test_sound place.Test tokens q.x.0 q.x.1 q.first in
      let other = rank_sound place.Expression t.x x.x.0 x.x.1 x.first in
      let third = rank_sound place.Expression m.x y.x.0 y.x.1 y.first in
      let then_is = behind_is wanted.Then q.x.1 t.x t.first in
      let else_is = behind_is wanted.Else x.x.1 m.x m.first in
      let made : Reads (λ s. IsExpression (suc n) (token.If ∷ s) (tree.Choice q.x.0 x.x.0 y.x.0)) tokens y.x.1 =
      record {
        front = one.front ++ token.Then ∷ (other.front ++ token.Else ∷ third.front);
        is = regroup one.front other.front third.front token.Then token.Else y.x.1 tokens q.x.1 t.x x.x.1 m.x one.is then_is other.is else_is third.is;
        holds = choice one.holds other.holds third.holds;
      } in
      subst (λ (p : Tree × List Token). Reads (λ s. IsExpression (suc n) (token.If ∷ s) p.0) tokens p.1) (ok_same y.then_) made

  call_sound : (extreme : Extreme) (tokens : List Token) (a : Tree) (rest : List Token) → call_in L extreme tokens ≡ Ok (a, rest) → Reads (λ s. IsTerm n (token.Call extreme ∷ s) a) tokens rest
  unfolding call_in
  call_sound extreme tokens a rest e =
      let o = bind_ok (behind wanted.Open tokens) _ (a, rest) e in
      let x = bind_ok (rank_in L place.Expression o.x) _ (a, rest) o.then_ in
      let m = bind_ok (behind wanted.Comma x.x.1) _ (a, rest) x.then_ in
      let y = bind_ok (rank_in L place.Expression m.x) _ (a, rest) m.then_ in
      let c = bind_ok (behind wanted.Close y.x.1) _ (a, rest) y.then_ in
      let one = rank_sound place.Expression o.x x.x.0 x.x.1 x.first in
      let other = rank_sound place.Expression m.x y.x.0 y.x.1 y.first in
      let open_is = behind_is wanted.Open tokens o.x o.first in
      let comma_is = behind_is wanted.Comma x.x.1 m.x m.first in
      let close_is = behind_is wanted.Close y.x.1 c.x c.first in
      let made : Reads (λ s. IsTerm n (token.Call extreme ∷ s) (tree.Call extreme x.x.0 y.x.0)) tokens c.x =
      record {
        front = token.Open ∷ (one.front ++ token.Comma ∷ (other.front ++ token.Close ∷ []));
        is = open_is ∙ ap (λ ts. token.Open ∷ ts) (regroup one.front other.front [] token.Comma token.Close c.x o.x x.x.1 m.x y.x.1 c.x one.is comma_is other.is close_is refl);
        holds = call one.holds other.holds;
      } in
      subst (λ (p : Tree × List Token). Reads (λ s. IsTerm n (token.Call extreme ∷ s) p.0) tokens p.1) (ok_same c.then_) made

  group_sound : (tokens : List Token) (a : Tree) (rest : List Token) → group_in L tokens ≡ Ok (a, rest) → Reads (λ s. IsTerm n (token.Open ∷ s) a) tokens rest
  unfolding group_in
  group_sound tokens a rest e =
      let x = bind_ok (rank_in L place.Expression tokens) _ (a, rest) e in
      let c = bind_ok (behind wanted.Close x.x.1) _ (a, rest) x.then_ in
      let one = rank_sound place.Expression tokens x.x.0 x.x.1 x.first in
      let close_is = behind_is wanted.Close x.x.1 c.x c.first in
      let made : Reads (λ s. IsTerm n (token.Open ∷ s) x.x.0) tokens c.x =
      record {
        front = one.front ++ token.Close ∷ [];
        is = one.is ∙ ap (λ ts. one.front ++ ts) close_is ∙ sym (append_assoc one.front (token.Close ∷ []) c.x);
        holds = group one.holds;
      } in
      subst (λ (p : Tree × List Token). Reads (λ s. IsTerm n (token.Open ∷ s) p.0) tokens p.1) (ok_same c.then_) made

  -- a token of its own in front
  leaf : (t : Token) (ts : List Token) (b a : Tree) (rest : List Token) → IsTerm n (t ∷ []) b → ◌≡◌ {A = Result (Tree × List Token) Halt} (Ok (b, ts)) (Ok (a, rest)) → Reads (λ s. IsTerm n s a) (t ∷ ts) rest
  leaf t ts b a rest is e =
      let made : Reads (λ s. IsTerm n s b) (t ∷ ts) ts = record { front = t ∷ []; is = refl; holds = is } in
      subst (λ (p : Tree × List Token). Reads (λ s. IsTerm n s p.0) (t ∷ ts) p.1) (ok_same e) made

  in_front : (t : Token) (ts : List Token) (a : Tree) (rest : List Token) → Reads (λ s. IsTerm n (t ∷ s) a) ts rest → Reads (λ s. IsTerm n s a) (t ∷ ts) rest
  in_front t ts a rest reads = record { front = t ∷ reads.front; is = ap (λ us. t ∷ us) reads.is; holds = reads.holds }

  term_of_sound : (t : Token) (ts : List Token) (a : Tree) (rest : List Token) → term_of L t ts ≡ Ok (a, rest) → Reads (λ s. IsTerm n s a) (t ∷ ts) rest
  term_of_sound (token.Number k) ts a rest e = leaf (token.Number k) ts (tree.Number k) a rest number e
  term_of_sound (token.Given f) ts a rest e = leaf (token.Given f) ts (tree.Given f) a rest given e
  term_of_sound token.NoRank ts a rest e = leaf token.NoRank ts tree.NoRank a rest no_rank e
  term_of_sound token.Open ts a rest e = in_front token.Open ts a rest (group_sound ts a rest e)
  term_of_sound (token.Call x) ts a rest e = in_front (token.Call x) ts a rest (call_sound x ts a rest e)
  term_of_sound _ ts a rest e = cc

  term_sound : (tokens : List Token) (a : Tree) (rest : List Token) → term_in L tokens ≡ Ok (a, rest) → Reads (λ s. IsTerm n s a) tokens rest
  unfolding term_in
  term_sound [] a rest e = cc
  term_sound (t ∷ ts) a rest e = term_of_sound t ts a rest e

  ended_is : (tokens rest : List Token) → ended tokens ≡ Ok rest → tokens ≡ rest
  unfolding ended
  ended_is tokens rest e = by_next (next_operator tokens) e
    where
      by_next : (o : Option Operator) → ended_of tokens o ≡ Ok rest → tokens ≡ rest
      by_next None same = ok_same same
      by_next (Some o) same = cc

  -- ---- operands

  abbrev IsOperands : Option Operator → List Token → Tree → Type 0
  IsOperands None s a = IsSum n s a
  IsOperands (Some o) s a = may_chain o ≡ true → IsChain o (suc n) s a

  -- behind an operand: with it, these are operands
  abbrev GoesOn : Option Operator → Tree → Tree → List Token → Type 0
  GoesOn chained a c s = (front : List Token) → IsTerm n front a → IsOperands chained (front ++ s) c

  -- behind an operand and an operator
  abbrev EndsIn : Option Operator → Operator → Tree → Tree → List Token → Type 0
  EndsIn chained o a c s = (front : List Token) → IsTerm n front a → IsOperands chained (front ++ token.Infix o ∷ s) c

  chain_sound : (chained : Option Operator) (o : Operator) (a : Tree) (tokens : List Token) (c : Tree) (rest : List Token) → meets chained o ≡ false → may_chain o ≡ true → chain_in L o a tokens ≡ Ok (c, rest) → Reads (EndsIn chained o a c) tokens rest
  chain_sound chained o a tokens c rest fits may e =
      let b = bind_ok (rank_in L (place.Chain o) tokens) _ (c, rest) e in
      let one = rank_sound (place.Chain o) tokens b.x.0 b.x.1 b.first in
      let made : Reads (EndsIn chained o a (tree.Infix o a b.x.0)) tokens b.x.1 =
      record { front = one.front; is = one.is; holds = by_chained chained fits one.front b.x.0 (one.holds may) } in
      subst (λ (p : Tree × List Token). Reads (EndsIn chained o a p.0) tokens p.1) (ok_same b.then_) made
    where
      by_chained : (k : Option Operator) → meets k o ≡ false → (s : List Token) (d : Tree) → IsChain o n s d → EndsIn k o a (tree.Infix o a d) s
      by_chained None fit s d is = λ front term. chain may term is
      by_chained (Some p) fit s d is = λ front term may_p.
          let same = same_operator p o (not_false (is_operator p o) fit) in
          subst (λ q. IsChain q (suc n) (front ++ token.Infix o ∷ s) (tree.Infix o a d)) (sym same) (more term is)

  two_sound : (chained : Option Operator) (o : Operator) (a : Tree) (tokens : List Token) (c : Tree) (rest : List Token) → meets chained o ≡ false → may_chain o ≡ false → two_in L o a tokens ≡ Ok (c, rest) → Reads (EndsIn chained o a c) tokens rest
  two_sound chained o a tokens c rest fits may e =
      let b = bind_ok (term_in L tokens) _ (c, rest) e in
      let r = bind_ok (ended b.x.1) _ (c, rest) b.then_ in
      let one = term_sound tokens b.x.0 b.x.1 b.first in
      let made : Reads (EndsIn chained o a (tree.Infix o a b.x.0)) tokens r.x =
      record { front = one.front; is = one.is ∙ ap (λ ts. one.front ++ ts) (ended_is b.x.1 r.x r.first); holds = by_chained chained fits one.front b.x.0 one.holds } in
      subst (λ (p : Tree × List Token). Reads (EndsIn chained o a p.0) tokens p.1) (ok_same r.then_) made
    where
      by_chained : (k : Option Operator) → meets k o ≡ false → (s : List Token) (d : Tree) → IsTerm n s d → EndsIn k o a (tree.Infix o a d) s
      by_chained None fit s d is = λ front term. two may term is
      by_chained (Some p) fit s d is = λ front term may_p.
          let same = same_operator p o (not_false (is_operator p o) fit) in
          let no : true ≡ false = sym may_p ∙ ap may_chain same ∙ may in cc

  infix_sound : (chained : Option Operator) (o : Operator) (a : Tree) (tokens : List Token) (c : Tree) (rest : List Token) → meets chained o ≡ false → infix_in L o a tokens ≡ Ok (c, rest) → Reads (EndsIn chained o a c) tokens rest
  unfolding infix_in
  infix_sound chained o a tokens c rest fits e = by_kind (may_chain o) refl e
    where
      by_kind : (b : Bool) → may_chain o ≡ b → cond b (chain_in L o a tokens) (two_in L o a tokens) ≡ Ok (c, rest) → Reads (EndsIn chained o a c) tokens rest
      by_kind true may same = chain_sound chained o a tokens c rest fits may same
      by_kind false may same = two_sound chained o a tokens c rest fits may same

  after_sound : (chained : Option Operator) (a : Tree) (tokens : List Token) (c : Tree) (rest : List Token) → after_in L chained a tokens ≡ Ok (c, rest) → Reads (GoesOn chained a c) tokens rest
  unfolding after_in
  after_sound chained a tokens c rest e = by_next (next_operator tokens) refl e
    where
      alone : (k : Option Operator) → GoesOn k a a []
      alone None = λ front term. subst (λ s. IsSum n s a) (sym (append-nil front)) (single term)
      alone (Some o) = λ front term may. subst (λ s. IsChain o (suc n) s a) (sym (append-nil front)) (last term)

      by_meets : (o : Operator) (b : Bool) → next_operator tokens ≡ Some o → meets chained o ≡ b → cond b (Err (halt tokens wanted.Parentheses)) (infix_in L o a (drop 1 tokens)) ≡ Ok (c, rest) → Reads (GoesOn chained a c) tokens rest
      by_meets o true is fits same = cc
      by_meets o false is fits same =
          let behind_it = infix_sound chained o a (drop 1 tokens) c rest fits same in
          record {
            front = token.Infix o ∷ behind_it.front;
            is = next_operator_is tokens o is ∙ ap (λ ts. token.Infix o ∷ ts) behind_it.is;
            holds = behind_it.holds;
          }

      by_next : (o : Option Operator) → next_operator tokens ≡ o → after_of L chained a tokens o ≡ Ok (c, rest) → Reads (GoesOn chained a c) tokens rest
      by_next None is same =
          let made : Reads (GoesOn chained a a) tokens tokens = record { front = []; is = refl; holds = alone chained } in
          subst (λ (p : Tree × List Token). Reads (GoesOn chained a p.0) tokens p.1) (ok_same same) made
      by_next (Some o) is same = by_meets o (meets chained o) is refl same

  sum_sound : (chained : Option Operator) (tokens : List Token) (c : Tree) (rest : List Token) → sum_in L chained tokens ≡ Ok (c, rest) → Reads (λ s. IsOperands chained s c) tokens rest
  unfolding sum_in
  sum_sound chained tokens c rest e =
      let a = bind_ok (term_in L tokens) _ (c, rest) e in
      let one = term_sound tokens a.x.0 a.x.1 a.first in
      let behind_it = after_sound chained a.x.0 a.x.1 c rest a.then_ in
      record {
        front = one.front ++ behind_it.front;
        is = one.is ∙ ap (λ ts. one.front ++ ts) behind_it.is ∙ sym (append_assoc one.front behind_it.front rest);
        holds = behind_it.holds one.front one.holds;
      }

  -- ---- tests

  abbrev IsCompared : Tree → Found → List Token → Type 0
  IsCompared a found s = (front : List Token) → IsSum n front a → IsEither (suc n) (front ++ s) found

  compared_sound : (a : Tree) (tokens : List Token) (found : Found) (rest : List Token) → compared_in L a tokens ≡ Ok (found, rest) → Reads (IsCompared a found) tokens rest
  unfolding compared_in
  compared_sound a tokens found rest e = by_next (next_comparison tokens) refl e
    where
      by_next : (c : Option Comparison) → next_comparison tokens ≡ c → compared_of L a tokens c ≡ Ok (found, rest) → Reads (IsCompared a found) tokens rest
      by_next None is same =
          let made : Reads (IsCompared a (Rank a)) tokens tokens =
          record { front = []; is = refl; holds = λ front sum. subst (λ s. IsExpression (suc n) s a) (sym (append-nil front)) (plain sum) } in
          subst (λ (p : Found × List Token). Reads (IsCompared a p.0) tokens p.1) (ok_same same) made
      by_next (Some c) is same =
          let b = bind_ok (sum_in L None (drop 1 tokens)) _ (found, rest) same in
          let one = sum_sound None (drop 1 tokens) b.x.0 b.x.1 b.first in
          let made : Reads (IsCompared a (Test (tree.Compare c a b.x.0))) tokens b.x.1 =
          record {
            front = token.Compare c ∷ one.front;
            is = next_comparison_is tokens c is ∙ ap (λ ts. token.Compare c ∷ ts) one.is;
            holds = λ front sum. compare sum one.holds;
          } in
          subst (λ (p : Found × List Token). Reads (IsCompared a p.0) tokens p.1) (ok_same b.then_) made

  -- a test in parentheses
  pub record IsGrouped (q : Condition) (s : List Token) : Type 0 where
    pub inner : List Token
    pub is : s ≡ token.Open ∷ (inner ++ token.Close ∷ [])
    pub test : IsTest n inner q

  grouped_sound : (tokens : List Token) (q : Condition) (rest : List Token) → grouped_in L tokens ≡ Ok (q, rest) → Reads (IsGrouped q) tokens rest
  unfolding grouped_in
  grouped_sound tokens q rest e =
      let o = bind_ok (behind wanted.Open tokens) _ (q, rest) e in
      let p = bind_ok (test_in L place.Test o.x) _ (q, rest) o.then_ in
      let c = bind_ok (behind wanted.Close p.x.1) _ (q, rest) p.then_ in
      let one = test_sound place.Test o.x p.x.0 p.x.1 p.first in
      let made : Reads (IsGrouped p.x.0) tokens c.x =
      record {
        front = token.Open ∷ (one.front ++ token.Close ∷ []);
        is = behind_is wanted.Open tokens o.x o.first ∙ ap (λ ts. token.Open ∷ ts) (one.is ∙ ap (λ ts. one.front ++ ts) (behind_is wanted.Close p.x.1 c.x c.first) ∙ sym (append_assoc one.front (token.Close ∷ []) c.x));
        holds = record { inner = one.front; is = refl; test = one.holds };
      } in
      subst (λ (p : Condition × List Token). Reads (IsGrouped p.0) tokens p.1) (ok_same c.then_) made

  abbrev IsTests : Option Joiner → List Token → Condition → Type 0
  IsTests None s q = IsTest (suc n) s q
  IsTests (Some j) s q = IsJoined j (suc n) s q

  -- behind a test in parentheses: with it, these are tests
  abbrev JoinsOn : Option Joiner → Condition → Condition → List Token → Type 0
  JoinsOn chained p q s = (inner : List Token) → IsTest n inner p → IsTests chained (token.Open ∷ (inner ++ token.Close ∷ s)) q

  joined_sound : (chained : Option Joiner) (p : Condition) (tokens : List Token) (q : Condition) (rest : List Token) → joined_in L chained p tokens ≡ Ok (q, rest) → Reads (JoinsOn chained p q) tokens rest
  unfolding joined_in
  joined_sound chained p tokens q rest e = by_next chained (next_joiner tokens) refl e
    where
      by_chained : (k : Option Joiner) (j : Joiner) (d : Condition) (s : List Token) → mixes k j ≡ false → IsJoined j n s d → JoinsOn k p (tree.Join j p d) (token.Join j ∷ s)
      by_chained None j d s fit is = λ inner test. join test is
      by_chained (Some i) j d s fit is = λ inner test.
          let same = same_joiner i j (not_false (is_joiner i j) fit) in
          subst (λ k. IsJoined k (suc n) (token.Open ∷ (inner ++ token.Close ∷ token.Join j ∷ s)) (tree.Join j p d)) (sym same) (more_tests test is)

      go_on : (k : Option Joiner) (j : Joiner) → next_joiner tokens ≡ Some j → mixes k j ≡ false → more_in L j p (drop 1 tokens) ≡ Ok (q, rest) → Reads (JoinsOn k p q) tokens rest
      go_on k j is fits same =
          let d = bind_ok (test_in L (place.Joined j) (drop 1 tokens)) _ (q, rest) same in
          let one = test_sound (place.Joined j) (drop 1 tokens) d.x.0 d.x.1 d.first in
          let made : Reads (JoinsOn k p (tree.Join j p d.x.0)) tokens d.x.1 =
          record {
            front = token.Join j ∷ one.front;
            is = next_joiner_is tokens j is ∙ ap (λ ts. token.Join j ∷ ts) one.is;
            holds = by_chained k j d.x.0 one.front fits one.holds;
          } in
          subst (λ (r : Condition × List Token). Reads (JoinsOn k p r.0) tokens r.1) (ok_same d.then_) made

      by_mixes : (k : Option Joiner) (j : Joiner) (b : Bool) → next_joiner tokens ≡ Some j → mixes k j ≡ b → cond b (Err (halt tokens wanted.Parentheses)) (more_in L j p (drop 1 tokens)) ≡ Ok (q, rest) → Reads (JoinsOn k p q) tokens rest
      by_mixes k j true is fits same = cc
      by_mixes k j false is fits same = go_on k j is fits same

      by_next : (k : Option Joiner) (j : Option Joiner) → next_joiner tokens ≡ j → joined_of L k p tokens j ≡ Ok (q, rest) → Reads (JoinsOn k p q) tokens rest
      by_next None None is same = cc
      by_next (Some i) None is same =
          let made : Reads (JoinsOn (Some i) p p) tokens tokens = record { front = []; is = refl; holds = λ inner test. last_test test } in
          subst (λ (r : Condition × List Token). Reads (JoinsOn (Some i) p r.0) tokens r.1) (ok_same same) made
      by_next k (Some j) is same = by_mixes k j (mixes k j) is refl same

  opened_sound : (tokens : List Token) (found : Found) (rest : List Token) → opened_in L tokens ≡ Ok (found, rest) → Reads (λ s. IsEither (suc n) (token.Open ∷ s) found) tokens rest
  unfolding opened_in
  opened_sound tokens found rest e =
      let f = bind_ok (L place.Either tokens) _ (found, rest) e in
      let c = bind_ok (behind wanted.Close f.x.1) _ (found, rest) f.then_ in
      let one = sound place.Either tokens f.x.0 f.x.1 f.first in
      let closed : tokens ≡ one.front ++ token.Close ∷ c.x = one.is ∙ ap (λ ts. one.front ++ ts) (behind_is wanted.Close f.x.1 c.x c.first) in
      by_found f.x.0 c.x one.front closed one.holds c.then_
    where
      by_found : (g : Found) (after : List Token) (inner : List Token) → tokens ≡ inner ++ token.Close ∷ after → IsEither n inner g → opened_of L g after ≡ Ok (found, rest) → Reads (λ s. IsEither (suc n) (token.Open ∷ s) found) tokens rest
      by_found (Test p) after inner is test same =
          let q = bind_ok (joined_in L None p after) _ (found, rest) same in
          let one = joined_sound None p after q.x.0 q.x.1 q.first in
          let made : Reads (λ s. IsEither (suc n) (token.Open ∷ s) (Test q.x.0)) tokens q.x.1 =
          record {
            front = inner ++ token.Close ∷ one.front;
            is = is ∙ ap (λ ts. inner ++ token.Close ∷ ts) one.is ∙ sym (append_assoc inner (token.Close ∷ one.front) q.x.1);
            holds = one.holds inner test;
          } in
          subst (λ (r : Found × List Token). Reads (λ s. IsEither (suc n) (token.Open ∷ s) r.0) tokens r.1) (ok_same q.then_) made
      by_found (Rank a) after inner is expression same =
          let b = bind_ok (after_in L None a after) _ (found, rest) same in
          let one = after_sound None a after b.x.0 b.x.1 b.first in
          let other = compared_sound b.x.0 b.x.1 found rest b.then_ in
          let term : IsTerm n (token.Open ∷ (inner ++ token.Close ∷ [])) a = group expression in
          let shape : (token.Open ∷ (inner ++ token.Close ∷ [])) ++ one.front ++ other.front ≡ token.Open ∷ (inner ++ token.Close ∷ (one.front ++ other.front)) = simp append_assoc in
          record {
            front = inner ++ token.Close ∷ (one.front ++ other.front);
            is = is ∙ ap (λ ts. inner ++ token.Close ∷ ts) (one.is ∙ ap (λ ts. one.front ++ ts) other.is) ∙ flat inner one.front other.front;
            holds = subst (λ s. IsEither (suc n) s found) shape (other.holds ((token.Open ∷ (inner ++ token.Close ∷ [])) ++ one.front) (one.holds (token.Open ∷ (inner ++ token.Close ∷ [])) term));
          }
        where
          flat : (s t u : List Token) → s ++ token.Close ∷ (t ++ (u ++ rest)) ≡ (s ++ token.Close ∷ (t ++ u)) ++ rest
          flat s t u = simp append_assoc

  either_sound : (tokens : List Token) (found : Found) (rest : List Token) → either_in L tokens ≡ Ok (found, rest) → Reads (λ s. IsEither (suc n) s found) tokens rest
  unfolding either_in
  either_sound tokens found rest e = by_lead (next_lead tokens) (leads tokens) e
    where
      by_lead : (l : Lead) → Leads l tokens → either_of L tokens l ≡ Ok (found, rest) → Reads (λ s. IsEither (suc n) s found) tokens rest
      by_lead lead.Choice is same =
          let a = bind_ok (choice_in L (drop 1 tokens)) _ (found, rest) same in
          let one = choice_sound (drop 1 tokens) a.x.0 a.x.1 a.first in
          let made : Reads (λ s. IsEither (suc n) s (Rank a.x.0)) tokens a.x.1 =
          record { front = token.If ∷ one.front; is = is ∙ ap (λ ts. token.If ∷ ts) one.is; holds = one.holds } in
          subst (λ (r : Found × List Token). Reads (λ s. IsEither (suc n) s r.0) tokens r.1) (ok_same a.then_) made
      by_lead lead.Negation is same =
          let q = bind_ok (grouped_in L (drop 1 tokens)) _ (found, rest) same in
          let one = grouped_sound (drop 1 tokens) q.x.0 q.x.1 q.first in
          let made : Reads (λ s. IsEither (suc n) s (Test (tree.Negate q.x.0))) tokens q.x.1 =
          record {
            front = token.Not ∷ one.front;
            is = is ∙ ap (λ ts. token.Not ∷ ts) one.is;
            holds = subst (λ s. IsTest (suc n) (token.Not ∷ s) (tree.Negate q.x.0)) (sym one.holds.is) (negate one.holds.test);
          } in
          subst (λ (r : Found × List Token). Reads (λ s. IsEither (suc n) s r.0) tokens r.1) (ok_same q.then_) made
      by_lead lead.Group is same =
          let one = opened_sound (drop 1 tokens) found rest same in
          record { front = token.Open ∷ one.front; is = is ∙ ap (λ ts. token.Open ∷ ts) one.is; holds = one.holds }
      by_lead lead.Other is same =
          let a = bind_ok (sum_in L None tokens) _ (found, rest) same in
          let one = sum_sound None tokens a.x.0 a.x.1 a.first in
          let other = compared_sound a.x.0 a.x.1 found rest a.then_ in
          record {
            front = one.front ++ other.front;
            is = one.is ∙ ap (λ ts. one.front ++ ts) other.is ∙ sym (append_assoc one.front other.front rest);
            holds = other.holds one.front one.holds;
          }

  expression_sound : (tokens : List Token) (a : Tree) (rest : List Token) → expression_in L tokens ≡ Ok (a, rest) → Reads (λ s. IsExpression (suc n) s a) tokens rest
  unfolding expression_in
  expression_sound tokens a rest e = by_lead (next_lead tokens) (leads tokens) e
    where
      by_sum : sum_in L None tokens ≡ Ok (a, rest) → Reads (λ s. IsExpression (suc n) s a) tokens rest
      by_sum same = let one = sum_sound None tokens a rest same in record { front = one.front; is = one.is; holds = plain one.holds }

      by_lead : (l : Lead) → Leads l tokens → expression_led L tokens l ≡ Ok (a, rest) → Reads (λ s. IsExpression (suc n) s a) tokens rest
      by_lead lead.Choice is same =
          let one = choice_sound (drop 1 tokens) a rest same in
          record { front = token.If ∷ one.front; is = is ∙ ap (λ ts. token.If ∷ ts) one.is; holds = one.holds }
      by_lead lead.Negation is same = by_sum same
      by_lead lead.Group is same = by_sum same
      by_lead lead.Other is same = by_sum same

  tests_sound : (j : Joiner) (tokens : List Token) (q : Condition) (rest : List Token) → tests_in L j tokens ≡ Ok (q, rest) → Reads (λ s. IsJoined j (suc n) s q) tokens rest
  unfolding tests_in
  tests_sound j tokens q rest e =
      let p = bind_ok (grouped_in L tokens) _ (q, rest) e in
      let one = grouped_sound tokens p.x.0 p.x.1 p.first in
      let other = joined_sound (Some j) p.x.0 p.x.1 q rest p.then_ in
      let shape : one.front ++ other.front ≡ token.Open ∷ (one.holds.inner ++ token.Close ∷ other.front) =
      ap (λ ts. ts ++ other.front) one.holds.is ∙ ap (λ ts. token.Open ∷ ts) (append_assoc one.holds.inner (token.Close ∷ []) other.front) in
      record {
        front = one.front ++ other.front;
        is = one.is ∙ ap (λ ts. one.front ++ ts) other.is ∙ sym (append_assoc one.front other.front rest);
        holds = subst (λ s. IsJoined j (suc n) s q) (sym shape) (other.holds one.holds.inner one.holds.test);
      }

  part_in_sound : Sound (suc n) (part_in L)
  unfolding tested_in
  part_in_sound place.Expression tokens found rest e =
      let a = bind_ok (expression_in L tokens) _ (found, rest) e in
      subst (λ (r : Found × List Token). Reads (λ s. IsFound (suc n) place.Expression s r.0) tokens r.1) (ok_same a.then_) (expression_sound tokens a.x.0 a.x.1 a.first)
  part_in_sound place.Test tokens found rest e = by_test e
    where
      by_lead : (l : Lead) → tested_of L tokens l ≡ Ok (found, rest) → Reads (λ s. IsEither (suc n) s found) tokens rest
      by_lead lead.Choice same = cc
      by_lead lead.Negation same = either_sound tokens found rest same
      by_lead lead.Group same = either_sound tokens found rest same
      by_lead lead.Other same = either_sound tokens found rest same

      by_test : tested_in L tokens ≡ Ok (found, rest) → Reads (λ s. IsEither (suc n) s found) tokens rest
      by_test same = by_lead (next_lead tokens) same
  part_in_sound place.Either tokens found rest e = either_sound tokens found rest e
  part_in_sound (place.Chain o) tokens found rest e =
      let a = bind_ok (sum_in L (Some o) tokens) _ (found, rest) e in
      subst (λ (r : Found × List Token). Reads (λ s. IsFound (suc n) (place.Chain o) s r.0) tokens r.1) (ok_same a.then_) (sum_sound (Some o) tokens a.x.0 a.x.1 a.first)
  part_in_sound (place.Joined j) tokens found rest e =
      let q = bind_ok (tests_in L j tokens) _ (found, rest) e in
      subst (λ (r : Found × List Token). Reads (λ s. IsFound (suc n) (place.Joined j) s r.0) tokens r.1) (ok_same q.then_) (tests_sound j tokens q.x.0 q.x.1 q.first)

part_sound : (n : ℕ) → Sound n (part_at n)
unfolding part_at
part_sound zero where_ tokens found rest e = cc
part_sound (suc n) where_ tokens found rest e = part_in_sound n (part_at n) (part_sound n) where_ tokens found rest e

-- all that is read is an expression
pub whole_sound : (tokens : List Token) (a : Tree) → whole tokens ≡ Ok a → IsExpression 16 tokens a
unfolding whole
whole_sound tokens a e =
    let b = bind_ok (rank_in (part_at 16) place.Expression tokens) _ a e in
    let one = rank_sound 16 (part_at 16) (part_sound 16) place.Expression tokens b.x.0 b.x.1 b.first in
    by_rest b.x.0 b.x.1 one.front one.is one.holds b.then_
  where
    by_rest : (c : Tree) (rest front : List Token) → tokens ≡ front ++ rest → IsExpression 16 front c → whole_of c rest ≡ Ok a → IsExpression 16 tokens a
    by_rest c [] front is holds same = subst (λ s. IsExpression 16 s a) (sym (is ∙ append-nil front)) (subst (IsExpression 16 front) (ok_same same) holds)
    by_rest c (t ∷ ts) front is holds same = cc
