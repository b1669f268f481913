-- Each token that makes a node weighs one.
use Rattle.std.proofs.Common.{◌≡◌, ℕ, zero, suc, ◌+◌, ◌-◌, ◌≤◌, true, List, [], ◌∷◌, length, get_or, take, drop, Option, IfSome, refl, sym, ap, subst, ◌∙◌, arith, cond}
use Rattle.std.specs.List.{count_by}
use Rattle.std.proofs.Math.Seq.{take-length}
use Rattle.std.proofs.lemmas.List.Sums.{sum_by-cons}
use Rattle.pc_rank.specs.Inner.Reading.{Outweighs, comparison_of, joiner_of, lead_of, operator_of, weight}
use Rattle.pc_rank.specs.Tokens.{is_node}
use Rattle.pc_rank.specs.declared.halt.Lead.{Lead}
use Rattle.pc_rank.specs.declared.operators.Comparison.{Comparison}
use Rattle.pc_rank.specs.declared.operators.Joiner.{Joiner}
use Rattle.pc_rank.specs.declared.operators.Operator.{Operator}
use Rattle.pc_rank.specs.declared.token.Token.{Token}
use Rattle.pc_rank.specs.declared.token.Token.TheVariants as token

pub first_weighs : (t : Token) (ts : List Token) → weight (t ∷ ts) ≡ cond (is_node t) 1 0 + weight ts
unfolding weight
first_weighs t ts = sum_by-cons (λ u. cond (is_node u) 1 0) t ts

-- all of them weigh as many as make nodes
pub weight_is : (ts : List Token) → weight ts ≡ count_by is_node ts
unfolding weight
weight_is ts = refl

none_weigh : weight [] ≡ 0
unfolding weight
none_weigh = refl

-- a part weighs no more
taken : (n : ℕ) (ts : List Token) → weight (take n ts) ≤ weight ts
taken zero ts = omega (arith, none_weigh)
taken (suc n) [] = omega arith
taken (suc n) (t ∷ ts) = omega (arith, first_weighs t ts, first_weighs t (take n ts), taken n ts)

pub behind_first : (ts : List Token) → weight (drop 1 ts) ≤ weight ts
behind_first [] = omega arith
behind_first (t ∷ ts) = omega (arith, first_weighs t ts)

pub rest_weighs : (n : ℕ) (ts : List Token) → weight (take n (drop 1 ts)) ≤ weight ts
rest_weighs n ts = omega (arith, taken n (drop 1 ts), behind_first ts)

-- a token that makes a node weighs one
node_weighs : (t : Token) (ts : List Token) → is_node t ≡ true → weight ts + 1 ≡ weight (t ∷ ts)
node_weighs t ts e = omega (arith, first_weighs t ts, ap {B = ℕ} (λ b. cond b 1 0) e)

-- what the first token of some weighs
pub head_weighs : (d : Token) (ts : List Token) (t : Token) → 1 ≤ length ts → get_or ts 0 d ≡ t → weight ts ≡ cond (is_node t) 1 0 + weight (take (length ts - 1) (drop 1 ts))
head_weighs d [] t h e = absurd (omega (arith, h))
head_weighs d (u ∷ ts) t h e =
    let all : take (length (u ∷ ts) - 1) ts ≡ ts = subst (λ n. take n ts ≡ ts) (omega arith) (take-length ts) in
    first_weighs u ts ∙ ap (λ w. cond (is_node w) 1 0 + weight ts) e ∙ ap (λ xs. cond (is_node t) 1 0 + weight xs) (sym all)

module _ (d : Token) where
  operator_of_first : (t : Token) (ts : List Token) → IfSome (operator_of t) (λ _. weight ts + 1 ≡ weight (t ∷ ts))
  operator_of_first (token.Number k) ts = tt
  operator_of_first (token.Given f) ts = tt
  operator_of_first token.NoRank ts = tt
  operator_of_first token.If ts = tt
  operator_of_first token.Then ts = tt
  operator_of_first token.Else ts = tt
  operator_of_first token.Not ts = tt
  operator_of_first (token.Call x) ts = tt
  operator_of_first (token.Join j) ts = tt
  operator_of_first (token.Infix o) ts = node_weighs _ ts refl
  operator_of_first (token.Compare c) ts = tt
  operator_of_first token.Open ts = tt
  operator_of_first token.Close ts = tt
  operator_of_first token.Comma ts = tt
  operator_of_first token.NoNumber ts = tt
  operator_of_first token.Unknown ts = tt

  pub operator_weighs : (ts : List Token) (o : Option Operator) → 1 ≤ length ts → o ≡ operator_of (get_or ts 0 d) → IfSome o (λ _. weight (drop 1 ts) + 1 ≡ weight ts)
  operator_weighs [] o h e = absurd (omega (arith, h))
  operator_weighs (t ∷ ts) o h e = subst (λ v. IfSome v (λ _. weight ts + 1 ≡ weight (t ∷ ts))) (sym e) (operator_of_first t ts)

  joiner_of_first : (t : Token) (ts : List Token) → IfSome (joiner_of t) (λ _. weight ts + 1 ≡ weight (t ∷ ts))
  joiner_of_first (token.Number k) ts = tt
  joiner_of_first (token.Given f) ts = tt
  joiner_of_first token.NoRank ts = tt
  joiner_of_first token.If ts = tt
  joiner_of_first token.Then ts = tt
  joiner_of_first token.Else ts = tt
  joiner_of_first token.Not ts = tt
  joiner_of_first (token.Call x) ts = tt
  joiner_of_first (token.Join j) ts = node_weighs _ ts refl
  joiner_of_first (token.Infix o) ts = tt
  joiner_of_first (token.Compare c) ts = tt
  joiner_of_first token.Open ts = tt
  joiner_of_first token.Close ts = tt
  joiner_of_first token.Comma ts = tt
  joiner_of_first token.NoNumber ts = tt
  joiner_of_first token.Unknown ts = tt

  pub joiner_weighs : (ts : List Token) (o : Option Joiner) → 1 ≤ length ts → o ≡ joiner_of (get_or ts 0 d) → IfSome o (λ _. weight (drop 1 ts) + 1 ≡ weight ts)
  joiner_weighs [] o h e = absurd (omega (arith, h))
  joiner_weighs (t ∷ ts) o h e = subst (λ v. IfSome v (λ _. weight ts + 1 ≡ weight (t ∷ ts))) (sym e) (joiner_of_first t ts)

  comparison_of_first : (t : Token) (ts : List Token) → IfSome (comparison_of t) (λ _. weight ts + 1 ≡ weight (t ∷ ts))
  comparison_of_first (token.Number k) ts = tt
  comparison_of_first (token.Given f) ts = tt
  comparison_of_first token.NoRank ts = tt
  comparison_of_first token.If ts = tt
  comparison_of_first token.Then ts = tt
  comparison_of_first token.Else ts = tt
  comparison_of_first token.Not ts = tt
  comparison_of_first (token.Call x) ts = tt
  comparison_of_first (token.Join j) ts = tt
  comparison_of_first (token.Infix o) ts = tt
  comparison_of_first (token.Compare c) ts = node_weighs _ ts refl
  comparison_of_first token.Open ts = tt
  comparison_of_first token.Close ts = tt
  comparison_of_first token.Comma ts = tt
  comparison_of_first token.NoNumber ts = tt
  comparison_of_first token.Unknown ts = tt

  pub comparison_weighs : (ts : List Token) (o : Option Comparison) → 1 ≤ length ts → o ≡ comparison_of (get_or ts 0 d) → IfSome o (λ _. weight (drop 1 ts) + 1 ≡ weight ts)
  comparison_weighs [] o h e = absurd (omega (arith, h))
  comparison_weighs (t ∷ ts) o h e = subst (λ v. IfSome v (λ _. weight ts + 1 ≡ weight (t ∷ ts))) (sym e) (comparison_of_first t ts)

  lead_of_first : (t : Token) (ts : List Token) → Outweighs (lead_of t) (t ∷ ts)
  lead_of_first (token.Number k) ts = tt
  lead_of_first (token.Given f) ts = tt
  lead_of_first token.NoRank ts = tt
  lead_of_first token.If ts = node_weighs _ ts refl
  lead_of_first token.Then ts = tt
  lead_of_first token.Else ts = tt
  lead_of_first token.Not ts = node_weighs _ ts refl
  lead_of_first (token.Call x) ts = tt
  lead_of_first (token.Join j) ts = tt
  lead_of_first (token.Infix o) ts = tt
  lead_of_first (token.Compare c) ts = tt
  lead_of_first token.Open ts = tt
  lead_of_first token.Close ts = tt
  lead_of_first token.Comma ts = tt
  lead_of_first token.NoNumber ts = tt
  lead_of_first token.Unknown ts = tt

  pub lead_weighs : (ts : List Token) (l : Lead) → 1 ≤ length ts → l ≡ lead_of (get_or ts 0 d) → Outweighs l ts
  lead_weighs [] l h e = absurd (omega (arith, h))
  lead_weighs (t ∷ ts) l h e = subst (λ v. Outweighs v (t ∷ ts)) (sym e) (lead_of_first t ts)
