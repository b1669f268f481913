-- Tokens are read from left to right, up to where they cannot go on.
use Rattle.std.specs.Prelude.{◌≡◌, ℕ, zero, suc, ◌+◌, count_by, Bool, true, false, not, List, [], ◌∷◌, drop, length}
use Rattle.std.specs.Prelude.{Option, Some, None, Result, Ok, Err, if◌then◌else◌}
use Rattle.pc_rank.specs.Expressions.{Tree, Condition, Found, Rank, Test}
use Rattle.pc_rank.specs.Expressions as tree
use Rattle.pc_rank.specs.Texts.{is_joiner, is_operator, may_chain}
use Rattle.pc_rank.specs.Tokens.{is_node}
use Rattle.pc_rank.specs.declared.fault.Wanted.{Wanted}
use Rattle.pc_rank.specs.declared.fault.Wanted.TheVariants as wanted
use Rattle.pc_rank.specs.declared.halt.Halt.{Halt}
use Rattle.pc_rank.specs.declared.halt.Lead.{Lead}
use Rattle.pc_rank.specs.declared.halt.Lead.TheVariants as lead
use Rattle.pc_rank.specs.declared.halt.Place.{Place}
use Rattle.pc_rank.specs.declared.halt.Place.TheVariants as place
use Rattle.pc_rank.specs.declared.operators.Comparison.{Comparison}
use Rattle.pc_rank.specs.declared.operators.Extreme.{Extreme}
use Rattle.pc_rank.specs.declared.operators.Joiner.{Joiner}
use Rattle.pc_rank.specs.declared.operators.Operator.{Operator}
use Rattle.pc_rank.specs.declared.token.Token.{Token}
use Rattle.pc_rank.specs.declared.token.Token.TheVariants as token

infixl 10 ◌>>=◌
abbrev pub ◌>>=◌ : {A B : Type 0} → Result A Halt → (A → Result B Halt) → Result B Halt
(Ok x) >>= f = f x
(Err e) >>= f = Err e

-- what a function returned, seen by view, is what reading gives
abbrev pub Gives : {X Y : Type 0} → (X → Y) → Result X Halt → Result Y Halt → Type 0
Gives view (Ok x) read = read ≡ Ok (view x)
Gives view (Err e) read = read ≡ Err e

-- what reads tokens finds something, and leaves the tokens behind it
abbrev pub Reader : Type 0 → Type 0
Reader A = List Token → Result (A × List Token) Halt

-- where tokens cannot go on
abbrev pub halt : List Token → Wanted → Halt
halt tokens wanted = record { left = length tokens; wanted = Some wanted }

-- where they lie too deep
abbrev pub deep : List Token → Halt
deep tokens = record { left = length tokens; wanted = None }

-- ---- the next token

-- how many nodes the tokens may make
unfoldable pub weight : List Token → ℕ
weight tokens = count_by is_node tokens

-- how what stands at a place begins
abbrev pub lead_of : Token → Lead
lead_of token.If = lead.Choice
lead_of token.Not = lead.Negation
lead_of token.Open = lead.Group
lead_of _ = lead.Other

abbrev pub next_lead : List Token → Lead
next_lead [] = lead.Other
next_lead (t ∷ ts) = lead_of t

-- a lead that makes a node is one of them
abbrev pub Outweighs : Lead → List Token → Type 0
Outweighs lead.Choice tokens = weight (drop 1 tokens) + 1 ≡ weight tokens
Outweighs lead.Negation tokens = weight (drop 1 tokens) + 1 ≡ weight tokens
Outweighs lead.Group tokens = Unit {0}
Outweighs lead.Other tokens = Unit {0}

abbrev pub operator_of : Token → Option Operator
operator_of (token.Infix operator) = Some operator
operator_of _ = None

abbrev pub next_operator : List Token → Option Operator
next_operator [] = None
next_operator (t ∷ ts) = operator_of t

abbrev pub joiner_of : Token → Option Joiner
joiner_of (token.Join joiner) = Some joiner
joiner_of _ = None

abbrev pub next_joiner : List Token → Option Joiner
next_joiner [] = None
next_joiner (t ∷ ts) = joiner_of t

abbrev pub comparison_of : Token → Option Comparison
comparison_of (token.Compare comparison) = Some comparison
comparison_of _ = None

abbrev pub next_comparison : List Token → Option Comparison
next_comparison [] = None
next_comparison (t ∷ ts) = comparison_of t

-- the token is the one that is wanted
abbrev pub is_wanted : Wanted → Token → Bool
is_wanted wanted.Then token.Then = true
is_wanted wanted.Else token.Else = true
is_wanted wanted.Open token.Open = true
is_wanted wanted.Close token.Close = true
is_wanted wanted.Comma token.Comma = true
is_wanted _ _ = false

-- the tokens behind one that is wanted
unfoldable pub behind : Wanted → List Token → Result (List Token) Halt
behind w [] = Err (halt [] w)
behind w (t ∷ ts) = if is_wanted w t then Ok ts else Err (halt (t ∷ ts) w)

-- another operator than that of the chain
abbrev pub meets : Option Operator → Operator → Bool
meets None operator = false
meets (Some within) operator = not (is_operator within operator)

-- another word than that of the chain
abbrev pub mixes : Option Joiner → Joiner → Bool
mixes None joiner = false
mixes (Some within) joiner = not (is_joiner within joiner)

-- ---- what is found, where `within` reads what lies a level deeper

abbrev pub Readers : Type 0
Readers = Place → Reader Found

abbrev pub as_rank : List Token → Found → List Token → Result (Tree × List Token) Halt
as_rank tokens (Rank a) rest = Ok (a, rest)
as_rank tokens (Test q) rest = Err (halt tokens wanted.Operand)

unfoldable pub rank_in : Readers → Place → Reader Tree
rank_in within place tokens = do
  found ← within place tokens
  as_rank tokens found.0 found.1

abbrev pub as_test : Found → List Token → Result (Condition × List Token) Halt
as_test (Rank a) rest = Err (halt rest wanted.Comparison)
as_test (Test q) rest = Ok (q, rest)

unfoldable pub test_in : Readers → Place → Reader Condition
test_in within place tokens = do
  found ← within place tokens
  as_test found.0 found.1

-- `if` stands in front
unfoldable pub choice_in : Readers → Reader Tree
choice_in within tokens = do
  q ← test_in within place.Test tokens
  t ← behind wanted.Then q.1
  a ← rank_in within place.Expression t
  e ← behind wanted.Else a.1
  b ← rank_in within place.Expression e
  Ok (tree.Choice q.0 a.0 b.0, b.1)

-- `min` or `max` stands in front
unfoldable pub call_in : Readers → Extreme → Reader Tree
call_in within extreme tokens = do
  o ← behind wanted.Open tokens
  a ← rank_in within place.Expression o
  m ← behind wanted.Comma a.1
  b ← rank_in within place.Expression m
  c ← behind wanted.Close b.1
  Ok (tree.Call extreme a.0 b.0, c)

-- `(` stands in front
unfoldable pub group_in : Readers → Reader Tree
group_in within tokens = do
  a ← rank_in within place.Expression tokens
  c ← behind wanted.Close a.1
  Ok (a.0, c)

abbrev pub term_of : Readers → Token → List Token → Result (Tree × List Token) Halt
term_of within (token.Number number) rest = Ok (tree.Number number, rest)
term_of within (token.Given fact) rest = Ok (tree.Given fact, rest)
term_of within token.NoRank rest = Ok (tree.NoRank, rest)
term_of within token.Open rest = group_in within rest
term_of within (token.Call extreme) rest = call_in within extreme rest
term_of within token.NoNumber rest = Err (halt (token.NoNumber ∷ rest) wanted.Number)
term_of within t rest = Err (halt (t ∷ rest) wanted.Operand)

unfoldable pub term_in : Readers → Reader Tree
term_in within [] = Err (halt [] wanted.Operand)
term_in within (t ∷ ts) = term_of within t ts

-- no operator may follow the second operand of one that makes no chain
abbrev pub ended_of : List Token → Option Operator → Result (List Token) Halt
ended_of tokens None = Ok tokens
ended_of tokens (Some operator) = Err (halt tokens wanted.Parentheses)

unfoldable pub ended : List Token → Result (List Token) Halt
ended tokens = ended_of tokens (next_operator tokens)

-- behind a first operand and an operator
abbrev pub chain_in : Readers → Operator → Tree → Reader Tree
chain_in within operator a tokens = do
  b ← rank_in within (place.Chain operator) tokens
  Ok (tree.Infix operator a b.0, b.1)

abbrev pub two_in : Readers → Operator → Tree → Reader Tree
two_in within operator a tokens = do
  b ← term_in within tokens
  r ← ended b.1
  Ok (tree.Infix operator a b.0, r)

unfoldable pub infix_in : Readers → Operator → Tree → Reader Tree
infix_in within operator a tokens =
    if may_chain operator then chain_in within operator a tokens else two_in within operator a tokens

-- behind a first operand, in a chain of this operator or in none
abbrev pub after_of : Readers → Option Operator → Tree → List Token → Option Operator
    → Result (Tree × List Token) Halt
after_of within chained a tokens None = Ok (a, tokens)
after_of within chained a tokens (Some operator) =
    if meets chained operator then Err (halt tokens wanted.Parentheses) else infix_in within operator a (drop 1 tokens)

unfoldable pub after_in : Readers → Option Operator → Tree → Reader Tree
after_in within chained a tokens = after_of within chained a tokens (next_operator tokens)

-- operands from here on
unfoldable pub sum_in : Readers → Option Operator → Reader Tree
sum_in within chained tokens = do
  a ← term_in within tokens
  after_in within chained a.0 a.1

-- behind a sum
abbrev pub compared_of : Readers → Tree → List Token → Option Comparison → Result (Found × List Token) Halt
compared_of within a tokens None = Ok (Rank a, tokens)
compared_of within a tokens (Some comparison) = do
  b ← sum_in within None (drop 1 tokens)
  Ok (Test (tree.Compare comparison a b.0), b.1)

unfoldable pub compared_in : Readers → Tree → Reader Found
compared_in within a tokens = compared_of within a tokens (next_comparison tokens)

-- a test in parentheses
unfoldable pub grouped_in : Readers → Reader Condition
grouped_in within tokens = do
  o ← behind wanted.Open tokens
  q ← test_in within place.Test o
  c ← behind wanted.Close q.1
  Ok (q.0, c)

-- behind a test in parentheses, in a chain of this word or in none
abbrev pub unjoined : Option Joiner → Condition → List Token → Result (Condition × List Token) Halt
unjoined None p tokens = Err (halt tokens wanted.Joiner)
unjoined (Some joiner) p tokens = Ok (p, tokens)

abbrev pub more_in : Readers → Joiner → Condition → Reader Condition
more_in within joiner p tokens = do
  q ← test_in within (place.Joined joiner) tokens
  Ok (tree.Join joiner p q.0, q.1)

abbrev pub joined_of : Readers → Option Joiner → Condition → List Token → Option Joiner
    → Result (Condition × List Token) Halt
joined_of within chained p tokens None = unjoined chained p tokens
joined_of within chained p tokens (Some joiner) =
    if mixes chained joiner then Err (halt tokens wanted.Parentheses) else more_in within joiner p (drop 1 tokens)

unfoldable pub joined_in : Readers → Option Joiner → Condition → Reader Condition
joined_in within chained p tokens = joined_of within chained p tokens (next_joiner tokens)

-- behind parentheses that a test begins with
abbrev pub opened_of : Readers → Found → List Token → Result (Found × List Token) Halt
opened_of within (Test p) tokens = do
  q ← joined_in within None p tokens
  Ok (Test q.0, q.1)
opened_of within (Rank a) tokens = do
  b ← after_in within None a tokens
  compared_in within b.0 b.1

unfoldable pub opened_in : Readers → Reader Found
opened_in within tokens = do
  found ← within place.Either tokens
  c ← behind wanted.Close found.1
  opened_of within found.0 c

abbrev pub either_of : Readers → List Token → Lead → Result (Found × List Token) Halt
either_of within tokens lead.Choice = do
  a ← choice_in within (drop 1 tokens)
  Ok (Rank a.0, a.1)
either_of within tokens lead.Negation = do
  q ← grouped_in within (drop 1 tokens)
  Ok (Test (tree.Negate q.0), q.1)
either_of within tokens lead.Group = opened_in within (drop 1 tokens)
either_of within tokens lead.Other = do
  a ← sum_in within None tokens
  compared_in within a.0 a.1

unfoldable pub either_in : Readers → Reader Found
either_in within tokens = either_of within tokens (next_lead tokens)

abbrev pub expression_led : Readers → List Token → Lead → Result (Tree × List Token) Halt
expression_led within tokens lead.Choice = choice_in within (drop 1 tokens)
expression_led within tokens lead.Negation = sum_in within None tokens
expression_led within tokens lead.Group = sum_in within None tokens
expression_led within tokens lead.Other = sum_in within None tokens

unfoldable pub expression_in : Readers → Reader Tree
expression_in within tokens = expression_led within tokens (next_lead tokens)

-- no choice stands where a test is wanted
abbrev pub tested_of : Readers → List Token → Lead → Result (Found × List Token) Halt
tested_of within tokens lead.Choice = Err (halt tokens wanted.Operand)
tested_of within tokens lead.Negation = either_in within tokens
tested_of within tokens lead.Group = either_in within tokens
tested_of within tokens lead.Other = either_in within tokens

unfoldable pub tested_in : Readers → Reader Found
tested_in within tokens = tested_of within tokens (next_lead tokens)

unfoldable pub tests_in : Readers → Joiner → Reader Condition
tests_in within joiner tokens = do
  p ← grouped_in within tokens
  joined_in within (Some joiner) p.0 p.1

abbrev pub ranked : Result (Tree × List Token) Halt → Result (Found × List Token) Halt
ranked read = read >>= (λ a. Ok (Rank a.0, a.1))

abbrev pub tested : Result (Condition × List Token) Halt → Result (Found × List Token) Halt
tested read = read >>= (λ q. Ok (Test q.0, q.1))

-- what stands at a place
abbrev pub part_in : Readers → Readers
part_in within place.Expression tokens = ranked (expression_in within tokens)
part_in within place.Test tokens = tested_in within tokens
part_in within place.Either tokens = either_in within tokens
part_in within (place.Chain operator) tokens = ranked (sum_in within (Some operator) tokens)
part_in within (place.Joined joiner) tokens = tested (tests_in within joiner tokens)

-- the same, so many levels deep at most
unfoldable pub part_at : ℕ → Readers
part_at zero place tokens = Err (deep tokens)
part_at (suc levels) place tokens = part_in (part_at levels) place tokens

-- all of the tokens
abbrev pub whole_of : Tree → List Token → Result Tree Halt
whole_of a [] = Ok a
whole_of a (t ∷ ts) = Err (halt (t ∷ ts) wanted.End)

unfoldable pub whole : List Token → Result Tree Halt
whole tokens = do
  a ← rank_in (part_at 16) place.Expression tokens
  whole_of a.0 a.1
