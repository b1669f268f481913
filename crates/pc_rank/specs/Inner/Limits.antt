-- Tokens within the limits, and what the reader of tokens says at a place of the text.
use Rattle.std.specs.Prelude.{◌≡◌, ◌<◌, List, count_by, take, Ok}
use Rattle.pc_rank.specs.Expressions.{Tree}
use Rattle.pc_rank.specs.Inner.Reading.{whole}
use Rattle.pc_rank.specs.Layout.{built_of, layout}
use Rattle.pc_rank.specs.Tokens.{is_node}
use Rattle.pc_rank.specs.declared.code.Code.{Code}
use Rattle.pc_rank.specs.declared.fault.RankFault.{RankFault}
use Rattle.pc_rank.specs.declared.fault.RankFault.TheVariants as fault
use Rattle.pc_rank.specs.declared.token.Tokens.{Tokens}
use Rattle.pc_rank.specs.declared.token.Token.{Token}

-- the tokens that were found
abbrev pub tokens_in : Tokens → List Token
tokens_in found = take found.count found.tokens

-- the tokens make the expression of which these are the codes
pub record IsMadeOf (tokens : List Token) (codes : List Code) : Type 0 where
  pub read : whole tokens ≡ Ok (built_of codes)
  pub laid : codes ≡ layout (built_of codes)

-- too many tokens make nodes
abbrev pub IsTooMany : List Token → RankFault → Type 0
IsTooMany tokens (fault.TooManyNodes at) = 64 < count_by is_node tokens
IsTooMany tokens (fault.Wanted at wanted) = ⊥
IsTooMany tokens fault.TooLong = ⊥
IsTooMany tokens (fault.TooDeep at) = ⊥

-- the tokens make no expression
abbrev pub IsNoTree : List Token → RankFault → Type 0
IsNoTree tokens (fault.Wanted at wanted) = (a : Tree) → whole tokens ≡ Ok a → ⊥
IsNoTree tokens (fault.TooDeep at) = (a : Tree) → whole tokens ≡ Ok a → ⊥
IsNoTree tokens (fault.TooManyNodes at) = ⊥
IsNoTree tokens fault.TooLong = ⊥

-- a fault with a place
abbrev pub IsPlaced : RankFault → Type 0
IsPlaced (fault.Wanted at w) = Unit {0}
IsPlaced (fault.TooDeep at) = Unit {0}
IsPlaced (fault.TooManyNodes at) = ⊥
IsPlaced fault.TooLong = ⊥
