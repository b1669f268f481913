-- The tokens of a text.
use Rattle.std.specs.Prelude.{◌≡◌, ℕ, ◌<◌, ◌^◌, ◌==◌, leb, Bool, true, false, ◌&&◌, ◌||◌, List, [], ◌∷◌, ◌++◌}
use Rattle.std.specs.Prelude.{codes, decimal}
use Rattle.pc_rank.specs.Texts.{comparison_sign, extreme_word, fact_word, joiner_word, operator_sign}
use Rattle.pc_rank.specs.declared.operators.Comparison.{Comparison}
use Rattle.pc_rank.specs.declared.operators.Comparison.TheVariants as comparison
use Rattle.pc_rank.specs.declared.token.Token.{Token}
use Rattle.pc_rank.specs.declared.token.Token.TheVariants as token

-- how a token is written
abbrev pub token_text : Token → List ℕ
token_text (token.Number number) = decimal number
token_text (token.Given fact) = fact_word fact
token_text token.NoRank = codes "none"
token_text token.If = codes "if"
token_text token.Then = codes "then"
token_text token.Else = codes "else"
token_text token.Not = codes "not"
token_text (token.Call extreme) = extreme_word extreme
token_text (token.Join joiner) = joiner_word joiner
token_text (token.Infix operator) = operator_sign operator
token_text (token.Compare comparison) = comparison_sign comparison
token_text token.Open = codes "("
token_text token.Close = codes ")"
token_text token.Comma = codes ","
token_text token.NoNumber = []
token_text token.Unknown = []

-- a token that a text may have: numbers are below 2 ^ 64
abbrev pub IsToken : Token → Type 0
IsToken (token.Number number) = number < 2 ^ 64
IsToken token.NoNumber = ⊥
IsToken token.Unknown = ⊥
IsToken _ = Unit {0}

-- a small letter or a digit
abbrev pub is_of_word : ℕ → Bool
is_of_word byte = (leb 97 byte && leb byte 122) || (leb 48 byte && leb byte 57)

-- bytes that may not stand right behind a comparison
abbrev pub lengthens_sign : Comparison → ℕ → Bool
lengthens_sign comparison.Below byte = byte == 61
lengthens_sign comparison.Above byte = byte == 61
lengthens_sign _ byte = false

-- Bytes that may not stand right behind a token, since they would belong to it: a letter or a digit behind a word or a
-- number, and `=` behind `<` and `>`
abbrev pub lengthens : Token → ℕ → Bool
lengthens (token.Infix operator) byte = false
lengthens (token.Compare comparison) byte = lengthens_sign comparison byte
lengthens token.Open byte = false
lengthens token.Close byte = false
lengthens token.Comma byte = false
lengthens _ byte = is_of_word byte

-- the text begins with such a byte
abbrev pub begins : (ℕ → Bool) → List ℕ → Bool
begins such [] = false
begins such (byte ∷ bytes) = such byte

-- The text has these tokens: spaces may stand anywhere between them
pub data Spells : List ℕ → List Token → Type 0 where
  done : Spells [] []
  space : {text : List ℕ} {tokens : List Token} → Spells text tokens → Spells (32 ∷ text) tokens
  one : {text : List ℕ} {tokens : List Token} (t : Token)
      → IsToken t → begins (lengthens t) text ≡ false → Spells text tokens
      → Spells (token_text t ++ text) (t ∷ tokens)

-- a token that makes a node of a tree
abbrev pub is_node : Token → Bool
is_node token.Then = false
is_node token.Else = false
is_node token.Open = false
is_node token.Close = false
is_node token.Comma = false
is_node _ = true
