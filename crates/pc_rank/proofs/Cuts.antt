-- What is said of the tokens that a text is cut into.
use Rattle.std.specs.Prelude.{◌≡◌, ℕ, Bool, true, false, List, ◌++◌}
use Rattle.std.specs.List.{AllByRecursion}
use Rattle.pc_rank.specs.Tokens.{IsToken, Spells, begins, lengthens, token_text}
use Rattle.pc_rank.specs.declared.token.Token.{Token}
use Rattle.pc_rank.specs.declared.token.Token.TheVariants as token

-- the tokens that are no words and no numbers
abbrev pub is_sign : Token → Bool
is_sign (token.Infix operator) = true
is_sign (token.Compare comparison) = true
is_sign token.Open = true
is_sign token.Close = true
is_sign token.Comma = true
is_sign _ = false

-- a token that was found, and no mark of where none was
abbrev pub IsKnown : Token → Type 0
IsKnown token.NoNumber = ⊥
IsKnown token.Unknown = ⊥
IsKnown _ = Unit {0}

-- a word is written as this token, which is no sign, and as no other
pub record IsNamed (word : List ℕ) (found : Token) : Type 0 where
  pub kind : is_sign found ≡ false
  pub sound : IsKnown found → IsToken found × (word ≡ token_text found)
  pub only : (t : Token) → IsToken t → is_sign t ≡ false → word ≡ token_text t → found ≡ t

-- a text is cut into a first token and what is behind it
pub record Cuts (text : List ℕ) (found : Token) (rest : List ℕ) : Type 0 where
  pub sound : IsKnown found
      → IsToken found × (text ≡ token_text found ++ rest) × (begins (lengthens found) rest ≡ false)
  pub only : (t : Token) (behind : List ℕ) → IsToken t → begins (lengthens t) behind ≡ false
      → text ≡ token_text t ++ behind → (found ≡ t) × (rest ≡ behind)

-- the text has these tokens and no others
pub record HasTokens (text : List ℕ) (tokens : List Token) : Type 0 where
  pub sound : AllByRecursion IsKnown tokens → Spells text tokens
  pub only : (all : List Token) → Spells text all → all ≡ tokens
