-- A text is cut into its tokens from the left.
use Rattle.std.specs.Prelude.{ℕ, zero, suc, ◌^◌, ◌==◌, nat_lt, Bool, ◌&&◌, ◌||◌, List, [], ◌∷◌, length, take, drop}
use Rattle.std.specs.Prelude.{bytes_eq, codes, decimal, if◌then◌else◌}
use Rattle.std.specs.Char.{is_ascii_digit}
use Rattle.std.specs.Str.Parse.{digits_value}
use Rattle.pc_rank.specs.Tokens.{begins, is_of_word}
use Rattle.pc_rank.specs.declared.facts.Fact.TheVariants as fact
use Rattle.pc_rank.specs.declared.operators.Comparison.TheVariants as comparison
use Rattle.pc_rank.specs.declared.operators.Extreme.TheVariants as extreme
use Rattle.pc_rank.specs.declared.operators.Joiner.TheVariants as joiner
use Rattle.pc_rank.specs.declared.operators.Operator.TheVariants as operator
use Rattle.pc_rank.specs.declared.token.Token.{Token}
use Rattle.pc_rank.specs.declared.token.Token.TheVariants as token

-- how many letters and digits stand in front
abbrev pub letters : List ℕ → ℕ
letters [] = 0
letters (byte ∷ bytes) = if is_of_word byte then suc (letters bytes) else 0

-- the token that a word of letters is
abbrev pub fact_named : List ℕ → Token
fact_named word =
    if bytes_eq word (codes "level") then token.Given fact.Level else
    if bytes_eq word (codes "ran") then token.Given fact.Ran else
    if bytes_eq word (codes "thread") then token.Given fact.Thread else
    if bytes_eq word (codes "cpu") then token.Given fact.Cpu else
    if bytes_eq word (codes "allowed") then token.Given fact.Allowed else
    if bytes_eq word (codes "none") then token.NoRank else token.Unknown

abbrev pub word_named : List ℕ → Token
word_named word =
    if bytes_eq word (codes "if") then token.If else
    if bytes_eq word (codes "then") then token.Then else
    if bytes_eq word (codes "else") then token.Else else
    if bytes_eq word (codes "not") then token.Not else
    if bytes_eq word (codes "min") then token.Call extreme.Min else
    if bytes_eq word (codes "max") then token.Call extreme.Max else
    if bytes_eq word (codes "and") then token.Join joiner.And else
    if bytes_eq word (codes "or") then token.Join joiner.Or else fact_named word

-- signs of one byte, and of a byte and `=`
abbrev pub single : ℕ → Token
single byte =
    if byte == 40 then token.Open else
    if byte == 41 then token.Close else
    if byte == 44 then token.Comma else
    if byte == 43 then token.Infix operator.Plus else
    if byte == 42 then token.Infix operator.Times else
    if byte == 45 then token.Infix operator.Minus else
    if byte == 47 then token.Infix operator.Over else
    if byte == 37 then token.Infix operator.Modulo else
    if byte == 60 then token.Compare comparison.Below else
    if byte == 62 then token.Compare comparison.Above else token.Unknown

abbrev pub before_equals : ℕ → Token
before_equals byte =
    if byte == 60 then token.Compare comparison.AtMost else
    if byte == 62 then token.Compare comparison.AtLeast else
    if byte == 61 then token.Compare comparison.Same else
    if byte == 33 then token.Compare comparison.Other else token.Unknown

-- bytes that make a sign with `=` behind them
abbrev pub doubles : ℕ → Bool
doubles byte = byte == 60 || byte == 62 || byte == 61 || byte == 33

-- the sign in front, and the text behind it
abbrev pub sign_at : List ℕ → Token × List ℕ
sign_at [] = (token.Unknown, [])
sign_at (byte ∷ []) = (single byte, [])
sign_at (byte ∷ next ∷ bytes) =
    if doubles byte && next == 61 then (before_equals byte, bytes) else (single byte, next ∷ bytes)

-- a word that is a number in decimal, below 2 ^ 64
unfoldable pub is_number : List ℕ → Bool
is_number word = nat_lt (digits_value 10 word) (2 ^ 64) && bytes_eq word (decimal (digits_value 10 word))

-- the token that a word or a number is
unfoldable pub word_token : List ℕ → Token
word_token word =
    if is_number word then token.Number (digits_value 10 word) else
    if begins is_ascii_digit word then token.NoNumber else word_named word

-- the first token, and the text behind it
unfoldable pub first_token : List ℕ → Token × List ℕ
first_token text =
    if letters text == 0 then sign_at text else (word_token (take (letters text) text), drop (letters text) text)

-- the tokens of a text of so many bytes at most: spaces are passed over
unfoldable pub tokens_within : ℕ → List ℕ → List Token
tokens_within zero text = []
tokens_within (suc most) [] = []
tokens_within (suc most) (byte ∷ bytes) =
    if byte == 32 then tokens_within most bytes
    else (first_token (byte ∷ bytes)).0 ∷ tokens_within most (first_token (byte ∷ bytes)).1

-- the tokens of a text
unfoldable pub tokens_of : List ℕ → List Token
tokens_of text = tokens_within (length text) text
