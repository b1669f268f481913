-- How bytes of a text are shown that may be of any kind: printed ASCII as it is, all others by their numbers.
use Rattle.std.specs.Prelude.{◌≡◌, ◌==◌, ℕ, Bool, true, List, [], ◌∷◌, ◌++◌, ◌&&◌, not, nat_lt, if◌then◌else◌, length}
use Rattle.std.specs.Prelude.{take, flat_map, codes}
use Rattle.std.specs.List.{list_all}
use Rattle.std.specs.Char.Escape.{backslash, hex_digit_at}

-- printed ASCII: a space, or what a terminal shows as one letter
abbrev pub is_printed : ℕ → Bool
is_printed byte = nat_lt 31 byte && nat_lt byte 127

-- a text of printed ASCII
abbrev pub IsPrinted : List ℕ → Type 0
IsPrinted text = list_all is_printed text ≡ true

-- what stands for itself where it is shown: printed ASCII, but for the backslash, by which all others are told
abbrev pub stands_for_itself : ℕ → Bool
stands_for_itself byte = is_printed byte && not (byte == backslash)

-- a byte as it is shown: as it is, or as `\x` and two hexadecimal digits
abbrev pub escaped_byte : ℕ → List ℕ
escaped_byte byte =
    if stands_for_itself byte then byte ∷ [] else (codes "\\x" ++ (hex_digit_at 16 byte ∷ hex_digit_at 1 byte ∷ []))

-- a text as it is shown
abbrev pub escaped : List ℕ → List ℕ
escaped text = flat_map escaped_byte text

-- a word as it is quoted: as it is shown, and `..` in the place of what goes beyond 40 bytes
abbrev pub quoted_word : List ℕ → List ℕ
quoted_word word = if nat_lt 40 (length word) then (escaped (take 40 word) ++ codes "..") else escaped word
