-- A text that comes in pieces.
use Rattle.std.specs.Prelude.{◌≡◌, ◌==◌, ◌+◌, ◌<◌, ℕ, Bool, true, false, List, [], ◌∷◌, ◌++◌, All, length, take}
use Rattle.std.specs.Str.Lines.{strip_carriage_return}
use Rattle.pc_script.specs.Text.{lines}
use Rattle.pc_script.specs.declared.piece.Piece.{Piece}
use Rattle.pc_script.specs.declared.session.TheConstants.{MOST_LINE}

-- no byte of it is a line feed
abbrev pub IsUnbroken : List ℕ → Type 0
IsUnbroken text = All (λ b. (b == 10) ≡ false) text

-- a text begins with this line, which a line feed ends, and this is the text after it
abbrev pub IsFirstLine : (text line rest : List ℕ) → Type 0
IsFirstLine text line rest =
    (front : List ℕ) × IsUnbroken front × (text ≡ front ++ 10 ∷ rest) × (line ≡ strip_carriage_return front)

-- whatever comes behind a text, its lines are these and those of the rest
abbrev pub IsCut : (text : List ℕ) → List (List ℕ) → (rest : List ℕ) → Type 0
IsCut text taken rest = (more : List ℕ) → lines (text ++ more) ≡ taken ++ lines (rest ++ more)

-- what was passed over of a line that is too long, of which no byte is kept; nothing where no line is passed over
abbrev pub IsPassed : Bool → List ℕ → Type 0
IsPassed false passed = passed ≡ []
IsPassed true passed = IsUnbroken passed × (MOST_LINE + 1 < length passed)

-- the bytes of a piece
abbrev pub bytes_of : Piece → List ℕ
bytes_of piece = take piece.len piece.bytes
