-- The lines and the words of a script's text. A text is a list of bytes.
use Rattle.std.specs.Prelude.{ℕ, List, ◌==◌, length, not, filter, map}
use Rattle.std.specs.List.{slice_split}
use Rattle.std.specs.Str.Lines.{strip_carriage_return}

-- the parts between line feeds, each without one carriage return at its end
unfoldable pub lines : List ℕ → List (List ℕ)
lines text = map strip_carriage_return (slice_split (λ b. b == 10) text)

-- the parts of a line between spaces that aren't empty
unfoldable pub words : List ℕ → List (List ℕ)
words line = filter (λ word. not (length word == 0)) (slice_split (λ b. b == 32) line)
