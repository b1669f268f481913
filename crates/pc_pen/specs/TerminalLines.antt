-- A line of a terminal that is written again and again.
use Rattle.std.specs.Prelude.{ℕ, List, ◌∷◌, ◌++◌, codes}

-- a text in the place of what a terminal's line has: back to the line's start, the text, and what is left of the
-- line erased
abbrev pub in_place : List ℕ → List ℕ
in_place text = 13 ∷ (text ++ 27 ∷ codes "[K")
