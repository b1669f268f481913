-- Comments of a text: its lines whose first byte is `#`.
use Rattle.std.specs.Prelude.{◌≡◌, ◌==◌, ℕ, Bool, true, false, List, [], ◌∷◌, All, filter, not}
use Rattle.std.specs.List.{join_with_byte, slice_split}
use Rattle.pc_pen.specs.Escapes.{IsPrinted}

-- whether a line is a comment: its first byte is `#`
abbrev pub is_comment : List ℕ → Bool
is_comment [] = false
is_comment (first ∷ others) = first == 35

-- the text without its comments: of the parts between line feeds those that are none, with line feeds between
-- them again
abbrev pub without_comments : List ℕ → List ℕ
without_comments text =
    join_with_byte 10 (filter (λ line. not (is_comment line)) (slice_split (λ byte. byte == 10) text))

-- each comment of the text is printed ASCII
abbrev pub HasPrintedComments : List ℕ → Type 0
HasPrintedComments text =
    All (λ line. is_comment line ≡ true → IsPrinted line) (slice_split (λ byte. byte == 10) text)
