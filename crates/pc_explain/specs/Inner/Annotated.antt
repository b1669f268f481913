-- A text with comments put between its lines.
use Rattle.std.specs.Prelude.{◌≡◌, ◌==◌, ℕ, List, [], ◌∷◌, ◌++◌, true, false, not}
use Rattle.std.specs.List.{list_all}
use Rattle.pc_explain.specs.Comments.{is_comment}
use Rattle.pc_pen.specs.Escapes.{IsPrinted}

-- a line has no line feed
abbrev pub HasNoLineFeed : List ℕ → Type 0
HasNoLineFeed line = list_all (λ byte. not (byte == 10)) line ≡ true

-- A text of whole lines, none of which is a comment, and the same text with comments between its lines, each of
-- printed ASCII
pub data IsAnnotated : List ℕ → List ℕ → Type 0 where
  at_end : IsAnnotated [] []
  told : {plain written : List ℕ} (line : List ℕ) → HasNoLineFeed line → is_comment line ≡ false
      → IsAnnotated plain written → IsAnnotated (line ++ 10 ∷ plain) (line ++ 10 ∷ written)
  comment : {plain written : List ℕ} (line : List ℕ) → IsPrinted line
      → IsAnnotated plain written → IsAnnotated plain (35 ∷ line ++ 10 ∷ written)
