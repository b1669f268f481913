-- The lines that an iterator over them has left.
use Rattle.std.specs.Prelude.{ℕ, List, [], Option, Some, None}
use Rattle.std.specs.Borrow.{Bor}
use Rattle.pc_script.specs.Text.{lines}
use Rattle.pc_script.specs.declared.lines.Lines.{Lines}

-- the lines of the text after a line, or none after the last
abbrev pub lines_of_rest : Option (Bor (List ℕ)) → List (List ℕ)
lines_of_rest None = []
lines_of_rest (Some text) = lines text.now

-- the lines that are left
abbrev pub lines_left : Lines → List (List ℕ)
lines_left state = lines_of_rest state.rest
