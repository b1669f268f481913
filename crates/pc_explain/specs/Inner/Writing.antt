-- What is written with comments between its lines.
use Rattle.std.specs.Prelude.{ℕ, List, Option}
use Rattle.std.specs.Io.KnownBytes.{Appends}
use Rattle.pc_explain.specs.Inner.Annotated.{IsAnnotated}

-- a text was written, with comments between its lines
abbrev pub Annotates : List ℕ → Option (List ℕ) → Option (List ℕ) → Type 0
Annotates plain before after = (written : List ℕ) × IsAnnotated plain written × Appends before after written
