-- What is plainly written of a session.
use Rattle.std.specs.Prelude.{ℕ, Bool, true, false, List}
use Rattle.pc_explain.specs.Comments.{without_comments}

-- an explanation without its comments; without an explanation all that was written
abbrev pub plain_by : Bool → List ℕ → List ℕ
plain_by true written = without_comments written
plain_by false written = written
