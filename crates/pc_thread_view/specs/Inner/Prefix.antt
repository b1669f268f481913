-- What is seen of a folded prefix.
use Rattle.std.specs.Prelude.{ℕ, ◌==◌, cond, Option, Some, None}
use Rattle.pc_messages.specs.declared.reported.Reported.{Reported}

-- how many messages were folded, and the state that they report
pub record Folded : Type 0 where
  pub upto : ℕ
  pub state : Option Reported

-- the state of so many messages; none where there is none of them
abbrev pub state_at : ℕ → Reported → Option Reported
state_at upto reported = cond (upto == 0) None (Some reported)
