-- What a row of a tally is behind one more run.
use Rattle.std.specs.Prelude.{ℕ, ◌+◌, List, Option, Some, None, unwrap_or, if◌then◌else◌}
use Rattle.pc_program.specs.Tallies.{is_named}
use Rattle.pc_program.specs.declared.tally.TallyRow.{TallyRow}
use Rattle.pc_program.specs.declared.tally.Unreported.{Unreported}

-- a row behind one more run that belongs there
abbrev pub one_more : Option TallyRow → Unreported → TallyRow
one_more None it = record { runs = 1; first = it }
one_more (Some row) it = record row { runs = row.runs + 1 }

-- the row of this name behind one more run
abbrev pub counted : List ℕ → Option TallyRow → Unreported → Option TallyRow
counted name row it = if is_named name it.why then Some (one_more row it) else row

-- the first run behind one more
abbrev pub first_counted : Option Unreported → Unreported → Option Unreported
first_counted first it = Some (unwrap_or first it)
