-- What an agent counts, and by how much each call raises it.
use Rattle.std.specs.Prelude.{ℕ, ◌+◌, min, Result, Ok, Err}
use Rattle.pc_calls.specs.declared.refusal.Refusal.{Refusal}
use Rattle.pc_calls.specs.declared.refusal.Refusal.TheVariants.{Stale, Pending, Busy, Dead}
use Rattle.pc_calls.specs.declared.refusal.Refusal.TheVariants.{NothingReady, NothingToSteal}
use Rattle.pc_calls.specs.declared.refusal.CallFault.{CallFault}
use Rattle.pc_calls.specs.declared.refusal.CallFault.TheVariants.{Refused, OutOfMemory}
use Rattle.pc_agent.specs.declared.counts.Counts.{Counts}
use Rattle.pc_agent.specs.declared.counts.TheConstants.{MOST_COUNTED}

-- a count after some more, which stays at its greatest value
abbrev pub raised : ℕ → ℕ → ℕ
raised count more = min (count + more) MOST_COUNTED

-- nothing counted
abbrev pub none_counted : Counts
none_counted =
    record {
      taken = 0;
      commits = 0;
      steals = 0;
      stale = 0;
      pending = 0;
      other = 0;
      busy = 0;
      nothing_ready = 0;
      nothing_to_steal = 0;
      dead = 0;
    }

-- one refusal of this name more, of those that are counted by name
abbrev pub named_counted : Refusal → Counts → Counts
named_counted Busy counts = record counts { busy = raised counts.busy 1 }
named_counted NothingReady counts = record counts { nothing_ready = raised counts.nothing_ready 1 }
named_counted NothingToSteal counts = record counts { nothing_to_steal = raised counts.nothing_to_steal 1 }
named_counted Dead counts = record counts { dead = raised counts.dead 1 }
named_counted refusal counts = counts

-- one refusal of a pick or a steal more
abbrev pub refusal_counted : Refusal → Counts → Counts
refusal_counted (Stale now) counts = record counts { stale = raised counts.stale 1 }
refusal_counted Pending counts = record counts { pending = raised counts.pending 1 }
refusal_counted refusal counts = named_counted refusal (record counts { other = raised counts.other 1 })

-- so many items were removed, or none
abbrev pub consume_counted : Result ℕ Refusal → Counts → Counts
consume_counted (Ok items) counts = record counts { taken = raised counts.taken items }
consume_counted (Err refusal) counts = counts

-- a thread was committed, or none
abbrev pub pick_counted : Result ℕ Refusal → Counts → Counts
pick_counted (Ok thread) counts = record counts { commits = raised counts.commits 1 }
pick_counted (Err refusal) counts = refusal_counted refusal counts

-- a thread was taken over, or none; want of memory is not counted
abbrev pub steal_counted : Result ℕ CallFault → Counts → Counts
steal_counted (Ok thread) counts = record counts { steals = raised counts.steals 1 }
steal_counted (Err (Refused refusal)) counts = refusal_counted refusal counts
steal_counted (Err OutOfMemory) counts = counts
