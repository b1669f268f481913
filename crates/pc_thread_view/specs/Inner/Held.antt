-- What a thread view tells, from what it holds.
use Rattle.pc_thread_view.specs.Told.{Told}
use Rattle.pc_thread_view.specs.declared.held.Held.{Held}

abbrev pub told : Held → Told
told held = record { upto = held.prefix.upto; state = held.prefix.state; early = held.early.items }
