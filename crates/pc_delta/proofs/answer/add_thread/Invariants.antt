use Rattle.std.specs.Option.{option_copied}
use Rattle.pc_join.specs.ByName.{known_in}
use Rattle.pc_delta.proofs.Useful.{IsTellingFrom}
use Rattle.pc_delta.proofs.answer.add_thread.Given as goal

abbrev pub invariant-loop-entry : goal.invariant-loop-entry
invariant-loop-entry g l = IsTellingFrom l.thread l.held (known_in g.K.Known.known (option_copied l.known)) l.fn.parts.items l.entry-items l.entry-index l.parts.items
