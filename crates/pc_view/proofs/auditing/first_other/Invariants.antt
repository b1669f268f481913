use Rattle.std.proofs.Common.{All, take}
use Rattle.pc_thread_view.specs.Histories.{Has}
use Rattle.pc_view.proofs.auditing.first_other.Given as goal

abbrev pub invariant-loop-message : goal.invariant-loop-message
invariant-loop-message l = All (Has l.history) (take l.message-index l.early)
