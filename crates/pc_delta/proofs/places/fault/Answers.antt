use Rattle.std.proofs.Common.{sym, ap, ◌∙◌}
use Rattle.pc_delta.specs.Faults.{fault_of}
use Rattle.pc_delta.proofs.places.fault.Goals as goal

pub returns-in-Folded : goal.returns-in-Folded
returns-in-Folded c = c.fault_of_folded.ensures c.in-Folded.thread ∙ ap fault_of (sym c.in-Folded.is)
