use Rattle.std.proofs.Common.{◌≡◌, drop}
use Rattle.pc_delta.specs.Faults.{first_fault}
use Rattle.pc_delta.proofs.places.first_fault_of.Given as goal

abbrev pub invariant-loop-part : goal.invariant-loop-part
invariant-loop-part l = first_fault l.parts ≡ first_fault (drop l.part-index l.parts)
