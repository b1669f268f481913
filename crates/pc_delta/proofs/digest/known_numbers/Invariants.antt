use Rattle.pc_delta.proofs.Gathering.{IsGatheringFrom}
use Rattle.pc_delta.proofs.digest.known_numbers.Given as goal

abbrev pub invariant-loop-entry : goal.invariant-loop-entry
invariant-loop-entry l = IsGatheringFrom l.held l.entry-items l.entry-index l.numbers
