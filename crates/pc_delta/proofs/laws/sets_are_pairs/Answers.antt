use Rattle.pc_delta.proofs.Pairs.{parts_pairs}
use Rattle.pc_delta.proofs.laws.sets_are_pairs.Goals as goal

pub returns : goal.returns
returns c = parts_pairs
