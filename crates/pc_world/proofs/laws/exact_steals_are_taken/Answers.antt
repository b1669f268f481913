use Rattle.pc_world.proofs.Taken.{exact_taken}
use Rattle.pc_world.proofs.laws.exact_steals_are_taken.Goals as goal

pub returns : goal.returns
returns c w cpu t exact there found quiet = exact_taken c.reads_are_plain.ensures w cpu t exact there found quiet
