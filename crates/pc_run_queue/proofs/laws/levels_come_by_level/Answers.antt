use Rattle.pc_run_queue.proofs.Levels.{by_level_same}
use Rattle.pc_run_queue.proofs.laws.levels_come_by_level.Goals as goal

pub returns : goal.returns
returns c reported cpu old touched = by_level_same reported cpu old touched
