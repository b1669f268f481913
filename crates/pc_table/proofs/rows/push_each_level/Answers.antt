use Rattle.std.proofs.Common.{arith}
use Rattle.std.proofs.lemmas.Grind.{common_steps}
use Rattle.pc_table.proofs.Lists.{kept_next}
use Rattle.pc_table.proofs.rows.push_each_level.Goals as goal

pub loop-level-preserved : goal.loop-level-preserved
loop-level-preserved c = grind (arith, common_steps, kept_next)
