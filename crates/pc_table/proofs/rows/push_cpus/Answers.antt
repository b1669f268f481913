use Rattle.std.proofs.Common.{arith}
use Rattle.std.proofs.lemmas.Grind.{common_steps}
use Rattle.pc_table.proofs.Lists.{over_more}
use Rattle.pc_table.proofs.rows.push_cpus.Goals as goal

pub loop-cpu-preserved : goal.loop-cpu-preserved
loop-cpu-preserved c = grind (arith, common_steps, over_more)
