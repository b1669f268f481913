use Rattle.std.proofs.Common.{arith}
use Rattle.std.proofs.lemmas.Grind.{common_steps}
use Rattle.pc_table.proofs.Lists.{kept_next}
use Rattle.pc_table.proofs.rows.push_each_refusal.Goals as goal

pub loop-what-preserved : goal.loop-what-preserved
loop-what-preserved c = grind (arith, common_steps, kept_next)
