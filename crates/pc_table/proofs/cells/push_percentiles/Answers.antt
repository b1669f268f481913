use Rattle.std.proofs.Common.{arith}
use Rattle.std.proofs.lemmas.Grind.{common_steps}
use Rattle.pc_table.proofs.Lists.{told_all, told_more}
use Rattle.pc_table.proofs.cells.push_percentiles.Goals as goal

pub loop-percent-preserved : goal.loop-percent-preserved
loop-percent-preserved c = grind (arith, common_steps, told_more)

pub returns : goal.returns
returns c = grind (arith, common_steps, told_all)
