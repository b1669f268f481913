use Rattle.std.proofs.Common.{arith, ◌∙◌}
use Rattle.pc_script.proofs.Splits.{words-after_space}
use Rattle.pc_script.proofs.words.after_spaces.Goals as goal

pub loop-rest-preserved : goal.loop-rest-preserved
loop-rest-preserved c = words-after_space c.loop-rest.rest.now (omega (arith, c.in-32.len_at_least)) (cc) ∙ c.loop-rest.invariant
