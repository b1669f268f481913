use Rattle.std.proofs.Common.{arith}
use Rattle.pc_script.proofs.words.Words.byte.Goals as goal

pub returns-in-Some : goal.returns-in-Some
returns-in-Some c = (omega (arith, c.in-Some.ensures.0), c.in-Some.ensures.1)

pub returns-in-None : goal.returns-in-None
returns-in-None c = rw c.in-None.ensures at c.any_byte.ensures
