use Rattle.pc_kernel.proofs.AlwaysEvery.{always_kept}
use Rattle.pc_kernel.proofs.laws.threads_are_placed.Goals as goal

pub returns : goal.returns
returns c limits calls cpu t = (always_kept limits calls).placed cpu t
