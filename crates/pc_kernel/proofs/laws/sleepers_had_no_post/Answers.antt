use Rattle.pc_kernel.proofs.AlwaysEvery.{always_kept}
use Rattle.pc_kernel.proofs.laws.sleepers_had_no_post.Goals as goal

pub returns : goal.returns
returns c limits calls cpu = (always_kept limits calls).rested cpu
