use Rattle.pc_kernel.proofs.AlwaysEvery.{always_kept}
use Rattle.pc_kernel.proofs.laws.queues_lose_only_what_was_posted.Goals as goal

pub returns : goal.returns
returns c limits calls q = (always_kept limits calls).eaten q
