use Rattle.pc_kernel.proofs.Posts.{goes_on, eats}
use Rattle.pc_kernel.proofs.laws.queues_go_on.Goals as goal

pub returns-clause-items : goal.returns-clause-items
returns-clause-items c P call q = goes_on P call q

pub returns-clause-eaten : goal.returns-clause-eaten
returns-clause-eaten c P call q = eats P call q
