use Rattle.pc_world.proofs.Exactly.{exact_commit, exact_pick}
use Rattle.pc_world.proofs.laws.commits_are_exact.Goals as goal

pub returns-clause-commits : goal.returns-clause-commits
returns-clause-commits c w new cpu t n step = exact_commit c.kernel_laws.ensures w new cpu t n step

pub returns-clause-picks : goal.returns-clause-picks
returns-clause-picks c w new cpu t n step = exact_pick c.kernel_laws.ensures w new cpu t n step
