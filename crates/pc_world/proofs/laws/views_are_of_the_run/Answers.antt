use Rattle.pc_world.proofs.Reaching.{reached_good}
use Rattle.pc_world.proofs.laws.views_are_of_the_run.Goals as goal

pub returns-clause-known : goal.returns-clause-known
returns-clause-known c limits w cpu reached = (reached_good c.kernel_laws.ensures limits w reached).known cpu

pub returns-clause-sent : goal.returns-clause-sent
returns-clause-sent c limits w set reached = (reached_good c.kernel_laws.ensures limits w reached).sent set
