use Rattle.pc_lab.proofs.Stepping.{commits_take_the_first, moments_go_on, moments_reach}
use Rattle.pc_lab.proofs.laws.runs_are_of_the_world.Goals as goal

pub returns-clause-steps : goal.returns-clause-steps
returns-clause-steps c = moments_go_on

pub returns-clause-reached : goal.returns-clause-reached
returns-clause-reached c = moments_reach

pub returns-clause-commits : goal.returns-clause-commits
returns-clause-commits c = commits_take_the_first
