use Rattle.pc_threads.proofs.Lives.{lives_end}
use Rattle.pc_threads.proofs.settings.plans.lives_end_in_death.Goals as goal

pub returns : goal.returns
returns c = lives_end
