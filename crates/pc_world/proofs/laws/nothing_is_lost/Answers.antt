use Rattle.pc_world.proofs.Reaching.{all_complete, none_lost, reached_good, counted_sent, counted_short}
use Rattle.pc_world.proofs.laws.nothing_is_lost.Goals as goal

pub returns-clause-all : goal.returns-clause-all
returns-clause-all c limits w t n reached = none_lost c.kernel_laws.ensures limits w (reached_good c.kernel_laws.ensures limits w reached) t n

pub returns-clause-counted : goal.returns-clause-counted
returns-clause-counted c limits w cpu t n reached = counted_sent c.kernel_laws.ensures limits w (reached_good c.kernel_laws.ensures limits w reached) cpu t n

pub returns-clause-short : goal.returns-clause-short
returns-clause-short c limits w cpu reached = counted_short c.kernel_laws.ensures limits w (reached_good c.kernel_laws.ensures limits w reached) cpu

pub returns-clause-complete : goal.returns-clause-complete
returns-clause-complete c limits w set t reached =
    all_complete c.kernel_laws.ensures limits w (reached_good c.kernel_laws.ensures limits w reached) c.upto_is_the_greatest.ensures set t
