use Rattle.pc_world.proofs.Mends.{can_mend, mended_reached}
use Rattle.pc_world.proofs.laws.every_cpu_can_be_mended.Goals as goal

pub returns-clause-can : goal.returns-clause-can
returns-clause-can c limits w cpu reached = can_mend c.kernel_laws.ensures c.every_event_has_a_step.ensures c.a_waiting_thread_can_be_run.ensures limits w cpu reached

pub returns-clause-reached : goal.returns-clause-reached
returns-clause-reached c = mended_reached
