use Rattle.pc_protocol.proofs.Driving.{all_dead, goes_onward}
use Rattle.pc_protocol.proofs.rest_is_done.Goals as goal

pub returns-clause-done : goal.returns-clause-done
returns-clause-done c rules limits plans r lives takes driven still t low =
    all_dead c.kernel_laws.ensures rules limits plans lives r driven c.upto_is_the_greatest.ensures takes still t low

pub returns-clause-on : goal.returns-clause-on
returns-clause-on c rules limits plans r lives driven =
    goes_onward c.kernel_laws.ensures rules limits plans lives r driven c.every_event_has_a_step.ensures
