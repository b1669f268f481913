use Rattle.pc_session.proofs.GoingOn.{sessions_go_on}
use Rattle.pc_session.proofs.laws.sessions_go_on.Goals as goal

pub returns : goal.returns
returns c =
    let mends = c.every_cpu_can_be_mended.ensures in
    sessions_go_on c.every_event_has_a_step.ensures c.kernel_facts_hold.ensures.begun mends.can mends.reached c.upto_is_the_greatest.ensures
