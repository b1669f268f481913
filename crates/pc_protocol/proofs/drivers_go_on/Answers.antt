use Rattle.pc_protocol.proofs.Among.{contains_among}
use Rattle.pc_protocol.proofs.Driving.{can_wake, has_deed}
use Rattle.pc_protocol.proofs.drivers_go_on.Goals as goal

pub returns-clause-deeds : goal.returns-clause-deeds
returns-clause-deeds c rules limits plans r cpu lives driven free told =
    has_deed c.kernel_laws.ensures rules limits plans lives r driven cpu (contains_among cpu r.told told) free

pub returns-clause-wakes : goal.returns-clause-wakes
returns-clause-wakes c r t was = can_wake r t was
