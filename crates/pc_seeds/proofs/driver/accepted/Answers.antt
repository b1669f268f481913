use Rattle.pc_seeds.proofs.Driving.{is_accepted}
use Rattle.pc_seeds.proofs.driver.accepted.Goals as goal

pub returns-in-Posted-clause-accepts : goal.returns-in-Posted-clause-accepts
returns-in-Posted-clause-accepts c = is_accepted c.args.call c.args.machine c.in-Ok.machine c.in-Ok.reply c.in-Posted.field-0 c.in-Ok.ensures c.in-Posted.is
