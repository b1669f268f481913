use Rattle.pc_protocol.proofs.Doing.{told_so, untold_so}
use Rattle.pc_protocol.proofs.steps.tell_unless.Goals as goal

pub returns-in_ok-tell-clause-told : goal.returns-in_ok-tell-clause-told
returns-in_ok-tell-clause-told c = told_so c.args.is_quiet c.args.cpu c.args.seats.now.items c.tell.new.seats.items c.if-not-is_quiet.true c.in_ok-tell.ensures.tells

pub returns-else-not-is_quiet-clause-told : goal.returns-else-not-is_quiet-clause-told
returns-else-not-is_quiet-clause-told c = untold_so c.args.is_quiet c.args.cpu c.args.seats.now.items c.if-not-is_quiet.false
