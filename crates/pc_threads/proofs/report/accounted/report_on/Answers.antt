use Rattle.std.proofs.Common.{arith, rules}
use Rattle.pc_threads.proofs.Steps.{messages_few}
use Rattle.pc_threads.proofs.report.accounted.report_on.Goals as goal

pub report_of-requires-clause-counted : goal.report_of-requires-clause-counted
report_of-requires-clause-counted c =
    let accounted = c.is_accounted_for.ensures.0 (search rules) in
    let few = messages_few c.args.config.now c.is_sound.ensures in
    omega (arith, accounted.lists.messages, few)
