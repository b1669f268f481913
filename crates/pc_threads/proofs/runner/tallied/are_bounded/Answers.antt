-- The greatest counts of a list of calls, which is no longer than a list can be.
use Rattle.std.proofs.Common.{length, ap, subst, arith}
use Rattle.pc_kernel.specs.Sound.{IsSound}
use Rattle.pc_threads.proofs.Bounded.{committed_few, consumed_few, taken_over_few}
use Rattle.pc_threads.proofs.runner.tallied.are_bounded.Goals as goal

pub returns-clause-committed : goal.returns-clause-committed
returns-clause-committed c =
    let few = committed_few c.args.book.now.calls in
    let same = ap length c.calls-listed.ensures in
    omega (arith, few, same, c.calls-listed.type_inv)

pub returns-clause-taken_over : goal.returns-clause-taken_over
returns-clause-taken_over c =
    let few = taken_over_few c.args.book.now.calls in
    let same = ap length c.calls-listed.ensures in
    omega (arith, few, same, c.calls-listed.type_inv)

pub returns-clause-consumed : goal.returns-clause-consumed
returns-clause-consumed c =
    let few = consumed_few c.args.book.now (subst IsSound c.kernel.ensures c.is_sound.ensures) c.is_replay.ensures in
    omega (arith, few)
