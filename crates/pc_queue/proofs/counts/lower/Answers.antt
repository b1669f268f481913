use Rattle.std.proofs.Common.{rules, ◌-◌, arith}
use Rattle.pc_queue.proofs.Count.{lowered, removed}
use Rattle.pc_queue.proofs.counts.lower.Goals as goal

pub returns-in-Some : goal.returns-in-Some
returns-in-Some c =
    let less = c.in-Some.count.now - 1 in
    lowered c.args.held.now (c.get_mut.follows.lender less) c.args.thread c.in-Some.count.now c.if-get_mut-gt1.true (search rules) ((c.get_mut.follows.holds less).3 (search rules)).0

pub returns-in-Some-2 : goal.returns-in-Some-2
returns-in-Some-2 c =
    let seen = c.in-Some.count.now in
    removed c.args.held.now (c.get_mut.follows.lender seen) c.remove.new.self c.args.thread seen _ (λ more. omega arith) (search rules) ((c.get_mut.follows.holds seen).3 (search rules)).0 c.remove.ensures.updates.0
