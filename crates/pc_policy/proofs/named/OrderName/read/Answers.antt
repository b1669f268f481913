use Rattle.std.proofs.Common.{rules, ◌≡◌, drop}
use Rattle.pc_policy.proofs.Expressions.{no_order, no_rank}
use Rattle.pc_policy.proofs.named.OrderName.read.Goals as goal

pub returns-in-Err-clause-err : goal.returns-in-Err-clause-err
returns-in-Err-clause-err c = λ any.
    let behind : c.in-Some-strip_prefix.rest.now ≡ drop 5 c.args.text.now = c.in-Some-strip_prefix.ensures.cases.1 in
    no_order c.args.text.now any c.in_default.ensures.order
    (no_rank c.args.text.now c.in-Some-strip_prefix.rest.now c.in-Err.fault c.in-Err.ensures.complete behind)
