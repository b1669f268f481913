use Rattle.std.proofs.Common.{length}
use Rattle.pc_join.proofs.Apart.{append_at, append_after, refilled}
use Rattle.pc_join.proofs.numbers.append.Goals as goal

pub returns-then-last-from-clause-ok : goal.returns-then-last-from-clause-ok
returns-then-last-from-clause-ok c =
    let items = c.args.ranges.now.items in
    rw c.in_ok-push-2.ensures.ok (append_after items c.in-Some.front.now c.in-Some.last.now c.args.from c.args.to (rw c.as_slice.ensures at c.in-Some.ensures.cases.0) c.requires.apart c.requires.starts c.requires.some c.if-last-from.true)

pub returns-clause-ok : goal.returns-clause-ok
returns-clause-ok c =
    let items = c.args.ranges.now.items in
    rw (refilled items c.as_mut_slice.result.now (length c.in-Some.front.now) (c.in-Some.last.now.0, c.max.result) c.as_mut_slice.ensures.value, c.max.ensures)
    (append_at items c.in-Some.front.now c.in-Some.last.now c.args.from c.args.to (rw c.as_slice.ensures at c.in-Some.ensures.cases.0) c.requires.apart c.requires.starts c.requires.some c.if-last-from.false)
