use Rattle.std.proofs.Common.{arith}
use Rattle.pc_protocol.proofs.Seated.{cpu_at, is_struck, no_put_left, seat_at}
use Rattle.pc_protocol.proofs.seats.put_next.Goals as goal

pub returns-then-choice-len-clause-strikes : goal.returns-then-choice-len-clause-strikes
returns-then-choice-len-clause-strikes c =
    let seats = c.args.seats.now.items in
    let seat = c.index_mut.result.now in
    let below = c.if-choice-len.true in
    let many = c.len.ensures in
    let ok = c.in-Puts.left.ok in
    is_struck seats c.args.place seat c.requires.low (seat_at seats c.args.place seat seat c.requires.low c.index_mut.ensures.value) c.in-Puts.aseq c.in-Puts.delta c.in-Puts.left c.remove-to.new.self
    c.args.choice c.remove-to.result c.in-Puts.is (cpu_at c.in-Puts.left.items c.args.choice c.remove-to.result c.remove-to.result (omega arith) c.remove-to.ensures.value) c.remove-to.ensures.by_index.2

pub returns-else-choice-len-clause-none : goal.returns-else-choice-len-clause-none
returns-else-choice-len-clause-none c =
    let above = c.if-choice-len.false in
    let many = c.len.ensures in
    let ok = c.in-Puts.left.ok in
    let seat = c.index_mut.result.now in
    no_put_left c.args.seats.now.items c.args.place seat c.in-Puts.aseq c.in-Puts.delta c.in-Puts.left c.args.choice
    (seat_at c.args.seats.now.items c.args.place seat seat c.requires.low c.index_mut.ensures.value) c.in-Puts.is c.requires.due (omega arith)
