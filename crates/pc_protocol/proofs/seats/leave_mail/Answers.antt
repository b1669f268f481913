use Rattle.std.proofs.Common.{◌<◌, length, set, subst, arith}
use Rattle.pc_protocol.specs.Seats.{LeavesMail}
use Rattle.pc_protocol.proofs.Seated.{mail_is_left, no_mailbox, seat_at}
use Rattle.pc_protocol.proofs.seats.leave_mail.Goals as goal

pub returns-in_ok-push-clause-leaves : goal.returns-in_ok-push-clause-leaves
returns-in_ok-push-clause-leaves c =
    let seats = c.args.seats.now.items in
    let seat = c.index_mut.result.now in
    let below = c.if-place-len.true in
    let many = c.len.ensures in
    let ok = c.args.seats.now.ok in
    let low : c.index-place.result < length seats = omega arith in
    subst (λ d. LeavesMail d c.args.delta seats (set seats c.index-place.result (record seat { mail = c.push.new.self }))) c.index-place.ensures
    (mail_is_left seats c.index-place.result seat low (seat_at seats c.index-place.result seat seat low c.index_mut.ensures.value) c.push.new.self c.args.delta c.in_ok-push.ensures.items)

pub returns-else-place-len-clause-leaves : goal.returns-else-place-len-clause-leaves
returns-else-place-len-clause-leaves c =
    let above = c.if-place-len.false in
    let many = c.len.ensures in
    let ok = c.args.seats.now.ok in
    no_mailbox c.args.seats.now.items c.args.cpu c.args.delta (omega arith)
