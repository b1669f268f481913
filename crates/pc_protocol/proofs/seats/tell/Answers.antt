use Rattle.std.proofs.Common.{◌<◌, length, set, subst, arith}
use Rattle.pc_protocol.specs.Seats.{Tells}
use Rattle.pc_protocol.proofs.Seated.{is_told, nobody_told, seat_at}
use Rattle.pc_protocol.proofs.seats.tell.Goals as goal

pub returns-in_ok-push-clause-tells : goal.returns-in_ok-push-clause-tells
returns-in_ok-push-clause-tells c =
    let seats = c.args.seats.now.items in
    let seat = c.index_mut.result.now in
    let below = c.if-place-len.true in
    let many = c.len.ensures in
    let ok = c.args.seats.now.ok in
    let low : c.index-place.result < length seats = omega arith in
    subst (λ d. Tells d c.args.note seats (set seats c.index-place.result (record seat { notes = c.push.new.self }))) c.index-place.ensures
    (is_told seats c.index-place.result seat low (seat_at seats c.index-place.result seat seat low c.index_mut.ensures.value) c.push.new.self c.args.note c.in_ok-push.ensures.items)

pub returns-else-place-len-clause-tells : goal.returns-else-place-len-clause-tells
returns-else-place-len-clause-tells c =
    let above = c.if-place-len.false in
    let many = c.len.ensures in
    let ok = c.args.seats.now.ok in
    nobody_told c.args.seats.now.items c.args.cpu c.args.note (omega arith)
