use Rattle.std.proofs.Common.{◌≡◌, ◌∙◌, ◌<◌, length, Some, slice_get, subst, arith}
use Rattle.pc_protocol.proofs.Doing.{has_mail}
use Rattle.pc_protocol.proofs.Seated.{seat_at}
use Rattle.pc_protocol.proofs.machine.Protocol.mail.Goals as goal

pub returns : goal.returns
returns c p h =
    let seats = c.args.self.now.seats.items in
    let seat = c.index.result.now in
    let below = c.if-place-len.false in
    let many = c.len.ensures in
    let ok = c.args.self.now.seats.ok in
    let low : c.index-place.result < length seats = omega arith in
    let stands = subst (λ d. slice_get seats d ≡ Some seat) c.index-place.ensures (seat_at seats c.index-place.result seat seat low c.index.ensures) in
    c.as_slice.ensures.value ∙ has_mail c.args.self.now c.args.cpu seat stands p h
