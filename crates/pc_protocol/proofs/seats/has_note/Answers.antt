use Rattle.std.proofs.Common.{◌≡◌, Some, slice_get, subst}
use Rattle.pc_protocol.proofs.Seated.{seat_at}
use Rattle.pc_protocol.proofs.seats.has_note.Goals as goal

pub returns : goal.returns
returns c e =
    let seat = c.index-seats-place.result in
    let low = c.if-place-seats.false in
    (seat, subst (λ d. slice_get c.args.seats.now d ≡ Some seat) c.index-place.ensures (seat_at c.args.seats.now c.index-place.result seat seat low c.index-seats-place.is), c.has_note.ensures e)
