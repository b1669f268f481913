use Rattle.std.proofs.Common.{◌≡◌, ◌<◌, length, sym, subst, arith}
use Rattle.pc_protocol.proofs.Seated.{note_at, note_is_taken, no_note_left, seat_at}
use Rattle.pc_protocol.proofs.seats.take_note.Goals as goal

pub returns-then-choice-len-clause-takes : goal.returns-then-choice-len-clause-takes
returns-then-choice-len-clause-takes c =
    let seats = c.args.seats.now.items in
    let seat = c.index_mut.result.now in
    let below = c.if-choice-len.true in
    let many = c.len.ensures in
    let ok = c.index.result.now.notes.ok in
    let one = seat_at seats c.args.place seat seat c.requires.low c.index_mut.ensures.value in
    let other = seat_at seats c.args.place c.index.result.now c.index.result.now c.requires.low c.index.ensures in
    let same : seat ≡ c.index.result.now = cc in
    let low : c.args.choice < length seat.notes.items = subst (λ s. c.args.choice < length s.notes.items) (sym same) (omega arith) in
    note_is_taken seats c.args.place seat c.requires.low one c.remove.new.self c.args.choice c.remove.result
    (note_at seat.notes.items c.args.choice c.remove.result c.remove.result low c.remove.ensures.value) c.remove.ensures.by_index.2

pub returns-else-choice-len-clause-none : goal.returns-else-choice-len-clause-none
returns-else-choice-len-clause-none c =
    let above = c.if-choice-len.false in
    let many = c.len.ensures in
    let ok = c.index.result.now.notes.ok in
    let seat = c.index.result.now in
    no_note_left c.args.seats.now.items c.args.place seat c.args.choice (seat_at c.args.seats.now.items c.args.place seat seat c.requires.low c.index.ensures) c.requires.due (omega arith)
