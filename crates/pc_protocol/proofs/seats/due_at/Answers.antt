use Rattle.std.proofs.Common.{rules, ◌≡◌, ◌<◌, length, refl, sym, subst, arith}
use Rattle.pc_protocol.specs.Seats.{IsDue}
use Rattle.pc_protocol.specs.declared.seats.Due.TheVariants as due
use Rattle.pc_protocol.proofs.Seated.{low_choice, no_more, seat_at}
use Rattle.pc_protocol.proofs.seats.due_at.Goals as goal

pub returns-in-Begins-clause-due : goal.returns-in-Begins-clause-due
returns-in-Begins-clause-due c =
    let seat = c.index-seats-place.result in
    (seat, seat_at c.args.seats.now c.args.place seat seat (omega arith) c.index-seats-place.is, subst (λ s. IsDue s due.Look) (sym c.in-Begins.is) tt)

pub returns-then-is_empty-clause-due : goal.returns-then-is_empty-clause-due
returns-then-is_empty-clause-due c =
    let seat = c.index-seats-place.result in
    let empty : length c.in-Puts.left.items ≡ 0 = search rules in
    let none = no_more c.in-Puts.left.items empty in
    (seat, seat_at c.args.seats.now c.args.place seat seat (omega arith) c.index-seats-place.is, subst (λ s. IsDue s (due.Act c.in-Puts.aseq)) (sym c.in-Puts.is) (refl, none))

pub returns-else-is_empty-clause-due : goal.returns-else-is_empty-clause-due
returns-else-is_empty-clause-due c =
    let seat = c.index-seats-place.result in
    let some : 0 < length c.in-Puts.left.items = search rules in
    (seat, seat_at c.args.seats.now c.args.place seat seat (omega arith) c.index-seats-place.is, subst (λ s. IsDue s due.Put) (sym c.in-Puts.is) some)

pub returns-in-Waits-clause-due : goal.returns-in-Waits-clause-due
returns-in-Waits-clause-due c =
    let seat = c.index-seats-place.result in
    (seat, seat_at c.args.seats.now c.args.place seat seat (omega arith) c.index-seats-place.is, subst (λ s. IsDue s due.Take) (sym c.in-Waits.is) tt)

pub returns-in-Begins-clause-low : goal.returns-in-Begins-clause-low
returns-in-Begins-clause-low c =
    let seat = c.index-seats-place.result in
    low_choice c.args.seats.now c.args.place c.args.choice seat c.choices.result (seat_at c.args.seats.now c.args.place seat seat (omega arith) c.index-seats-place.is) c.choices.ensures c.if-choices-choice.false

pub returns-then-is_empty-clause-low : goal.returns-then-is_empty-clause-low
returns-then-is_empty-clause-low c =
    let seat = c.index-seats-place.result in
    low_choice c.args.seats.now c.args.place c.args.choice seat c.choices.result (seat_at c.args.seats.now c.args.place seat seat (omega arith) c.index-seats-place.is) c.choices.ensures c.if-choices-choice.false

pub returns-else-is_empty-clause-low : goal.returns-else-is_empty-clause-low
returns-else-is_empty-clause-low c =
    let seat = c.index-seats-place.result in
    low_choice c.args.seats.now c.args.place c.args.choice seat c.choices.result (seat_at c.args.seats.now c.args.place seat seat (omega arith) c.index-seats-place.is) c.choices.ensures c.if-choices-choice.false

pub returns-in-Waits-clause-low : goal.returns-in-Waits-clause-low
returns-in-Waits-clause-low c =
    let seat = c.index-seats-place.result in
    low_choice c.args.seats.now c.args.place c.args.choice seat c.choices.result (seat_at c.args.seats.now c.args.place seat seat (omega arith) c.index-seats-place.is) c.choices.ensures c.if-choices-choice.false
