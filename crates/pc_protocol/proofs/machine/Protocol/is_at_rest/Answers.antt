use Rattle.std.proofs.Common.{◌≡◌, ◌∙◌, Some, slice_get, sym, subst, arith}
use Rattle.std.proofs.lemmas.Option.{slice_get_within}
use Rattle.pc_protocol.proofs.Doing.{goes_on_so, none_more, rests_so}
use Rattle.pc_protocol.proofs.Seated.{seat_at}
use Rattle.pc_protocol.proofs.machine.Protocol.is_at_rest.Goals as goal

pub loop-seat-init : goal.loop-seat-init
loop-seat-init c d seat low there = absurd (omega arith)

pub loop-seat-preserved : goal.loop-seat-preserved
loop-seat-preserved c =
    none_more c.deref-seat-items.result.now c.loop-seat.seat-index c.seat-item.result c.loop-seat-test.true c.seat-item.is (sym c.choices.ensures ∙ c.if-choices-ne0.false) c.loop-seat.invariant

pub returns-then-choices-ne0 : goal.returns-then-choices-ne0
returns-then-choices-ne0 c =
    let seats = c.deref-seat-items.result.now in
    goes_on_so c.args.self.now c.loop-seat.seat-index c.seat-item.result c.args.self.now.manned
    (subst (λ l. slice_get l c.loop-seat.seat-index ≡ Some c.seat-item.result) c.deref-seat-items.ensures.value (seat_at seats c.loop-seat.seat-index c.seat-item.result c.seat-item.result c.loop-seat-test.true c.seat-item.is))
    (λ none. c.if-choices-ne0.true (c.choices.ensures ∙ none))

pub returns : goal.returns
returns c =
    let seats = c.deref-seat-items.result.now in
    let past = c.loop-seat-test.false in
    rests_so c.args.self.now c.args.self.now.manned
    (λ d seat there.
    let here : slice_get seats d ≡ Some seat = subst (λ l. slice_get l d ≡ Some seat) (sym c.deref-seat-items.ensures.value) there in
    let inside = slice_get_within seats d seat here in
    c.loop-seat.invariant d seat (omega arith) here)
