use Rattle.std.proofs.Common.{◌∙◌, ◌+◌, [], length, refl, ap, subst, sym, arith}
use Rattle.pc_protocol.specs.Protocol.{begins}
use Rattle.pc_protocol.specs.Seats.{AreSeats}
use Rattle.pc_protocol.specs.declared.seats.Seat.{Seat}
use Rattle.pc_protocol.specs.declared.seats.Stage.TheVariants as kept_stage
use Rattle.pc_protocol.proofs.Seated.{length_more, seats_more, seats_none}
use Rattle.pc_protocol.proofs.seats.new_seats.Goals as goal

pub loop-init : goal.loop-init
loop-init c = (ap length c.in_ok-seats.ensures.items, seats_none c.in_ok-seats.seats.items c.in_ok-seats.ensures.items)

pub loop-preserved : goal.loop-preserved
loop-preserved c =
    let seats = c.loop.seats.items in
    let more : Seat = record { stage = kept_stage.Begins; mail = c.new.result; notes = c.new-in-loop.result } in
    let grown = c.in_ok-push.ensures.items in (
      ap length grown ∙ length_more seats more ∙ ap (λ n. n + 1) c.loop.invariant.0,
      subst (λ l. AreSeats l (λ c. begins) (λ c. []) (λ c. [])) (sym grown) (seats_more seats more refl c.new.ensures.items c.new-in-loop.ensures.items c.loop.invariant.1),
    )

pub returns-clause-count : goal.returns-clause-count
returns-clause-count c =
    let past = c.loop-test.false in
    let within = c.loop.auto.counter-end in
    let same = c.loop.invariant.0 in
    omega arith

pub returns-clause-start : goal.returns-clause-start
returns-clause-start c = c.loop.invariant.1
