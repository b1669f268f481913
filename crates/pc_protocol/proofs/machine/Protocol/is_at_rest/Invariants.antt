use Rattle.std.proofs.Common.{ℕ, ◌≡◌, ◌<◌, Some, slice_get}
use Rattle.pc_protocol.specs.Seats.{choices_at}
use Rattle.pc_protocol.specs.declared.seats.Seat.{Seat}
use Rattle.pc_protocol.proofs.machine.Protocol.is_at_rest.Given as goal

abbrev pub invariant-loop-seat : goal.invariant-loop-seat
invariant-loop-seat l =
    (c : ℕ) (seat : Seat) → c < l.seat-index → slice_get l.seat-items c ≡ Some seat → choices_at seat ≡ 0
