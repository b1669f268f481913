use Rattle.std.proofs.Common.{◌≡◌, [], length}
use Rattle.pc_protocol.specs.Protocol.{begins}
use Rattle.pc_protocol.specs.Seats.{AreSeats}
use Rattle.pc_protocol.proofs.seats.new_seats.Given as goal

abbrev pub invariant-loop : goal.invariant-loop
invariant-loop l = (length l.seats.items ≡ l.counter) × AreSeats l.seats.items (λ c. begins) (λ c. []) (λ c. [])
