-- A machine has a seat for each CPU.
use Rattle.std.specs.Prelude.{◌≡◌, List, length}
use Rattle.pc_world.specs.PlainWorld.{PlainWorld}
use Rattle.pc_world.specs.Shows.{ShowsWorld, World}
use Rattle.pc_protocol.specs.declared.seats.Seat.{Seat}

-- there are as many seats as CPUs
abbrev pub IsManned : World → List Seat → Type 0
IsManned world seats = (w : PlainWorld) → ShowsWorld world w → length seats ≡ w.kernel.limits.cpus
