use Rattle.std.proofs.Common.{◌≡◌, length}
use Rattle.pc_view.specs.Views.{pairs_of}
use Rattle.pc_protocol.specs.Seats.{AsksBelow}
use Rattle.pc_protocol.proofs.seats.ask_others.Given as goal

abbrev pub invariant-loop-place : goal.invariant-loop-place
invariant-loop-place l =
    (length l.seats.items ≡ length l.initial.seats.items) × AsksBelow l.place l.cpu (pairs_of l.view) l.initial.seats.items l.seats.items
