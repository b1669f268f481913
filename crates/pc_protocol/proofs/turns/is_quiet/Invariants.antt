use Rattle.std.proofs.Common.{◌≡◌, false, take}
use Rattle.std.specs.List.{list_any}
use Rattle.pc_delta.specs.Parts.{thread_of_part}
use Rattle.pc_protocol.specs.Turning.{offers_in}
use Rattle.pc_protocol.proofs.turns.is_quiet.Given as goal

abbrev pub invariant-loop-part : goal.invariant-loop-part
invariant-loop-part l = list_any (λ part. offers_in l.view (thread_of_part part) l.to) (take l.part-index l.part-items) ≡ false
