use Rattle.std.proofs.Common.{◌∷◌, decimal, take}
use Rattle.std.specs.List.{flat_map}
use Rattle.std.specs.Fmt.{HasWritten, IsPlainFormatter}
use Rattle.pc_script.proofs.display.EarlyNumbersDisplay.fmt.Given as goal

abbrev pub invariant-loop-number : goal.invariant-loop-number
invariant-loop-number g l =
    IsPlainFormatter l.initial.f → HasWritten g.W.Write.write_str_gives l.initial.f (flat_map (λ number. 32 ∷ decimal number) (take l.number-index l.others)) l.f
