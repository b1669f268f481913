use Rattle.std.proofs.Common.{◌∷◌, decimal, take}
use Rattle.std.specs.List.{flat_map}
use Rattle.std.specs.Io.KnownBytes.{Appends}
use Rattle.pc_script.specs.Inner.Outputs.{output_held}
use Rattle.pc_script.proofs.output.Output.put_numbers.Given as goal

-- the numbers so far stand behind what the first left
abbrev pub invariant-loop-number : goal.invariant-loop-number
invariant-loop-number g l =
    Appends (output_held (g.W.Write.contents l.initial.writer) l.initial.self) (output_held (g.W.Write.contents l.writer) l.self)
    (flat_map (λ number. 32 ∷ decimal number) (take l.number-index l.others))
