use Rattle.std.proofs.Common.{take}
use Rattle.std.specs.Io.KnownBytes.{Appends}
use Rattle.pc_script.specs.Inner.Outputs.{output_held}
use Rattle.pc_script.specs.Responses.{shown_lines}
use Rattle.pc_script.proofs.output.Output.put_view.Given as goal

-- the rows so far stand behind what there was
abbrev pub invariant-loop-shown : goal.invariant-loop-shown
invariant-loop-shown g l =
    Appends (output_held (g.W.Write.contents l.initial.writer) l.initial.self) (output_held (g.W.Write.contents l.writer) l.self)
    (shown_lines (take l.shown-index l.shown-items))
