use Rattle.std.proofs.Common.{take}
use Rattle.std.specs.Fmt.{HasWritten, IsPlainFormatter}
use Rattle.pc_script.specs.Responses.{shown_lines}
use Rattle.pc_script.proofs.display.ShownThreadsDisplay.fmt.Given as goal

abbrev pub invariant-loop-shown : goal.invariant-loop-shown
invariant-loop-shown g l =
    IsPlainFormatter l.initial.f → HasWritten g.W.Write.write_str_gives l.initial.f (shown_lines (take l.shown-index l.shown-items)) l.f
