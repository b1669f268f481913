use Rattle.std.proofs.Common.{take}
use Rattle.std.specs.Fmt.{HasWritten, IsPlainFormatter}
use Rattle.pc_program.specs.ReportText.{refusals_rows_text}
use Rattle.pc_program.proofs.report.RefusalsRowsDisplay.fmt.Given as goal

abbrev pub invariant-loop-row : goal.invariant-loop-row
invariant-loop-row g l = IsPlainFormatter l.initial.f → HasWritten g.W.Write.write_str_gives l.initial.f (refusals_rows_text (take l.row-index l.row-items)) l.f
