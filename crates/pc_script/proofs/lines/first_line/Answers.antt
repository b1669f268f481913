use Rattle.pc_script.proofs.Pieces.{lines_of_first, lines_one}
use Rattle.pc_script.proofs.lines.first_line.Goals as goal

pub returns-in-Some : goal.returns-in-Some
returns-in-Some c = lines_of_first _ _ _ c.in-Some.ensures

pub returns-in-None : goal.returns-in-None
returns-in-None c = rw c.without_carriage_return.ensures (lines_one c.args.text.now c.in-None.ensures)
