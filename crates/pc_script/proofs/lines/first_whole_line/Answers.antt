use Rattle.std.proofs.Common.{arith, ◌-◌, ◌+◌, length, drop, take, length-drop}
use Rattle.std.proofs.lemmas.List.{take_all}
use Rattle.pc_script.proofs.Splits.{no_byte}
use Rattle.pc_script.proofs.Pieces.{split_at, unbroken_front}
use Rattle.pc_script.proofs.lines.first_whole_line.Goals as goal

pub returns : goal.returns
returns c =
    let text = c.args.text.now in
    let end = c.in_ok-end.end in
    let found = c.in_ok-end.ensures in
    let rest = take_all (length text - (end + 1)) (drop (end + 1) text) (omega (arith, length-drop (end + 1) text)) in
    rw rest
    (take end text, unbroken_front text end found.0.high (no_byte 10 text end (omega (arith, found.0.high)) found.0.before), split_at text end found.0.high found.1, c.without_carriage_return.ensures)
