use Rattle.std.proofs.Common.{◌^◌, lit≤}
use Rattle.pc_script.proofs.Numerals.{number_from_wide}
use Rattle.pc_script.proofs.digits.byte.Goals as goal

pub returns : goal.returns
returns c =
    rw c.ok.ensures.value
    (number_from_wide c.args.word.now (2 ^ 8) c.in_ok-wide.wide c.try_from.result (lit≤ tt) c.in_ok-wide.ensures.0 c.in_ok-wide.ensures.1 c.try_from.ensures)
