use Rattle.std.proofs.Common.{◌^◌, lit≤}
use Rattle.pc_script.specs.Inner.Taking.{words_left}
use Rattle.pc_script.proofs.Taking.{narrow, no_narrow, one_decimal}
use Rattle.pc_script.proofs.words.Words.any_byte.Goals as goal

pub returns-in_err-wide : goal.returns-in_err-wide
returns-in_err-wide c = rw c.from_residual.ensures (no_narrow (2 ^ 8) _ (words_left c.args.self.now) (words_left c.number.new.self) (lit≤ tt) c.in_err-wide.ensures)

pub returns : goal.returns
returns c = rw c.ok.ensures.value (narrow (2 ^ 8) c.in_ok-wide.wide _ _ _ c.try_from.result (lit≤ tt) one_decimal c.in_ok-wide.ensures c.try_from.ensures)
