use Rattle.std.proofs.Common.{sym, arith}
use Rattle.pc_pen.proofs.Escapes.{hex_escaped}
use Rattle.pc_pen.proofs.escape.EscapedByteDisplay.fmt.Goals as goal

pub returns-else-stands_for_itself-clause-writes : goal.returns-else-stands_for_itself-clause-writes
returns-else-stands_for_itself-clause-writes g c = λ plain ok.
    let here = rw (c.laid_out.ensures, c.in_radix.ensures) at c.write.ensures.writes in
    rw (← hex_escaped c.args.self.now.0 (omega arith) (sym c.if-stands_for_itself.ensures)) (here plain ok)
