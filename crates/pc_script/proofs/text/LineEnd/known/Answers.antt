use Rattle.std.proofs.Common.{◌++◌, ◌∙◌, ap, arith, drop}
use Rattle.pc_script.proofs.Placing.{placed_behind}
use Rattle.pc_script.proofs.text.LineEnd.known.Goals as goal

pub returns-clause-written : goal.returns-clause-written
returns-clause-written c =
    let placed = c.put_known.ensures in
    let old = c.args.self.now in
    placed_behind (omega (arith, c.requires.fits, c.put_known.auto.bytes, placed.same_length)) placed
    ∙ ap (λ n. c.args.text.now ++ drop n old.bytes) (omega (arith, placed.moved, c.requires.fits))
