use Rattle.std.proofs.Common.{arith}
use Rattle.pc_program.proofs.tally.Tally.with_unreported.Goals as goal

pub returns-in-Driver-clause-adds_up : goal.returns-in-Driver-clause-adds_up
returns-in-Driver-clause-adds_up c = omega (arith, c.requires.adds_up, c.with_one-in-Driver.ensures.counts)

pub returns-in-GaveUp-clause-adds_up : goal.returns-in-GaveUp-clause-adds_up
returns-in-GaveUp-clause-adds_up c = omega (arith, c.requires.adds_up, c.with_one-in-GaveUp.ensures.counts)

pub returns-in-Unaccounted-clause-adds_up : goal.returns-in-Unaccounted-clause-adds_up
returns-in-Unaccounted-clause-adds_up c =
    omega (arith, c.requires.adds_up, c.with_one-in-Unaccounted.ensures.counts)

pub returns-in-Stalled-clause-adds_up : goal.returns-in-Stalled-clause-adds_up
returns-in-Stalled-clause-adds_up c = omega (arith, c.requires.adds_up, c.with_one-in-Stalled.ensures.counts)
