use Rattle.std.proofs.Common.{sym, true≢false}
use Rattle.pc_program.proofs.command_line.tally_of.Goals as goal

pub returns-then-not-are_seeds-clause-fault : goal.returns-then-not-are_seeds-clause-fault
returns-then-not-are_seeds-clause-fault c =
    (record { first = c.in-Some.first; many = c.args.many }, (c.in-Some.ensures, c.requires.runs), λ are. true≢false (sym (c.if-not-are_seeds.ensures.1 are)))
