use Rattle.std.proofs.Common.{length, ◌+◌, ◌*◌}
use Rattle.pc_rank.proofs.display.+display.Given as goal

abbrev pub decreases-write_expression : goal.decreases-write_expression
decreases-write_expression g l = 3 * length l.codes.now

abbrev pub decreases-write_test : goal.decreases-write_test
decreases-write_test g l = 3 * length l.codes.now

abbrev pub decreases-write_operand : goal.decreases-write_operand
decreases-write_operand g l = 3 * length l.codes.now + 1

abbrev pub decreases-write_grouped : goal.decreases-write_grouped
decreases-write_grouped g l = 3 * length l.codes.now + 1

abbrev pub decreases-write_infix : goal.decreases-write_infix
decreases-write_infix g l = 3 * length l.codes.now + 2

abbrev pub decreases-write_call : goal.decreases-write_call
decreases-write_call g l = 3 * length l.codes.now + 2

abbrev pub decreases-write_choice : goal.decreases-write_choice
decreases-write_choice g l = 3 * length l.codes.now + 2

abbrev pub decreases-write_compared : goal.decreases-write_compared
decreases-write_compared g l = 3 * length l.codes.now + 2

abbrev pub decreases-write_joined : goal.decreases-write_joined
decreases-write_joined g l = 3 * length l.codes.now + 2

abbrev pub decreases-write_negated : goal.decreases-write_negated
decreases-write_negated g l = 3 * length l.codes.now + 2
