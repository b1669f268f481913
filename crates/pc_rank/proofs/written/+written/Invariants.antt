use Rattle.std.proofs.Common.{length, ◌+◌, ◌*◌}
use Rattle.pc_rank.proofs.written.+written.Given as goal

abbrev pub decreases-behind_expression : goal.decreases-behind_expression
decreases-behind_expression l = 3 * length l.codes.now

abbrev pub decreases-behind_test : goal.decreases-behind_test
decreases-behind_test l = 3 * length l.codes.now

abbrev pub decreases-behind_operand : goal.decreases-behind_operand
decreases-behind_operand l = 3 * length l.codes.now + 1

abbrev pub decreases-behind_grouped : goal.decreases-behind_grouped
decreases-behind_grouped l = 3 * length l.codes.now + 1

abbrev pub decreases-behind_infix : goal.decreases-behind_infix
decreases-behind_infix l = 3 * length l.codes.now + 2

abbrev pub decreases-behind_call : goal.decreases-behind_call
decreases-behind_call l = 3 * length l.codes.now + 2

abbrev pub decreases-behind_choice : goal.decreases-behind_choice
decreases-behind_choice l = 3 * length l.codes.now + 2

abbrev pub decreases-behind_compared : goal.decreases-behind_compared
decreases-behind_compared l = 3 * length l.codes.now + 2

abbrev pub decreases-behind_joined : goal.decreases-behind_joined
decreases-behind_joined l = 3 * length l.codes.now + 2

abbrev pub decreases-behind_negated : goal.decreases-behind_negated
decreases-behind_negated l = 3 * length l.codes.now + 2
