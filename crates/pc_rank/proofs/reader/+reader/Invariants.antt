use Rattle.std.proofs.Common.{◌+◌, ◌*◌}
use Rattle.pc_rank.proofs.reader.+reader.Given as goal

abbrev pub decreases-rank_at : goal.decreases-rank_at
decreases-rank_at l = 16 * l.levels + 1

abbrev pub decreases-test_at : goal.decreases-test_at
decreases-test_at l = 16 * l.levels + 1

abbrev pub decreases-choice_at : goal.decreases-choice_at
decreases-choice_at l = 16 * l.levels + 2

abbrev pub decreases-call_at : goal.decreases-call_at
decreases-call_at l = 16 * l.levels + 2

abbrev pub decreases-group_at : goal.decreases-group_at
decreases-group_at l = 16 * l.levels + 2

abbrev pub decreases-term_at : goal.decreases-term_at
decreases-term_at l = 16 * l.levels + 3

abbrev pub decreases-infix_at : goal.decreases-infix_at
decreases-infix_at l = 16 * l.levels + 4

abbrev pub decreases-after_at : goal.decreases-after_at
decreases-after_at l = 16 * l.levels + 5

abbrev pub decreases-sum_at : goal.decreases-sum_at
decreases-sum_at l = 16 * l.levels + 6

abbrev pub decreases-compared_at : goal.decreases-compared_at
decreases-compared_at l = 16 * l.levels + 7

abbrev pub decreases-grouped_at : goal.decreases-grouped_at
decreases-grouped_at l = 16 * l.levels + 2

abbrev pub decreases-joined_at : goal.decreases-joined_at
decreases-joined_at l = 16 * l.levels + 3

abbrev pub decreases-opened_at : goal.decreases-opened_at
decreases-opened_at l = 16 * l.levels + 8

abbrev pub decreases-either_at : goal.decreases-either_at
decreases-either_at l = 16 * l.levels + 9

abbrev pub decreases-expression_at : goal.decreases-expression_at
decreases-expression_at l = 16 * l.levels + 10

abbrev pub decreases-tests_at : goal.decreases-tests_at
decreases-tests_at l = 16 * l.levels + 4

abbrev pub decreases-found_at : goal.decreases-found_at
decreases-found_at l = 16 * l.levels + 12

abbrev pub decreases-part_at : goal.decreases-part_at
decreases-part_at l = 16 * l.levels + 0
