use Rattle.std.proofs.Common.{◌++◌, refl}
use Rattle.pc_rank.specs.Layout.{test_layout}
use Rattle.std.specs.Prelude.{codes}
use Rattle.pc_rank.proofs.Room.{leaves}
use Rattle.pc_rank.proofs.Ends.{at_expression, at_no_expression, at_no_test, at_nothing, at_other_test, at_test}
use Rattle.pc_rank.proofs.written.+written.Goals as goal

pub behind_expression-returns-in_default : goal.behind_expression-returns-in_default
behind_expression-returns-in_default t c = at_nothing _ _ c.in_default.len_below

pub behind_test-returns-in_default : goal.behind_test-returns-in_default
behind_test-returns-in_default t c = at_no_test _ _ c.in_default.len_below

pub behind_expression-returns-in_default-code : goal.behind_expression-returns-in_default-code
behind_expression-returns-in_default-code t c = let k = c.in_default-code in
    at_no_expression _ _ _ c.in-len1-up.len_at_least k.not-Number k.not-Given k.not-NoRank k.not-Infix k.not-Call k.not-Choice

pub behind_test-returns-in_default-code : goal.behind_test-returns-in_default-code
behind_test-returns-in_default-code t c = let k = c.in_default-code in
    at_other_test _ _ _ c.in-len1-up.len_at_least k.not-Compare k.not-Join k.not-Negate

pub behind_expression-returns-in-Number : goal.behind_expression-returns-in-Number
behind_expression-returns-in-Number t c = at_expression _ _ _ _ c.in-len1-up.len_at_least c.in-Number.is
    (leaves _ _ _ _ c.checked_sub.ensures c.digits.ensures)

pub behind_expression-returns-in-Given : goal.behind_expression-returns-in-Given
behind_expression-returns-in-Given t c = at_expression _ _ _ _ c.in-len1-up.len_at_least c.in-Given.is
    (leaves _ _ _ _ c.checked_sub-in-Given.ensures c.fact_length.ensures)

pub behind_expression-returns-in-NoRank : goal.behind_expression-returns-in-NoRank
behind_expression-returns-in-NoRank t c = at_expression _ _ _ _ c.in-len1-up.len_at_least c.in-NoRank.is
    (leaves _ 4 (codes "none") _ c.checked_sub-in-NoRank.ensures refl)

pub behind_expression-returns-in-Infix : goal.behind_expression-returns-in-Infix
behind_expression-returns-in-Infix t c = at_expression _ _ _ _ c.in-len1-up.len_at_least c.in-Infix.is
    c.behind_infix.ensures

pub behind_expression-returns-in-Call : goal.behind_expression-returns-in-Call
behind_expression-returns-in-Call t c = at_expression _ _ _ _ c.in-len1-up.len_at_least c.in-Call.is
    (c.behind_call.ensures c.in-Call.field-0)

pub behind_expression-returns-in-Choice : goal.behind_expression-returns-in-Choice
behind_expression-returns-in-Choice t c = at_expression _ _ _ _ c.in-len1-up.len_at_least c.in-Choice.is
    (λ front q a b e. c.behind_choice.ensures (front ++ test_layout q) a b e front q refl)

pub behind_test-returns-in-Compare : goal.behind_test-returns-in-Compare
behind_test-returns-in-Compare t c = at_test _ _ _ _ c.in-len1-up.len_at_least c.in-Compare.is
    c.behind_compared.ensures

pub behind_test-returns-in-Join : goal.behind_test-returns-in-Join
behind_test-returns-in-Join t c = at_test _ _ _ _ c.in-len1-up.len_at_least c.in-Join.is
    (λ front p q e. c.behind_joined.ensures (front ++ test_layout p) q e front p refl)

pub behind_test-returns-in-Negate : goal.behind_test-returns-in-Negate
behind_test-returns-in-Negate t c = at_test _ _ _ _ c.in-len1-up.len_at_least c.in-Negate.is
    c.behind_negated.ensures
