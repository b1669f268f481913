use Rattle.std.proofs.Common.{◌++◌, refl}
use Rattle.pc_rank.specs.Layout.{test_layout}
use Rattle.pc_rank.proofs.Ends.{at_expression, at_no_expression, at_no_test, at_nothing, at_other_test, at_test}
use Rattle.pc_rank.proofs.display.+display.Goals as goal

pub write_expression-returns-in_default : goal.write_expression-returns-in_default
write_expression-returns-in_default g t c = at_nothing _ _ c.in_default.len_below

pub write_test-returns-in_default : goal.write_test-returns-in_default
write_test-returns-in_default g t c = at_no_test _ _ c.in_default.len_below

pub write_expression-returns-in_default-code : goal.write_expression-returns-in_default-code
write_expression-returns-in_default-code g t c = let k = c.in_default-code in
    at_no_expression _ _ _ c.in-len1-up.len_at_least k.not-Number k.not-Given k.not-NoRank k.not-Infix k.not-Call k.not-Choice

pub write_test-returns-in_default-code : goal.write_test-returns-in_default-code
write_test-returns-in_default-code g t c = let k = c.in_default-code in
    at_other_test _ _ _ c.in-len1-up.len_at_least k.not-Compare k.not-Join k.not-Negate

pub write_expression-returns-in-Number : goal.write_expression-returns-in-Number
write_expression-returns-in-Number g t c = at_expression _ _ _ _ c.in-len1-up.len_at_least c.in-Number.is
    c.write.ensures.writes

pub write_expression-returns-in-Given : goal.write_expression-returns-in-Given
write_expression-returns-in-Given g t c = at_expression _ _ _ _ c.in-len1-up.len_at_least c.in-Given.is
    c.write-in-Given.ensures.writes

pub write_expression-returns-in-NoRank : goal.write_expression-returns-in-NoRank
write_expression-returns-in-NoRank g t c = at_expression _ _ _ _ c.in-len1-up.len_at_least c.in-NoRank.is
    c.write_str.ensures.writes

pub write_expression-returns-in-Infix : goal.write_expression-returns-in-Infix
write_expression-returns-in-Infix g t c = at_expression _ _ _ _ c.in-len1-up.len_at_least c.in-Infix.is
    c.write_infix.ensures

pub write_expression-returns-in-Call : goal.write_expression-returns-in-Call
write_expression-returns-in-Call g t c = at_expression _ _ _ _ c.in-len1-up.len_at_least c.in-Call.is
    c.write_call.ensures

pub write_expression-returns-in-Choice : goal.write_expression-returns-in-Choice
write_expression-returns-in-Choice g t c = at_expression _ _ _ _ c.in-len1-up.len_at_least c.in-Choice.is
    (λ front q a b e. c.write_choice.ensures (front ++ test_layout q) a b e front q refl)

pub write_test-returns-in-Compare : goal.write_test-returns-in-Compare
write_test-returns-in-Compare g t c = at_test _ _ _ _ c.in-len1-up.len_at_least c.in-Compare.is
    c.write_compared.ensures

pub write_test-returns-in-Join : goal.write_test-returns-in-Join
write_test-returns-in-Join g t c = at_test _ _ _ _ c.in-len1-up.len_at_least c.in-Join.is
    (λ front p q e. c.write_joined.ensures (front ++ test_layout p) q e front p refl)

pub write_test-returns-in-Negate : goal.write_test-returns-in-Negate
write_test-returns-in-Negate g t c = at_test _ _ _ _ c.in-len1-up.len_at_least c.in-Negate.is
    c.write_negated.ensures
