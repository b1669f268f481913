use Rattle.std.proofs.Common.{◌++◌}
use Rattle.pc_rank.specs.Layout.{layout, test_layout}
use Rattle.pc_rank.proofs.Ends.{at_expression, at_test}
use Rattle.pc_rank.proofs.Before.{of_none, of_none_test, of_two, of_two_test}
use Rattle.pc_rank.proofs.parts.+parts.Goals as goal

pub returns-in-Negate-clause-expression : goal.returns-in-Negate-clause-expression
returns-in-Negate-clause-expression t c = at_expression _ _ _ _ c.in-len1-up.len_at_least c.in-Negate.is tt

pub returns-in-Negate-clause-test : goal.returns-in-Negate-clause-test
returns-in-Negate-clause-test t c = at_test _ _ _ _ c.in-len1-up.len_at_least c.in-Negate.is
    (λ front a e. c.before-in-Negate.ensures.test front a e)

pub returns-in-Choice-clause-expression : goal.returns-in-Choice-clause-expression
returns-in-Choice-clause-expression t c = at_expression _ _ _ _ c.in-len1-up.len_at_least c.in-Choice.is
    (λ front q a b e. let first = c.before-in-Choice.ensures.expression (front ++ test_layout q ++ layout a) b e in
    c.before-in-Choice-3.ensures.test front q (c.before-in-Choice-2.ensures.expression (front ++ test_layout q) a first))

pub returns-in-Choice-clause-test : goal.returns-in-Choice-clause-test
returns-in-Choice-clause-test t c = at_test _ _ _ _ c.in-len1-up.len_at_least c.in-Choice.is tt

pub returns-in-Infix-clause-expression : goal.returns-in-Infix-clause-expression
returns-in-Infix-clause-expression t c = of_two _ _ _ c.in-len1-up.len_at_least c.in-Infix.is
    (λ front a b e. c.before-in-Infix-2.ensures.expression front a
    (c.before-in-Infix.ensures.expression (front ++ layout a) b e))

pub returns-in-Infix-clause-test : goal.returns-in-Infix-clause-test
returns-in-Infix-clause-test t c = of_two_test _ _ _ c.in-len1-up.len_at_least c.in-Infix.is
    (λ front a b e. c.before-in-Infix-2.ensures.expression front a
    (c.before-in-Infix.ensures.expression (front ++ layout a) b e))
    (λ front p q e. c.before-in-Infix-2.ensures.test front p
    (c.before-in-Infix.ensures.test (front ++ test_layout p) q e))

pub returns-in-Number-clause-expression : goal.returns-in-Number-clause-expression
returns-in-Number-clause-expression t c = of_none _ _ c.in-len1-up.len_at_least c.in-Number.is

pub returns-in-Number-clause-test : goal.returns-in-Number-clause-test
returns-in-Number-clause-test t c = of_none_test _ _ c.in-len1-up.len_at_least c.in-Number.is

pub returns-in-Number-2-clause-expression : goal.returns-in-Number-2-clause-expression
returns-in-Number-2-clause-expression t c = of_none _ _ c.in-len1-up.len_at_least c.in-Number.is

pub returns-in-Number-2-clause-test : goal.returns-in-Number-2-clause-test
returns-in-Number-2-clause-test t c = of_none_test _ _ c.in-len1-up.len_at_least c.in-Number.is

pub returns-in-Number-3-clause-expression : goal.returns-in-Number-3-clause-expression
returns-in-Number-3-clause-expression t c = of_none _ _ c.in-len1-up.len_at_least c.in-Number.is

pub returns-in-Number-3-clause-test : goal.returns-in-Number-3-clause-test
returns-in-Number-3-clause-test t c = of_none_test _ _ c.in-len1-up.len_at_least c.in-Number.is
