use Rattle.pc_rank.proofs.Laid.{is_laid, is_tree}
use Rattle.pc_rank.proofs.expression.Expression.of.Goals as goal

pub invariant_of-result : goal.invariant_of-result
invariant_of-result c =
    let parts = c.into_parts-count.ensures in
    is_laid _ c.args.row c.requires.0 parts.codes parts.count c.requires.1 c.requires.2

pub returns : goal.returns
returns c = λ a is.
    let parts = c.into_parts-count.ensures in
    is_tree _ c.args.row a parts.codes parts.count is
