use Rattle.pc_rank.proofs.Texts.{one_tree}
use Rattle.pc_rank.proofs.laws.a_text_has_one_expression.Goals as goal

pub returns : goal.returns
returns c = one_tree
