use Rattle.pc_rank.proofs.Texts.{is_read_as}
use Rattle.pc_rank.proofs.laws.a_text_is_read_by_a_function.Goals as goal

pub returns : goal.returns
returns c = is_read_as
