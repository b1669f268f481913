use Rattle.pc_rank.proofs.Spelling.{text_is_read}
use Rattle.pc_rank.proofs.laws.a_written_text_is_read.Goals as goal

pub returns : goal.returns
returns c = text_is_read
