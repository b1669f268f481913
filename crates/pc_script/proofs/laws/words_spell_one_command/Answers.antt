use Rattle.pc_script.proofs.Spellings.{one_spelled}
use Rattle.pc_script.proofs.laws.words_spell_one_command.Goals as goal

pub returns : goal.returns
returns c = one_spelled
