use Rattle.pc_replayed.proofs.OneOutputs.{one_output}
use Rattle.pc_replayed.proofs.laws.scripts_without_a_choice_have_one_output.Goals as goal

pub returns : goal.returns
returns c = one_output c.words_spell_one_command.ensures
