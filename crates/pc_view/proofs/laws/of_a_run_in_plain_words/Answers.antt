use Rattle.pc_view.proofs.Runs.{in_plain_words}
use Rattle.pc_view.proofs.laws.of_a_run_in_plain_words.Goals as goal

pub returns : goal.returns
returns c = in_plain_words
