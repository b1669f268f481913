use Rattle.pc_thread_view.proofs.Histories.{in_plain_words}
use Rattle.pc_thread_view.proofs.view.of_a_history_in_plain_words.Goals as goal

pub returns : goal.returns
returns c = in_plain_words
