use Rattle.pc_replayed.proofs.OneOutputs.{replays_are_exact}
use Rattle.pc_replayed.proofs.laws.replays_are_exact.Goals as goal

pub returns : goal.returns
returns c = replays_are_exact c.scripts_without_a_choice_have_one_output.ensures c.named_scripts_replay_as_the_run_went.ensures
