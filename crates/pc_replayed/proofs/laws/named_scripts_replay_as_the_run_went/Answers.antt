use Rattle.pc_replayed.proofs.Replaying.{named_scripts_replay}
use Rattle.pc_replayed.proofs.laws.named_scripts_replay_as_the_run_went.Goals as goal

pub returns : goal.returns
returns c = named_scripts_replay c.scripts_replay_as_the_run_went.ensures
