use Rattle.pc_replayed.proofs.Replaying.{scripts_replay}
use Rattle.pc_replayed.proofs.laws.scripts_replay_as_the_run_went.Goals as goal

pub returns : goal.returns
returns c = scripts_replay c.written_commands_are_read.ensures
