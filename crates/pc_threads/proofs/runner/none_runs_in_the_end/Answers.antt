use Rattle.pc_threads.proofs.Running.{left_again}
use Rattle.pc_threads.proofs.runner.none_runs_in_the_end.Goals as goal

pub returns : goal.returns
returns c = left_again c.args.book.now c.is_replay.ensures
