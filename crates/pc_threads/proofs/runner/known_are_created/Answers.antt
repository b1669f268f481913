use Rattle.pc_threads.proofs.Reported.{known_created}
use Rattle.pc_threads.proofs.runner.known_are_created.Goals as goal

pub returns : goal.returns
returns c = known_created c.args.book.now c.is_replay.ensures
