use Rattle.std.proofs.Common.{[]}
use Rattle.pc_tests.proofs.run_queue.refresh_pushed.Goals as goal

pub refresh_noted-requires : goal.refresh_noted-requires
refresh_noted-requires c = c.in_ok-in_order.ensures.noted [] tt c.in_ok-refresh.ensures.settled
