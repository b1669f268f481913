use Rattle.std.proofs.Common.{rules}
use Rattle.pc_threads.proofs.Steps.{one_done}
use Rattle.pc_threads.proofs.runner.driver.Progress.take.Goals as goal

pub returns : goal.returns
returns c by =
    one_done c.args.plans.now c.args.self.now.done.items c.index-place.result c.index-done.result.now c.index-plans-place.result c.index.result.now (search rules) (search rules)
    c.index-plans-place.is c.index-done.ensures (search rules) c.index.ensures by
