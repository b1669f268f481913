use Rattle.std.proofs.Common.{rules}
use Rattle.pc_queue.proofs.Count.{counts_push}
use Rattle.pc_queue.proofs.counts.count.Goals as goal

pub returns-in-Thread-clause-ok : goal.returns-in-Thread-clause-ok
returns-in-Thread-clause-ok c = search (rules, counts_push)
