use Rattle.std.proofs.Common.{subst}
use Rattle.pc_kernel.specs.Reads.{seen, kinds_read}
use Rattle.pc_kernel.specs.Rows.{KernelRows}
use Rattle.pc_threads.specs.Settling.{Settles}
use Rattle.pc_threads.proofs.Settled.{settled_reports, settled_whole}
use Rattle.pc_threads.proofs.book.settling.settle.Goals as goal

-- the kernel that is lent is the book's
settles : (c : goal.After-settle_with) → Settles (kinds_read (seen c.args.book.now.kernel)) c.args.views.now c.settle_with.result
settles c = subst (λ (k : KernelRows). Settles (kinds_read (seen k)) c.args.views.now c.settle_with.result) c.kernel.ensures c.settle_with.ensures

pub returns-clause-whole : goal.returns-clause-whole
returns-clause-whole c = settled_whole (kinds_read (seen c.args.book.now.kernel)) c.args.views.now c.settle_with.result (settles c)

pub returns-clause-reports : goal.returns-clause-reports
returns-clause-reports c =
    settled_reports c.sets_are_those_of_the_run.ensures.next c.reads_are_those_of_the_run.ensures.whole (seen c.args.book.now.kernel) c.args.views.now c.settle_with.result (settles c)
