use Rattle.pc_kernel.specs.Reads.{seen, kinds_read}
use Rattle.pc_view.proofs.Audits.{IsAudited}
use Rattle.pc_view.proofs.auditing.audit.Given as goal

abbrev pub invariant-loop-thread : goal.invariant-loop-thread
invariant-loop-thread l = IsAudited (kinds_read (seen l.kernel)) l.view l.thread-iterator
