use Rattle.std.proofs.Common.{◌<◌, ℕ}
use Rattle.pc_kernel.specs.Reads.{seen}
use Rattle.pc_lab.proofs.Accounting.{EndedAt}
use Rattle.pc_lab.proofs.account.have_ended.Given as goal

abbrev pub invariant-loop-place : goal.invariant-loop-place
invariant-loop-place l = (t : ℕ) → t < l.place → EndedAt l.threads (seen l.kernel) t
