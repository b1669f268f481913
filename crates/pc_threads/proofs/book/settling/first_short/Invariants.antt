use Rattle.std.proofs.Common.{ℕ, ◌<◌, ◌≤◌}
use Rattle.pc_kernel.specs.Reads.{seen, number_read}
use Rattle.pc_view.specs.Prefixes.{upto_of}
use Rattle.pc_threads.proofs.book.settling.first_short.Given as goal

abbrev pub invariant-loop-name : goal.invariant-loop-name
invariant-loop-name l = (t : ℕ) → t < l.name → number_read (seen l.kernel) t ≤ upto_of l.view t
