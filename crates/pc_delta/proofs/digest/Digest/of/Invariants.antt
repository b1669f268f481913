use Rattle.pc_delta.proofs.Digesting.{IsListing}
use Rattle.pc_delta.proofs.digest.Digest.of.Given as goal

abbrev pub invariant-loop-thread : goal.invariant-loop-thread
invariant-loop-thread l = IsListing l.view l.thread-iterator l.entries.items
