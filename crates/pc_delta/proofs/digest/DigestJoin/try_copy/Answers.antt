use Rattle.std.proofs.Common.{subst, sym}
use Rattle.pc_delta.specs.Digests.{IsDigest}
use Rattle.pc_delta.proofs.digest.DigestJoin.try_copy.Goals as goal

pub invariant_of-result : goal.invariant_of-result
invariant_of-result c = subst IsDigest (sym c.in_ok-numbers.ensures) c.self.invariant
