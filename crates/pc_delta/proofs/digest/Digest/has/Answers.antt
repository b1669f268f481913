use Rattle.std.proofs.Common.{subst}
use Rattle.pc_delta.specs.Digests.{IsDigest}
use Rattle.pc_delta.proofs.digest.Digest.has.Goals as goal

pub returns-in-Some-clause-of_any_source : goal.returns-in-Some-clause-of_any_source
returns-in-Some-clause-of_any_source c = subst IsDigest c.self.view_is c.self.invariant

pub returns-in-None-clause-of_any_source : goal.returns-in-None-clause-of_any_source
returns-in-None-clause-of_any_source c = subst IsDigest c.self.view_is c.self.invariant
