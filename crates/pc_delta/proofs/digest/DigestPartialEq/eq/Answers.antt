use Rattle.std.proofs.lemmas.Bool.Decides.{same_from_decides}
use Rattle.pc_delta.specs.Digests.{is_same_digest}
use Rattle.pc_delta.specs.Inner.DigestLaws.{digest_Decides}
use Rattle.pc_delta.proofs.digest.DigestPartialEq.eq.Goals as goal

pub returns : goal.returns
returns c = same_from_decides c.is_same.result (is_same_digest c.args.self.now c.args.other.now) c.is_same.ensures (digest_Decides c.args.self.now c.args.other.now)
