use Rattle.pc_delta.specs.Inner.DigestLaws.{digest_Decides}
use Rattle.pc_delta.proofs.laws.equality_is_exact.Goals as goal

pub returns : goal.returns
returns c = digest_Decides
