use Rattle.pc_delta.proofs.Digesting.{nothing_known, nothing_valid}
use Rattle.pc_delta.proofs.digest.Digest.new.Goals as goal

pub invariant_of-result : goal.invariant_of-result
invariant_of-result c = nothing_valid c.new.result c.new.ensures

pub returns-clause-nothing : goal.returns-clause-nothing
returns-clause-nothing c = nothing_known c.new.result c.new.ensures

pub returns-clause-of_any_source : goal.returns-clause-of_any_source
returns-clause-of_any_source c = nothing_valid c.new.result c.new.ensures
