use Rattle.pc_delta.proofs.Gathering.{prefix_gathered}
use Rattle.pc_delta.proofs.digest.prefix_numbers.Goals as goal

pub returns-clause-same : goal.returns-clause-same
returns-clause-same c = prefix_gathered c.new-numbers.result c.add_range.new.self c.args.upto c.new-numbers.ensures c.in_ok-add_range.ensures.union
