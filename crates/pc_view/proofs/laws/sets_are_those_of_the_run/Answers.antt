use Rattle.pc_view.proofs.Prefixes.{within_of, prefix_of, next_of}
use Rattle.pc_view.proofs.laws.sets_are_those_of_the_run.Goals as goal

pub returns : goal.returns
returns c = record { within = within_of; prefix = prefix_of; next = next_of }
