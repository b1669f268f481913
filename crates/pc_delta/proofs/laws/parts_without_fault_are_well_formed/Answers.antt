use Rattle.pc_delta.proofs.Faultless.{message_faultless, prefix_faultless, all_faultless}
use Rattle.pc_delta.proofs.laws.parts_without_fault_are_well_formed.Goals as goal

pub returns : goal.returns
returns c = record { messages = message_faultless; prefixes = prefix_faultless; all = all_faultless }
