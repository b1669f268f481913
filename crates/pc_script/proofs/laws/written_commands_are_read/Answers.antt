use Rattle.pc_script.proofs.Readback.{reads_back}
use Rattle.pc_script.proofs.laws.written_commands_are_read.Goals as goal

pub returns : goal.returns
returns c = reads_back
