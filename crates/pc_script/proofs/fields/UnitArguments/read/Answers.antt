use Rattle.pc_script.proofs.Spellings.{no_fields}
use Rattle.pc_script.proofs.fields.UnitArguments.read.Goals as goal

pub returns-else-is_over : goal.returns-else-is_over
returns-else-is_over c = λ any kinds ranges is. no_fields _ c.if-is_over.ensures any kinds is
