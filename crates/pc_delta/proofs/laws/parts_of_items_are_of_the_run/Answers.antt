use Rattle.std.proofs.Common.{refl}
use Rattle.pc_delta.specs.Parts.{parts_in}
use Rattle.pc_delta.proofs.Telling.{set_in, of_run_in}
use Rattle.pc_delta.proofs.laws.parts_of_items_are_of_the_run.Goals as goal

pub returns : goal.returns
returns c = record { set = λ items. set_in items (parts_in items) refl; of_run = of_run_in }
