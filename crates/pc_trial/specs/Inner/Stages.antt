-- What a stage reads of a text.
use Rattle.std.specs.Prelude.{ℕ, List, Result, Ok, Err}
use Rattle.pc_load.specs.declared.load.Load.{Load}
use Rattle.pc_load.specs.declared.variant.Variants.{Variants}
use Rattle.pc_trial.specs.Tried.{EndsAtLoad, EndsAtVariants, Lists, Spells}
use Rattle.pc_trial.specs.declared.ending.LabEnding.{LabEnding}

abbrev pub IsLoadOf : List ℕ → Result (Load × Variants) LabEnding → Type 0
IsLoadOf text (Ok read) = Spells text read.0 read.1
IsLoadOf text (Err ending) = EndsAtLoad text ending

abbrev pub IsVariantsOf : List ℕ → Result Variants LabEnding → Type 0
IsVariantsOf text (Ok variants) = Lists text variants
IsVariantsOf text (Err ending) = EndsAtVariants text ending
