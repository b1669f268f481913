-- What the program says of a text that spells no load.
use Rattle.std.specs.Prelude.{ℕ, List, ◌++◌, codes, decimal}
use Rattle.pc_load.specs.declared.load.LoadFault.{LoadFault}
use Rattle.pc_load.specs.declared.load.LoadFault.TheVariants as load
use Rattle.pc_load.specs.declared.variant.VariantFault.{VariantFault}
use Rattle.pc_load.specs.declared.variant.VariantFault.TheVariants as variant
use Rattle.pc_settings.specs.Fields.{key_text}
use Rattle.pc_settings.specs.UnknownWords.{start_text}
use Rattle.pc_settings.specs.declared.loads.LoadTextFault.{LoadTextFault}
use Rattle.pc_settings.specs.declared.loads.LoadTextFault.TheVariants as fault

-- why a load cannot be asked for, with the place of its thread
abbrev pub load_text : LoadFault → List ℕ
load_text load.BadCpus = codes "lab BadCpus"
load_text load.BadUntil = codes "lab BadUntil"
load_text load.TooManyThreads = codes "lab TooManyThreads"
load_text (load.BadThread place) = codes "lab BadThread " ++ decimal place
load_text (load.BadLoad place) = codes "lab BadLoad " ++ decimal place
load_text load.OutOfMemory = codes "out of memory"

-- why variants cannot be tried, with the place of the variant
abbrev pub variants_text : VariantFault → List ℕ
variants_text variant.TooMany = codes "lab TooManyVariants"
variants_text (variant.Bad place) = codes "lab BadVariant " ++ decimal place
variants_text variant.OutOfMemory = codes "out of memory"

-- what is said of a text
abbrev pub fault_text : LoadTextFault → List ℕ
fault_text fault.NotToml = codes "lab NotToml"
fault_text (fault.UnknownKey unknown) = codes "lab UnknownKey " ++ start_text unknown.key
fault_text (fault.BadField key) = codes "lab BadField " ++ key_text key
fault_text (fault.BadStep thread step) = codes "lab BadStep " ++ (decimal thread ++ (codes " " ++ decimal step))
fault_text (fault.BadLoad why) = load_text why
fault_text (fault.BadVariants why) = variants_text why
fault_text fault.OutOfMemory = codes "out of memory"
