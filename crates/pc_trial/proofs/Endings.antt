-- How the lab ends at the texts of a load and of variants.
use Rattle.std.proofs.Common.{ℕ, List, Option, Some, None, IfSome}
use Rattle.pc_load.specs.declared.load.Load.{Load}
use Rattle.pc_load.specs.declared.variant.Variants.{Variants}
use Rattle.pc_trial.specs.declared.ending.LabEnding.{LabEnding}
use Rattle.pc_trial.specs.declared.ending.LabEnding.TheVariants.{Finished, LoadUnread, BadLoad, VariantsUnread, BadVariants, NoVariant, ScriptTooLong, Unaccounted, OutOfMemory, Unwritten}
use Rattle.pc_trial.specs.declared.output.LabOutput.{LabOutput}
use Rattle.pc_trial.specs.Tried.{AreSpelled, EndsAtVariants, IsTried, IsWrittenOf, Lists, Spells, SpellsLoad}

-- of what is spelled
tried_spelled : (wanted : LabOutput) (text : List ℕ) (other : Option (List ℕ)) (load : Load) (variants : Variants) (old new : Option (List ℕ)) (ending : LabEnding)
    → AreSpelled text other load variants → IsWrittenOf wanted load variants old new ending → IsTried wanted text other old new ending
tried_spelled wanted text other load variants old new Finished spelled h = (load, variants, spelled, h)
tried_spelled wanted text other load variants old new NoVariant spelled h = (load, variants, spelled, h)
tried_spelled wanted text other load variants old new ScriptTooLong spelled h = (load, variants, spelled, h)
tried_spelled wanted text other load variants old new Unaccounted spelled h = (load, variants, spelled, h)
tried_spelled wanted text other load variants old new OutOfMemory spelled h = tt
tried_spelled wanted text other load variants old new Unwritten spelled h = tt
tried_spelled wanted text other load variants old new (LoadUnread why) spelled h = absurd h
tried_spelled wanted text other load variants old new (BadLoad first) spelled h = absurd h
tried_spelled wanted text other load variants old new (VariantsUnread why) spelled h = absurd h
tried_spelled wanted text other load variants old new (BadVariants first) spelled h = absurd h

-- of two texts
abbrev Tried2 : LabOutput → (left others old new : Option (List ℕ)) → LabEnding → Type 0
Tried2 wanted left others old new ending = IfSome left (λ text. IfSome others (λ other. IsTried wanted text (Some other) old new ending))

pub tried_other : (wanted : LabOutput) (left others : Option (List ℕ)) (load : Load) (own variants : Variants) (old new : Option (List ℕ)) (ending : LabEnding)
    → IfSome left (λ text. Spells text load own) → IfSome others (λ text. Lists text variants)
    → IsWrittenOf wanted load variants old new ending → Tried2 wanted left others old new ending
tried_other wanted None others load own variants old new ending spelled listed h = tt
tried_other wanted (Some text) None load own variants old new ending spelled listed h = tt
tried_other wanted (Some text) (Some other) load own variants old new ending spelled listed h =
    tried_spelled wanted text (Some other) load variants old new ending ((own, spelled), listed) h

at_variants : (wanted : LabOutput) (text other : List ℕ) (old new : Option (List ℕ)) (ending : LabEnding) → SpellsLoad text → EndsAtVariants other ending
    → IsTried wanted text (Some other) old new ending
at_variants wanted text other old new (VariantsUnread why) spelled h = (spelled, h)
at_variants wanted text other old new (BadVariants first) spelled h = (spelled, h)
at_variants wanted text other old new OutOfMemory spelled h = tt
at_variants wanted text other old new Finished spelled h = absurd h
at_variants wanted text other old new (LoadUnread why) spelled h = absurd h
at_variants wanted text other old new (BadLoad first) spelled h = absurd h
at_variants wanted text other old new NoVariant spelled h = absurd h
at_variants wanted text other old new ScriptTooLong spelled h = absurd h
at_variants wanted text other old new Unaccounted spelled h = absurd h
at_variants wanted text other old new Unwritten spelled h = absurd h

pub others_at_variants : (wanted : LabOutput) (left others : Option (List ℕ)) (load : Load) (own : Variants) (old new : Option (List ℕ)) (ending : LabEnding)
    → IfSome left (λ text. Spells text load own) → IfSome others (λ text. EndsAtVariants text ending) → Tried2 wanted left others old new ending
others_at_variants wanted None others load own old new ending spelled h = tt
others_at_variants wanted (Some text) None load own old new ending spelled h = tt
others_at_variants wanted (Some text) (Some other) load own old new ending spelled h = at_variants wanted text other old new ending (load, own, spelled) h
