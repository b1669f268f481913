use Rattle.std.proofs.Common.{map, take}
use Rattle.pc_load.specs.Variants.{choice_in}
use Rattle.pc_load.proofs.Choices.{SoFar}
use Rattle.pc_load.proofs.variant.drafts.variants_of.Given as goal

abbrev pub invariant-loop-draft : goal.invariant-loop-draft
invariant-loop-draft l = SoFar (map choice_in (take l.draft-index l.drafts)) l.variants.items
