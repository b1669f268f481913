-- What is seen of the parts that a delta keeps.
use Rattle.std.specs.Prelude.{List, [], ◌∷◌}
use Rattle.pc_delta.specs.declared.part.Part.{Part}
use Rattle.pc_delta.specs.declared.parts.Parts.{Parts}
use Rattle.pc_delta.specs.declared.parts.Parts.TheVariants.{One, Many}

-- one part in place, or a list of them
abbrev pub kept : Parts → List Part
kept (One part) = part ∷ []
kept (Many parts) = parts.items
