-- The tables of a text, and the keys that each of them may have.
use Rattle.std.specs.Prelude.{ℕ, Bool, List, [], ◌∷◌, map, bytes_eq}
use Rattle.std.specs.List.{list_any}
use Rattle.pc_settings.specs.Fields.{key_of}
use Rattle.pc_settings.specs.declared.field.Field.{Field}
use Rattle.pc_settings.specs.declared.field.Field.TheVariants as field
use Rattle.pc_settings.specs.declared.known.TableKind.{TableKind}
use Rattle.pc_settings.specs.declared.known.TableKind.TheVariants.{Top, Thread, Restart, Variant}

-- the keys that such a table may have, in the order in which they are documented
abbrev pub fields_of : TableKind → List Field
fields_of Top = field.Cpus ∷ field.Threads ∷ field.Restarts ∷ field.Until ∷ field.Variants ∷ []
fields_of Thread = field.Queue ∷ field.Mask ∷ field.Steps ∷ field.Start ∷ field.Level ∷ field.Sleeps ∷ []
fields_of Restart = field.Cpu ∷ field.Turn ∷ []
fields_of Variant =
    field.Name ∷ field.Order ∷ field.Steals ∷ field.Quantum ∷ field.Group ∷ field.Delay ∷ field.Cost ∷ field.Urgent
    ∷ field.Keep ∷ []

-- the same, as they are written there
abbrev pub known_keys : TableKind → List (List ℕ)
known_keys kind = map key_of (fields_of kind)

-- whether such a table may have this key
abbrev pub is_known : TableKind → List ℕ → Bool
is_known kind key = list_any (λ field. bytes_eq key (key_of field)) (fields_of kind)
