-- What the lab wrote, by how it ended.
use Rattle.std.specs.Prelude.{ℕ, ◌≡◌, ◌≢◌, ◌<◌, ◌≤◌, Bool, true, false, List, length, Option, Some, None, Ok, Err}
use Rattle.std.specs.Prelude.{IsUtf8, string_bytes}
use Rattle.std.specs.List.{list_any}
use Rattle.std.specs.Option.{IsSomeAnd}
use Rattle.std.specs.Io.KnownBytes.{Appends}
use Rattle.toml.specs.Parse.{parse_document}
use Rattle.pc_load.specs.declared.load.Load.{Load}
use Rattle.pc_load.specs.declared.variant.Variants.{Variants}
use Rattle.pc_settings.specs.LoadTexts.{ReadsLoad, ReadsVariants}
use Rattle.pc_settings.specs.declared.input.Unread.{Unread}
use Rattle.pc_settings.specs.declared.input.Unread.TheVariants.{Failed, TooLong, NotUtf8}
use Rattle.pc_settings.specs.declared.loads.LoadTextFault.TheVariants as fault
use Rattle.pc_trial.specs.Comparing.{Compares, Draws, IsScriptOf, is_named}
use Rattle.pc_table.specs.declared.form.Layout.{Layout}
use Rattle.pc_table.specs.declared.form.Layout.TheVariants as layout
use Rattle.pc_trial.specs.declared.ending.LabEnding.{LabEnding}
use Rattle.pc_trial.specs.declared.ending.LabEnding.TheVariants.{Finished, LoadUnread, BadLoad, VariantsUnread}
use Rattle.pc_trial.specs.declared.ending.LabEnding.TheVariants.{BadVariants, NoVariant, ScriptTooLong, Unaccounted}
use Rattle.pc_trial.specs.declared.ending.LabEnding.TheVariants.{OutOfMemory, Unwritten}
use Rattle.pc_trial.specs.declared.output.LabOutput.{LabOutput}
use Rattle.pc_trial.specs.declared.output.LabOutput.TheVariants.{Table, Picture, Script}

-- how a table is written, as `--csv` stands there or not
abbrev pub layout_by : Bool → Layout
layout_by true = layout.Csv
layout_by false = layout.Table

-- what is wanted by flags and the name behind `--script`: where a script is named they change nothing, and where a
-- picture is asked for those of the table change nothing
abbrev pub IsAskedBy : (per_cpu csv picture : Bool) → Option (List ℕ) → LabOutput → Type 0
IsAskedBy per_cpu csv false None (Table form) = form ≡ record { layout = layout_by csv; per_cpu = per_cpu }
IsAskedBy per_cpu csv true None Picture = Unit {0}
IsAskedBy per_cpu csv picture (Some name) (Script given) = string_bytes given ≡ name
IsAskedBy per_cpu csv true None (Table form) = ⊥
IsAskedBy per_cpu csv false None Picture = ⊥
IsAskedBy per_cpu csv picture None (Script given) = ⊥
IsAskedBy per_cpu csv picture (Some name) (Table form) = ⊥
IsAskedBy per_cpu csv picture (Some name) Picture = ⊥

-- the text that is wanted of a load under variants: the table that compares them, a picture of their waits, or the
-- script of the named one
abbrev pub IsTold : LabOutput → Load → Variants → List ℕ → Type 0
IsTold (Table form) load variants text = Compares load variants form text
IsTold Picture load variants text = Draws load variants text
IsTold (Script name) load variants text = IsScriptOf load variants (string_bytes name) text

-- a script is wanted of a variant that is there
abbrev pub IsOfOne : LabOutput → Variants → Type 0
IsOfOne (Table form) variants = ⊥
IsOfOne Picture variants = ⊥
IsOfOne (Script name) variants = list_any (is_named (string_bytes name)) variants ≡ true

-- a script is wanted of a variant that is not there
abbrev pub IsOfNone : LabOutput → Variants → Type 0
IsOfNone (Table form) variants = ⊥
IsOfNone Picture variants = ⊥
IsOfNone (Script name) variants = list_any (is_named (string_bytes name)) variants ≡ false

-- why this text was not read
abbrev pub IsUnread : Unread → List ℕ → Type 0
IsUnread Failed text = Unit {0}
IsUnread TooLong text = 16777216 < length text
IsUnread NotUtf8 text = IsUtf8 text → ⊥

-- a text is read, and spells this load and these variants without a fault
abbrev pub Spells : List ℕ → Load → Variants → Type 0
Spells text load variants = (length text ≤ 16777216) × ReadsLoad (parse_document text) (Ok (load, variants))

-- a text is read, and spells these variants without a fault
abbrev pub Lists : List ℕ → Variants → Type 0
Lists text variants = (length text ≤ 16777216) × ReadsVariants (parse_document text) (Ok variants)

-- the load and the variants that the texts spell, without a fault: the variants of the load's own text, or of another
abbrev pub AreSpelled : List ℕ → Option (List ℕ) → Load → Variants → Type 0
AreSpelled text None load variants = Spells text load variants
AreSpelled text (Some other) load variants = ((own : Variants) × Spells text load own) × Lists other variants

-- the text of a load is read, and has no fault
abbrev pub SpellsLoad : List ℕ → Type 0
SpellsLoad text = (load : Load) × (variants : Variants) × Spells text load variants

-- more is said of the ending: what is wrong with a text, or which variants there are
abbrev pub IsExplained : LabEnding → Type 0
IsExplained (BadLoad first) = Unit {0}
IsExplained (BadVariants first) = Unit {0}
IsExplained NoVariant = Unit {0}
IsExplained Finished = ⊥
IsExplained (LoadUnread why) = ⊥
IsExplained (VariantsUnread why) = ⊥
IsExplained ScriptTooLong = ⊥
IsExplained Unaccounted = ⊥
IsExplained Unwritten = ⊥
IsExplained OutOfMemory = ⊥

-- the lab ends at the text of the load: it cannot be read, this is its first fault, or memory was wanting
abbrev pub EndsAtLoad : List ℕ → LabEnding → Type 0
EndsAtLoad text (LoadUnread why) = IsUnread why text
EndsAtLoad text (BadLoad first) =
    (length text ≤ 16777216) × ReadsLoad (parse_document text) (Err first) × (first ≢ fault.OutOfMemory)
EndsAtLoad text OutOfMemory = Unit {0}
EndsAtLoad text Finished = ⊥
EndsAtLoad text (VariantsUnread why) = ⊥
EndsAtLoad text (BadVariants first) = ⊥
EndsAtLoad text NoVariant = ⊥
EndsAtLoad text ScriptTooLong = ⊥
EndsAtLoad text Unaccounted = ⊥
EndsAtLoad text Unwritten = ⊥

-- the lab ends at the text of the variants, likewise
abbrev pub EndsAtVariants : List ℕ → LabEnding → Type 0
EndsAtVariants text (VariantsUnread why) = IsUnread why text
EndsAtVariants text (BadVariants first) =
    (length text ≤ 16777216) × ReadsVariants (parse_document text) (Err first) × (first ≢ fault.OutOfMemory)
EndsAtVariants text OutOfMemory = Unit {0}
EndsAtVariants text Finished = ⊥
EndsAtVariants text (LoadUnread why) = ⊥
EndsAtVariants text (BadLoad first) = ⊥
EndsAtVariants text NoVariant = ⊥
EndsAtVariants text ScriptTooLong = ⊥
EndsAtVariants text Unaccounted = ⊥
EndsAtVariants text Unwritten = ⊥

-- the lab ends before anything is written of a load and variants that are spelled
abbrev pub EndsAtTelling : LabOutput → Variants → LabEnding → Type 0
EndsAtTelling wanted variants NoVariant = IsOfNone wanted variants
EndsAtTelling wanted variants ScriptTooLong = IsOfOne wanted variants
EndsAtTelling wanted variants Unaccounted = IsOfNone wanted variants → ⊥
EndsAtTelling wanted variants OutOfMemory = Unit {0}
EndsAtTelling wanted variants Finished = ⊥
EndsAtTelling wanted variants (LoadUnread why) = ⊥
EndsAtTelling wanted variants (BadLoad first) = ⊥
EndsAtTelling wanted variants (VariantsUnread why) = ⊥
EndsAtTelling wanted variants (BadVariants first) = ⊥
EndsAtTelling wanted variants Unwritten = ⊥

-- after what is wanted of a load and variants was to be written: it was, whole; or a write failed; or it ends before
abbrev pub IsWrittenOf : LabOutput → Load → Variants → (old new : Option (List ℕ)) → LabEnding → Type 0
IsWrittenOf wanted load variants old new Finished =
    (text : List ℕ) × IsTold wanted load variants text × Appends old new text
IsWrittenOf wanted load variants old new Unwritten = Unit {0}
IsWrittenOf wanted load variants old new NoVariant = EndsAtTelling wanted variants NoVariant
IsWrittenOf wanted load variants old new ScriptTooLong = EndsAtTelling wanted variants ScriptTooLong
IsWrittenOf wanted load variants old new Unaccounted = EndsAtTelling wanted variants Unaccounted
IsWrittenOf wanted load variants old new OutOfMemory = Unit {0}
IsWrittenOf wanted load variants old new (LoadUnread why) = ⊥
IsWrittenOf wanted load variants old new (BadLoad first) = ⊥
IsWrittenOf wanted load variants old new (VariantsUnread why) = ⊥
IsWrittenOf wanted load variants old new (BadVariants first) = ⊥

-- after the lab was given these texts, that of the load, and that of the variants where they are not its own
abbrev pub IsTried : LabOutput → List ℕ → Option (List ℕ) → (old new : Option (List ℕ)) → LabEnding → Type 0
IsTried wanted text other old new Finished =
    (load : Load) × (variants : Variants) × AreSpelled text other load variants
    × IsWrittenOf wanted load variants old new Finished
IsTried wanted text other old new NoVariant =
    (load : Load) × (variants : Variants) × AreSpelled text other load variants
    × IsWrittenOf wanted load variants old new NoVariant
IsTried wanted text other old new ScriptTooLong =
    (load : Load) × (variants : Variants) × AreSpelled text other load variants
    × IsWrittenOf wanted load variants old new ScriptTooLong
IsTried wanted text other old new Unaccounted =
    (load : Load) × (variants : Variants) × AreSpelled text other load variants
    × IsWrittenOf wanted load variants old new Unaccounted
IsTried wanted text other old new (LoadUnread why) = EndsAtLoad text (LoadUnread why)
IsTried wanted text other old new (BadLoad first) = EndsAtLoad text (BadLoad first)
IsTried wanted text other old new (VariantsUnread why) =
    SpellsLoad text × IsSomeAnd other (λ those. EndsAtVariants those (VariantsUnread why))
IsTried wanted text other old new (BadVariants first) =
    SpellsLoad text × IsSomeAnd other (λ those. EndsAtVariants those (BadVariants first))
IsTried wanted text other old new OutOfMemory = Unit {0}
IsTried wanted text other old new Unwritten = Unit {0}

-- the lab ended at the load
abbrev pub IsOfLoad : LabEnding → Type 0
IsOfLoad (LoadUnread why) = Unit {0}
IsOfLoad (BadLoad first) = Unit {0}
IsOfLoad Finished = ⊥
IsOfLoad (VariantsUnread why) = ⊥
IsOfLoad (BadVariants first) = ⊥
IsOfLoad NoVariant = ⊥
IsOfLoad ScriptTooLong = ⊥
IsOfLoad Unaccounted = ⊥
IsOfLoad OutOfMemory = ⊥
IsOfLoad Unwritten = ⊥
