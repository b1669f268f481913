-- What is written of a load under variants.
use Rattle.std.specs.Prelude.{◌≡◌, ℕ, Bool, List, [], ◌++◌, map, bytes_eq}
use Rattle.std.specs.List.{AllZip, Contains}
use Rattle.pc_curves.specs.Waits.{IsPictureOfWaits}
use Rattle.pc_lab.specs.Heads.{head_text}
use Rattle.pc_lab.specs.Limits.{limits_for}
use Rattle.pc_lab.specs.Texts.{body_text}
use Rattle.pc_lab.specs.Playing.{IsPlayedBy}
use Rattle.pc_lab.specs.declared.fault.LabFault.{LabFault}
use Rattle.pc_lab.specs.declared.fault.LabFault.TheVariants as lab
use Rattle.pc_lab.specs.declared.summary.Played.{Played}
use Rattle.pc_load.specs.Loads.{Demand}
use Rattle.pc_load.specs.Variants.{Choice, choice_of}
use Rattle.pc_load.specs.declared.variant.Variant.{Variant}
use Rattle.pc_table.specs.Sheets.{text_of}
use Rattle.pc_table.specs.declared.form.Column.{Column}
use Rattle.pc_table.specs.declared.form.Form.{Form}
use Rattle.pc_trial.specs.declared.fault.CompareFault.{CompareFault}
use Rattle.pc_trial.specs.declared.fault.CompareFault.TheVariants.{NoVariant, ScriptTooLong, TooLong}
use Rattle.pc_trial.specs.declared.fault.CompareFault.TheVariants.{Unaccounted, OutOfMemory}

-- a fault of the lab, as it is told
abbrev pub fault_of : LabFault → CompareFault
fault_of lab.OutOfMemory = OutOfMemory
fault_of lab.ScriptTooLong = ScriptTooLong
fault_of lab.TooLong = TooLong
fault_of lab.Unaccounted = Unaccounted

-- runs that leave no script can have this fault: it is not that there is no variant, nor that a script is too long
abbrev pub IsOfRuns : CompareFault → Type 0
IsOfRuns NoVariant = ⊥
IsOfRuns ScriptTooLong = ⊥
IsOfRuns TooLong = Unit {0}
IsOfRuns Unaccounted = Unit {0}
IsOfRuns OutOfMemory = Unit {0}

-- A column has the name of a variant, and the summary of a run of the load that was played under it
pub record IsRunOf (load : Demand) (variant : Variant) (column : Column) : Type 0 where
  pub name : column.name.now ≡ variant.name.items
  pub played : Played
  pub is_played : IsPlayedBy load variant.policy variant.keep [] played
  pub summary : column.summary ≡ played.summary

-- A text compares runs of the load, one that was played under each of the variants, in their order
pub record Compares (load : Demand) (choices : List Choice) (form : Form) (text : List ℕ) : Type 0 where
  pub variants : List Variant
  pub chosen : map choice_of variants ≡ choices
  pub columns : List Column
  pub runs : AllZip (IsRunOf load) variants columns
  pub told : text ≡ text_of form load columns

-- A text is a picture of the waits of such runs
pub record Draws (load : Demand) (choices : List Choice) (text : List ℕ) : Type 0 where
  pub variants : List Variant
  pub chosen : map choice_of variants ≡ choices
  pub columns : List Column
  pub runs : AllZip (IsRunOf load) variants columns
  pub drawn : IsPictureOfWaits columns text

-- it has this name
abbrev pub is_named : List ℕ → Choice → Bool
is_named name choice = bytes_eq choice.name name

-- A text is the script of a run of the load that was played under the variant: what stands in front of the run's
-- events, and their lines
pub record IsScript (load : Demand) (variant : Variant) (text : List ℕ) : Type 0 where
  pub played : Played
  pub is_played : IsPlayedBy load variant.policy variant.keep (head_text (limits_for load) variant) played
  pub told : text ≡ head_text (limits_for load) variant ++ body_text is_played.moments

-- A text is such a script, of the variant that has this name
pub record IsScriptOf (load : Demand) (choices : List Choice) (name text : List ℕ) : Type 0 where
  pub variants : List Variant
  pub chosen : map choice_of variants ≡ choices
  pub variant : Variant
  pub there : Contains variants variant
  pub named : variant.name.items ≡ name
  pub script : IsScript load variant text
