-- The loads and variants that TOML texts spell, and what is wrong with a text that spells none.
use Rattle.std.specs.Prelude.{ℕ, ℤ, pos, ◌≡◌, ◌⊎◌, false, List, [], ◌∷◌, ◌++◌, map, filter_map}
use Rattle.std.specs.Prelude.{Option, Some, None, Result, Ok, Err, unwrap_or, option_map, codes}
use Rattle.toml.specs.Data.{Members}
use Rattle.pc_load.specs.Loads.{Need, Demand, demand, end_of, fault_of}
use Rattle.pc_load.specs.Variants.{Choice, or_plain, plain, plain_order, variant_fault}
use Rattle.pc_policy.specs.Names.{order_of}
use Rattle.pc_load.specs.declared.load.Load.{Load}
use Rattle.pc_load.specs.declared.variant.Variants.{Variants}
use Rattle.pc_settings.specs.Keys.{first_some, of_each, unless, integer_at, integer_or, integers_at, switch_or}
use Rattle.pc_settings.specs.Keys.{tables_at, text_at, text_or, texts_at}
use Rattle.pc_settings.specs.Steps.{read_step}
use Rattle.pc_settings.specs.declared.field.Field.TheVariants as field
use Rattle.pc_settings.specs.declared.loads.LoadTextFault.{LoadTextFault}
use Rattle.pc_settings.specs.declared.loads.LoadTextFault.TheVariants.{NotToml, BadField, BadStep, BadLoad, BadVariants}
use Rattle.pc_settings.specs.declared.loads.LoadTextFault.TheVariants.{OutOfMemory, UnknownKey}
use Rattle.pc_settings.specs.UnknownKeys.{unknown_keys}

-- What the keys of a text tell; what is said of a key that tells nothing plays no part, since it is a fault.

-- what the keys of a thread tell; its steps are texts
pub record Told : Type 0 where
  pub queue : ℤ
  pub mask : ℤ
  pub texts : List (List ℕ)
  pub start : ℤ
  pub level : ℤ
  pub sleeps : List ℤ

-- what the table of a thread tells
abbrev pub told_in : Members → Told
told_in thread = record {
  queue = unwrap_or (integer_at (codes "queue") thread) (pos 0);
  mask = unwrap_or (integer_at (codes "mask") thread) (pos 0);
  texts = unwrap_or (texts_at (codes "steps") thread) [];
  start = unwrap_or (integer_or (pos 0) (codes "start") thread) (pos 0);
  level = unwrap_or (integer_or (pos 0) (codes "level") thread) (pos 0);
  sleeps = unwrap_or (integers_at (codes "sleeps") thread) [];
}

-- what the thread needs, whose steps are those that its texts are
abbrev pub need_told : Told → Need
need_told told = record {
  queue = told.queue;
  mask = told.mask;
  steps = filter_map read_step told.texts;
  start = told.start;
  level = told.level;
  sleeps = told.sleeps;
}

-- what the table of a variant tells, where an absent key has the value of the plain one
abbrev pub choice_told : Members → Choice
choice_told variant = record {
  name = unwrap_or (text_at (codes "name") variant) [];
  order = order_of (unwrap_or (text_or plain_order (codes "order") variant) []);
  steals = unwrap_or (text_or plain.steals (codes "steals") variant) [];
  quantum = unwrap_or (integer_or plain.quantum (codes "quantum") variant) (pos 0);
  group = unwrap_or (integer_or plain.group (codes "group") variant) (pos 0);
  delay = unwrap_or (integer_or plain.delay (codes "delay") variant) (pos 0);
  cost = unwrap_or (integer_or plain.cost (codes "cost") variant) (pos 0);
  urgent = unwrap_or (switch_or plain.urgent (codes "urgent") variant) false;
  keep = unwrap_or (switch_or plain.keep (codes "keep") variant) false;
}

-- the tables of threads
abbrev pub threads_in : Members → List Members
threads_in table = unwrap_or (tables_at (codes "thread") table) []

-- the tables of variants
abbrev pub variants_in : Members → List Members
variants_in table = unwrap_or (tables_at (codes "variant") table) []

-- the load that a text spells, whose end is the tick of the text
abbrev pub demand_in : Members → Demand
demand_in table =
    demand (unwrap_or (integer_at (codes "cpus") table) (pos 0))
    (unwrap_or (integer_or (pos 0) (codes "until") table) (pos 0))
    (map (λ thread. need_told (told_in thread)) (threads_in table))

-- the variants that a text spells
abbrev pub choices_in : Members → List Choice
choices_in table = map choice_told (variants_in table)

-- The faults of a text, in the order in which they are told.

-- the keys of a thread that are absent or of another type
abbrev pub thread_faults : Members → List (Option LoadTextFault)
thread_faults thread =
    unless (integer_at (codes "queue") thread) (BadField field.Queue)
    ∷ unless (integer_at (codes "mask") thread) (BadField field.Mask)
    ∷ unless (texts_at (codes "steps") thread) (BadField field.Steps)
    ∷ unless (integer_or (pos 0) (codes "start") thread) (BadField field.Start)
    ∷ unless (integer_or (pos 0) (codes "level") thread) (BadField field.Level)
    ∷ unless (integers_at (codes "sleeps") thread) (BadField field.Sleeps)
    ∷ []

-- the keys of a variant that are absent or of another type
abbrev pub choice_faults : Members → List (Option LoadTextFault)
choice_faults variant =
    unless (text_at (codes "name") variant) (BadField field.Name)
    ∷ unless (text_or plain_order (codes "order") variant) (BadField field.Order)
    ∷ unless (text_or plain.steals (codes "steals") variant) (BadField field.Steals)
    ∷ unless (integer_or plain.quantum (codes "quantum") variant) (BadField field.Quantum)
    ∷ unless (integer_or plain.group (codes "group") variant) (BadField field.Group)
    ∷ unless (integer_or plain.delay (codes "delay") variant) (BadField field.Delay)
    ∷ unless (integer_or plain.cost (codes "cost") variant) (BadField field.Cost)
    ∷ unless (switch_or plain.urgent (codes "urgent") variant) (BadField field.Urgent)
    ∷ unless (switch_or plain.keep (codes "keep") variant) (BadField field.Keep)
    ∷ []

-- a text that is no step, with the places of its thread and of the text
abbrev pub text_fault : ℕ → ℕ → List ℕ → List (Option LoadTextFault)
text_fault thread step text = unless (read_step text) (BadStep thread step) ∷ []

-- the texts of a thread that are no step
abbrev pub step_faults : ℕ → Told → List (Option LoadTextFault)
step_faults thread told = of_each (text_fault thread) 0 told.texts

-- the keys of a text's variants, and the key of their list
abbrev pub variants_faults : Members → List (Option LoadTextFault)
variants_faults table =
    unless (tables_at (codes "variant") table) (BadField field.Variants)
    ∷ of_each (λ place. choice_faults) 0 (variants_in table)

-- the keys of a text's threads, and the key of their list
abbrev pub threads_faults : Members → List (Option LoadTextFault)
threads_faults table =
    unless (tables_at (codes "thread") table) (BadField field.Threads)
    ∷ of_each (λ place. thread_faults) 0 (threads_in table)

-- the load that is spelled, and the variants
abbrev pub asked_faults : Demand → List Choice → List (Option LoadTextFault)
asked_faults all choices = option_map BadLoad (fault_of all) ∷ option_map BadVariants (variant_fault choices) ∷ []

-- the keys of a load, then those of its variants, then the steps, the load that is spelled, and the variants
abbrev pub load_faults : Members → List (Option LoadTextFault)
load_faults table =
    unless (integer_at (codes "cpus") table) (BadField field.Cpus)
    ∷ unless (integer_or (pos 0) (codes "until") table) (BadField field.Until)
    ∷ (threads_faults table
    ++ (variants_faults table
    ++ (of_each step_faults 0 (map told_in (threads_in table))
    ++ asked_faults (demand_in table) (choices_in table))))

-- the keys of variants alone, and the variants
abbrev pub choices_faults : Members → List (Option LoadTextFault)
choices_faults table = variants_faults table ++ option_map BadVariants (variant_fault (choices_in table)) ∷ []

-- the keys that are not known where they stand
abbrev pub unknown_faults : Members → List (Option LoadTextFault)
unknown_faults table = map (option_map UnknownKey) (unknown_keys table)

-- what may be wrong with the text of a load: keys that are not known come first
abbrev pub load_text_faults : Members → List (Option LoadTextFault)
load_text_faults table = unknown_faults table ++ load_faults table

-- and with the text of variants
abbrev pub variants_text_faults : Members → List (Option LoadTextFault)
variants_text_faults table = unknown_faults table ++ choices_faults table

-- the fault of a text, or memory was wanting
abbrev pub IsFault : List (Option LoadTextFault) → LoadTextFault → Type 0
IsFault faults fault = (first_some faults ≡ Some fault) ⊎ (fault ≡ OutOfMemory)

-- what was read in a stage that may find these faults
abbrev pub IsRead : {A B : Type 0} → List (Option LoadTextFault) → A → (B → A) → Result B LoadTextFault → Type 0
IsRead faults value seen (Ok b) = (first_some faults ≡ None) × (seen b ≡ value)
IsRead faults value seen (Err fault) = IsFault faults fault

-- what holds of what was read in a stage that may find these faults
abbrev pub Finds : {B : Type 0} → List (Option LoadTextFault) → (B → Type 0) → Result B LoadTextFault → Type 0
Finds faults holds (Ok b) = (first_some faults ≡ None) × holds b
Finds faults holds (Err fault) = IsFault faults fault

-- a load with the end that a text's tick stands for, and variants, at least the plain one
abbrev pub AreAsked : Demand → List Choice → Load × Variants → Type 0
AreAsked all choices read =
    (read.0 ≡ demand all.cpus (end_of all.until) all.threads) × (read.1 ≡ or_plain choices)

-- the load and the variants that the table of a text spells, or its first fault; or memory was wanting
abbrev pub ReadsLoad : Option Members → Result (Load × Variants) LoadTextFault → Type 0
ReadsLoad (Some table) result =
    Finds (load_text_faults table) (AreAsked (demand_in table) (choices_in table)) result
ReadsLoad None (Ok read) = ⊥
ReadsLoad None (Err fault) = (fault ≡ NotToml) ⊎ (fault ≡ OutOfMemory)

-- the variants that the table of a text spells, or its first fault; or memory was wanting
abbrev pub ReadsVariants : Option Members → Result Variants LoadTextFault → Type 0
ReadsVariants (Some table) result =
    Finds (variants_text_faults table) (λ variants. variants ≡ or_plain (choices_in table)) result
ReadsVariants None (Ok variants) = ⊥
ReadsVariants None (Err fault) = (fault ≡ NotToml) ⊎ (fault ≡ OutOfMemory)
