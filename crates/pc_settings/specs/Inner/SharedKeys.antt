-- The keys that settings of a run and loads share, and what they tell.
use Rattle.std.specs.Prelude.{ℕ, ℤ, ◌≡◌, List, [], ◌∷◌, map, Option, Some, Result, Ok, Err, codes}
use Rattle.toml.specs.Data.{Members}
use Rattle.pc_settings.specs.Keys.{first_some, integer_at, texts_at, unless}
use Rattle.pc_settings.specs.Inner.Values.{text_in}
use Rattle.pc_settings.specs.declared.field.Field.{Field}
use Rattle.pc_settings.specs.declared.field.Field.TheVariants.{Queue, Mask, Steps}
use Rattle.pc_settings.specs.declared.shared_keys.ThreadKeys.{ThreadKeys}

-- what the keys of a thread tell; its steps are texts
pub record Told : Type 0 where
  pub queue : ℤ
  pub mask : ℤ
  pub texts : List (List ℕ)

abbrev pub told : ThreadKeys → Told
told keys = record { queue = keys.queue; mask = keys.mask; texts = map text_in keys.texts.now }

-- the keys of a thread that are absent or of another type
abbrev pub thread_faults : Members → List (Option Field)
thread_faults thread =
    unless (integer_at (codes "queue") thread) Queue
    ∷ unless (integer_at (codes "mask") thread) Mask
    ∷ unless (texts_at (codes "steps") thread) Steps
    ∷ []

-- what stands at the keys of a thread, or the first of them that is absent or of another type
abbrev pub AreKeysOf : Members → Result ThreadKeys Field → Type 0
AreKeysOf thread (Ok keys) =
    (integer_at (codes "queue") thread ≡ Some keys.queue) × (integer_at (codes "mask") thread ≡ Some keys.mask)
    × (texts_at (codes "steps") thread ≡ Some (map text_in keys.texts.now))
AreKeysOf thread (Err key) = first_some (thread_faults thread) ≡ Some key
