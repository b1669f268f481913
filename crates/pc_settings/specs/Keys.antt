-- What stands at the keys of a table, and the first of faults.
use Rattle.std.specs.Prelude.{ℕ, ℤ, ◌+◌, Bool, List, [], ◌∷◌, ◌++◌, map, Option, Some, None, option_map}
use Rattle.std.specs.Prelude.{option_and_then}
use Rattle.std.specs.Option.{option_map_or}
use Rattle.toml.specs.Data.{Data, Items, no_items, item, Members, get_member, as_integer, as_bool, as_str, as_array}
use Rattle.toml.specs.Data.{as_table}

-- of what may be there, the first that is
abbrev pub first_some : {A : Type 0} → List (Option A) → Option A
first_some [] = None
first_some (None ∷ rest) = first_some rest
first_some (Some a ∷ rest) = Some a

-- this fault, unless there is a value
abbrev pub unless : {A F : Type 0} → Option A → F → Option F
unless None fault = Some fault
unless (Some a) fault = None

-- the elements of a list
abbrev pub elements : Items → List Data
elements no_items = []
elements (item value items) = value ∷ elements items

-- all of them, where each is there
abbrev pub all_some : {A : Type 0} → List (Option A) → Option (List A)
all_some [] = Some []
all_some (None ∷ rest) = None
all_some (Some a ∷ rest) = option_map (λ others. a ∷ others) (all_some rest)

-- a list each of whose elements is of one kind
abbrev pub list_of : {A : Type 0} → (Data → Option A) → Data → Option (List A)
list_of kind value = option_and_then (λ items. all_some (map kind (elements items))) (as_array value)

-- what stands at a key, of this kind
abbrev pub kind_at : {A : Type 0} → (Data → Option A) → List ℕ → Members → Option A
kind_at kind key table = option_and_then kind (get_member key table)

-- the same, or this where the key is absent
abbrev pub kind_or : {A : Type 0} → (Data → Option A) → A → List ℕ → Members → Option A
kind_or kind absent key table = option_map_or kind (get_member key table) (Some absent)

-- the integer at a key
abbrev pub integer_at : List ℕ → Members → Option ℤ
integer_at key table = kind_at as_integer key table

-- the integer at a key, or this where it is absent
abbrev pub integer_or : ℤ → List ℕ → Members → Option ℤ
integer_or absent key table = kind_or as_integer absent key table

-- the text at a key
abbrev pub text_at : List ℕ → Members → Option (List ℕ)
text_at key table = kind_at as_str key table

-- the text at a key, or this where it is absent
abbrev pub text_or : List ℕ → List ℕ → Members → Option (List ℕ)
text_or absent key table = kind_or as_str absent key table

-- whether the setting at a key is on, or this where it is absent
abbrev pub switch_or : Bool → List ℕ → Members → Option Bool
switch_or absent key table = kind_or as_bool absent key table

-- the list of texts at a key
abbrev pub texts_at : List ℕ → Members → Option (List (List ℕ))
texts_at key table = kind_at (list_of as_str) key table

-- a list of integers, which may be absent
abbrev pub integers_at : List ℕ → Members → Option (List ℤ)
integers_at key table = kind_or (list_of as_integer) [] key table

-- a list of tables, which may be absent
abbrev pub tables_at : List ℕ → Members → Option (List Members)
tables_at key table = kind_or (list_of as_table) [] key table

-- the faults of all elements, each with its place, from this one on
abbrev pub of_each : {X F : Type 0} → (ℕ → X → List (Option F)) → ℕ → List X → List (Option F)
of_each faults place [] = []
of_each faults place (x ∷ xs) = faults place x ++ of_each faults (place + 1) xs
