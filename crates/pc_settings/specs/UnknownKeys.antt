-- The keys of a text that are not known where they stand.
use Rattle.std.specs.Prelude.{ℕ, ◌++◌, List, [], ◌∷◌, map, take, drop, replicate, length, min, unwrap_or}
use Rattle.std.specs.Prelude.{Option, Some, None, option_and_then, if◌then◌else◌}
use Rattle.std.specs.List.{Contains}
use Rattle.toml.specs.Data.{Members, no_members, member, no_items, get_member, as_array, as_table}
use Rattle.pc_settings.specs.Fields.{key_of}
use Rattle.pc_settings.specs.Keys.{elements, of_each}
use Rattle.pc_settings.specs.KnownKeys.{is_known, known_keys}
use Rattle.pc_settings.specs.Nearness.{nearest_of}
use Rattle.pc_settings.specs.declared.field.Field.TheVariants as field
use Rattle.pc_settings.specs.declared.known.TableKind.{TableKind}
use Rattle.pc_settings.specs.declared.known.TableKind.TheVariants.{Top, Thread, Restart, Variant}
use Rattle.pc_settings.specs.declared.unknown.KeyStart.{KeyStart}
use Rattle.pc_settings.specs.declared.unknown.UnknownKey.{UnknownKey}

-- the keys of a table, in the order in which it keeps them: that of their bytes, and not that of the text
abbrev pub keys_of : Members → List (List ℕ)
keys_of no_members = []
keys_of (member key value others) = key ∷ keys_of others

-- the tables that a key lists; what is no table there has no keys
abbrev pub listed : List ℕ → Members → List Members
listed key table =
    map (λ value. unwrap_or (as_table value) no_members)
    (elements (unwrap_or (option_and_then as_array (get_member key table)) no_items))

-- the first 41 bytes of a key, with zeros behind a shorter one
abbrev pub start_of : List ℕ → KeyStart
start_of key =
    let length = min 41 (length key) in record { bytes = take 41 key ++ drop length (replicate 41 0); length = length }

-- a key that is not known in such a table, of this place among those of its kind
abbrev pub unknown_at : TableKind → ℕ → List ℕ → Option UnknownKey
unknown_at kind place key =
    if is_known kind key then None
    else Some (record { key = start_of key; table = kind; place = place; nearest = nearest_of kind key })

-- of each key of a table, in their order, that it is not known
abbrev pub unknown_in : TableKind → ℕ → Members → List (Option UnknownKey)
unknown_in kind place table = map (unknown_at kind place) (keys_of table)

-- of each key of a text: of its own table, then of each thread, of each restart, and of each variant
abbrev pub unknown_keys : Members → List (Option UnknownKey)
unknown_keys table =
    unknown_in Top 0 table
    ++ (of_each (unknown_in Thread) 0 (listed (key_of field.Threads) table)
    ++ (of_each (unknown_in Restart) 0 (listed (key_of field.Restarts) table)
    ++ of_each (unknown_in Variant) 0 (listed (key_of field.Variants) table)))

-- each key of the table is one that such a table may have
abbrev pub HasKnownKeys : TableKind → Members → Type 0
HasKnownKeys kind table = (key : List ℕ) → Contains (keys_of table) key → Contains (known_keys kind) key

-- and each key of a text
abbrev pub AreAllKnown : Members → Type 0
AreAllKnown table =
    HasKnownKeys Top table
    × ((thread : Members) → Contains (listed (key_of field.Threads) table) thread → HasKnownKeys Thread thread)
    × ((restart : Members) → Contains (listed (key_of field.Restarts) table) restart → HasKnownKeys Restart restart)
    × ((variant : Members) → Contains (listed (key_of field.Variants) table) variant → HasKnownKeys Variant variant)
