-- Keys that are not known, table by table.
use Rattle.std.proofs.Common.{ℕ, ◌≡◌, List, [], ◌∷◌, ◌++◌, map, take, drop, replicate, length, min, unwrap_or, Option, Some, None, String, Global, string_bytes, flat_map, refl, ap, subst, sym, ◌∙◌}
use Rattle.std.specs.Io.KnownBytes.{Appends}
use Rattle.std.proofs.KnownBytes.{Appends-trans}
use Rattle.std.proofs.lemmas.List.{flat_map_more}
use Rattle.std.proofs.lemmas.Grind.{flat_map-append}
use Rattle.std.proofs.lemmas.List.Folds.{flat_map-map}
use Rattle.std.specs.Map.{keys_of}
use Rattle.toml.specs.Data.{Members, as_table, no_members}
use Rattle.toml.specs.View.{members_view, view}
use Rattle.toml.specs.declared.value.Value.{Value}
use Rattle.pc_settings.specs.Fields.{key_of}
use Rattle.pc_settings.specs.Keys.{first_some, of_each}
use Rattle.pc_settings.specs.UnknownKeys as unknown
use Rattle.pc_settings.specs.UnknownKeys.{listed, start_of, unknown_in}
use Rattle.pc_settings.specs.Inner.Values.{table_in}
use Rattle.pc_settings.specs.declared.field.Field.TheVariants as field
use Rattle.pc_settings.specs.declared.known.TableKind.TheVariants.{Top, Thread, Restart, Variant}
use Rattle.pc_settings.specs.declared.unknown.KeyStart.{KeyStart}
use Rattle.pc_settings.specs.declared.unknown.UnknownKey.{UnknownKey}

-- what is no table has no keys
pub tables_seen : (values : List Value) → map table_in values ≡ map (λ value. unwrap_or (as_table value) no_members) (map view values)
tables_seen [] = refl
tables_seen (value ∷ values) = ap (λ tables. table_in value ∷ tables) (tables_seen values)

abbrev begun : List ℕ → ℕ → KeyStart
begun bytes n = record { bytes = bytes ++ drop n (replicate 41 0); length = n }

pub start_made : (key bytes : List ℕ) (n : ℕ) → bytes ≡ take 41 key → n ≡ min 41 (length key) → begun bytes n ≡ start_of key
start_made key bytes n is count = ap (λ those. begun those n) is ∙ ap (begun (take 41 key)) count

-- the keys of a map are those of the table
pub keys_seen : {F : Type 0} (f : List ℕ → Option F) (entries : List (String Global × Value))
    → map (λ key. f (string_bytes key)) (keys_of entries) ≡ map f (unknown.keys_of (members_view entries))
keys_seen f [] = refl
keys_seen f (entry ∷ entries) = ap (λ found. f (string_bytes entry.0) ∷ found) (keys_seen f entries)

-- the first of what is left is told
pub first_now : {X F : Type 0} (f : X → Option F) (left behind : List X) (x : X) (found : F) → left ≡ x ∷ behind → f x ≡ Some found
    → first_some (map f left) ≡ Some found
first_now f left behind x found is told = ap (λ xs. first_some (map f xs)) is ∙ ap (λ o. first_some (o ∷ map f behind)) told

pub first_later : {X F : Type 0} (f : X → Option F) (left behind : List X) (x : X) → left ≡ x ∷ behind → f x ≡ None
    → first_some (map f behind) ≡ first_some (map f left)
first_later f left behind x is none = sym (ap (λ xs. first_some (map f xs)) is ∙ ap (λ o. first_some (o ∷ map f behind)) none)

-- the keys of a text, table by table
abbrev pub of_top : Members → List (Option UnknownKey)
of_top table = unknown_in Top 0 table

abbrev pub of_threads : Members → List (Option UnknownKey)
of_threads table = of_each (unknown_in Thread) 0 (listed (key_of field.Threads) table)

abbrev pub of_restarts : Members → List (Option UnknownKey)
of_restarts table = of_each (unknown_in Restart) 0 (listed (key_of field.Restarts) table)

abbrev pub of_variants : Members → List (Option UnknownKey)
of_variants table = of_each (unknown_in Variant) 0 (listed (key_of field.Variants) table)

abbrev pub behind_restarts : Members → List (Option UnknownKey)
behind_restarts table = of_variants table

abbrev pub behind_threads : Members → List (Option UnknownKey)
behind_threads table = of_restarts table ++ behind_restarts table

abbrev pub behind_top : Members → List (Option UnknownKey)
behind_top table = of_threads table ++ behind_threads table

-- lines that are written one behind another
pub lines_more : {X : Type 0} (line : X → List ℕ) (before now after : Option (List ℕ)) (done : List X) (x : X) → Appends before now (flat_map line done)
    → Appends now after (line x) → Appends before after (flat_map line (done ++ x ∷ []))
lines_more line before now after done x wrote one =
    subst (Appends before after) (flat_map_more line [] done x) (Appends-trans before now after (flat_map line done) (line x) wrote one)

pub lines_behind : {X : Type 0} (line : X → List ℕ) (before now after : Option (List ℕ)) (done more : List X) → Appends before now (flat_map line done)
    → Appends now after (flat_map line more) → Appends before after (flat_map line (done ++ more))
lines_behind line before now after done more wrote behind =
    subst (Appends before after) (sym (flat_map-append line done more)) (Appends-trans before now after (flat_map line done) (flat_map line more) wrote behind)

-- the lines of a map's keys are those of the table's
pub key_lines : {F : Type 0} (line : Option F → List ℕ) (f : List ℕ → Option F) (entries : List (String Global × Value))
    → flat_map (λ key. line (f (string_bytes key))) (keys_of entries) ≡ flat_map line (map f (unknown.keys_of (members_view entries)))
key_lines line f entries = sym (flat_map-map line (λ key. f (string_bytes key)) (keys_of entries)) ∙ ap (flat_map line) (keys_seen f entries)
