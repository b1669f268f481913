-- Tables that are read in stages, each of which may find a fault.
use Rattle.std.proofs.Common.{ℤ, pos, ◌≡◌, List, [], ◌∷◌, ◌++◌, map, Option, Some, None, option_map, unwrap_or, Result, Ok, Err, codes, refl, sym, ap, ◌∙◌, subst, inl, inr, IfOk, IfSome}
use Rattle.toml.specs.Data.{Members}
use Rattle.pc_load.specs.Loads.{Need, demand}
use Rattle.pc_load.specs.Variants.{Choice, or_plain, variant_fault}
use Rattle.pc_load.specs.declared.load.Load.{Load}
use Rattle.pc_load.specs.declared.variant.Variants.{Variants}
use Rattle.pc_settings.specs.Keys.{first_some, integer_at, integer_or, of_each, tables_at, unless}
use Rattle.pc_settings.specs.declared.field.Field.TheVariants as field
use Rattle.pc_settings.specs.declared.loads.LoadTextFault.{LoadTextFault}
use Rattle.pc_settings.specs.declared.loads.LoadTextFault.TheVariants.{BadField, BadVariants, UnknownKey}
use Rattle.pc_settings.specs.LoadTexts.{AreAsked, Finds, IsFault, IsRead, Told, asked_faults, choice_faults, choice_told, choices_faults, choices_in, demand_in, load_faults, need_told, step_faults, thread_faults, threads_faults, threads_in, told_in, unknown_faults, variants_faults}
use Rattle.pc_settings.specs.UnknownKeys.{AreAllKnown, unknown_keys}
use Rattle.pc_settings.specs.declared.unknown.UnknownKey as unknown
use Rattle.pc_settings.proofs.AllKnown.{all_known, none_first}
use Rattle.pc_settings.proofs.Stages.{through, told_first}

skip : {A F : Type 0} (o : Option A) (a : A) (fault : F) (rest : List (Option F)) → o ≡ Some a → first_some (unless o fault ∷ rest) ≡ first_some rest
skip None a fault rest e = cc
skip (Some b) a fault rest e = refl

-- the lists of tables
pub threads_listed : {B : Type 0} (table : Members) (tables : List Members) (seen : B → List Told) (r : Result B LoadTextFault) → tables_at (codes "thread") table ≡ Some tables
    → IsRead (of_each (λ place. thread_faults) 0 tables) (map told_in tables) seen r → IsRead (threads_faults table) (map told_in (threads_in table)) seen r
threads_listed table tables seen (Ok b) e h = rw e h
threads_listed table tables seen (Err fault) e h = rw e h

pub choices_listed : {B : Type 0} (table : Members) (tables : List Members) (seen : B → List Choice) (r : Result B LoadTextFault) → tables_at (codes "variant") table ≡ Some tables
    → IsRead (of_each (λ place. choice_faults) 0 tables) (map choice_told tables) seen r → IsRead (variants_faults table) (choices_in table) seen r
choices_listed table tables seen (Ok b) e h = rw e h
choices_listed table tables seen (Err fault) e h = rw e h

-- the stages of a load
abbrev behind_variants : Members → List (Option LoadTextFault)
behind_variants table = of_each step_faults 0 (map told_in (threads_in table)) ++ asked_faults (demand_in table) (choices_in table)

abbrev behind_threads : Members → List (Option LoadTextFault)
behind_threads table = variants_faults table ++ behind_variants table

abbrev behind_keys : Members → List (Option LoadTextFault)
behind_keys table = threads_faults table ++ behind_threads table

-- the integers of a load are there
pub record Keyed (table : Members) (cpus until : ℤ) : Type 0 where
  pub cpus_is : integer_at (codes "cpus") table ≡ Some cpus
  pub until_is : integer_or (pos 0) (codes "until") table ≡ Some until

keys_pass : (table : Members) (cpus until : ℤ) → Keyed table cpus until → first_some (load_faults table) ≡ first_some (behind_keys table)
keys_pass table cpus until h =
    skip (integer_at (codes "cpus") table) cpus (BadField field.Cpus) (unless (integer_or (pos 0) (codes "until") table) (BadField field.Until) ∷ behind_keys table) h.cpus_is
    ∙ skip (integer_or (pos 0) (codes "until") table) until (BadField field.Until) (behind_keys table) h.until_is

moved : (faults others : List (Option LoadTextFault)) (fault : LoadTextFault) → (first_some faults ≡ Some fault → first_some others ≡ Some fault) → IsFault faults fault → IsFault others fault
moved faults others fault step (inl h) = inl (step h)
moved faults others fault step (inr h) = inr h

pub threads_told : (table : Members) (cpus until : ℤ) (fault : LoadTextFault) → Keyed table cpus until → IsFault (threads_faults table) fault → IsFault (load_faults table) fault
threads_told table cpus until fault h told =
    moved (threads_faults table) (load_faults table) fault (λ e. keys_pass table cpus until h ∙ told_first (threads_faults table) (behind_threads table) fault e) told

pub variants_told : (table : Members) (cpus until : ℤ) (fault : LoadTextFault) → Keyed table cpus until → first_some (threads_faults table) ≡ None
    → IsFault (variants_faults table) fault → IsFault (load_faults table) fault
variants_told table cpus until fault h threads told =
    moved (variants_faults table) (load_faults table) fault
    (λ e. keys_pass table cpus until h ∙ through (threads_faults table) (behind_threads table) threads ∙ told_first (variants_faults table) (behind_variants table) fault e) told

pub steps_told : (table : Members) (cpus until : ℤ) (those : List Told) (fault : LoadTextFault) → Keyed table cpus until → first_some (threads_faults table) ≡ None
    → first_some (variants_faults table) ≡ None → those ≡ map told_in (threads_in table) → IsFault (of_each step_faults 0 those) fault → IsFault (load_faults table) fault
steps_told table cpus until those fault h threads variants same told =
    moved (of_each step_faults 0 those) (load_faults table) fault
    (λ e. keys_pass table cpus until h ∙ through (threads_faults table) (behind_threads table) threads ∙ through (variants_faults table) (behind_variants table) variants
    ∙ told_first (of_each step_faults 0 (map told_in (threads_in table))) (asked_faults (demand_in table) (choices_in table)) fault
    (ap (λ xs. first_some (of_each step_faults 0 xs)) (sym same) ∙ e)) told

map_twice : (tables : List Members) → map need_told (map told_in tables) ≡ map (λ thread. need_told (told_in thread)) tables
map_twice [] = refl
map_twice (table ∷ tables) = ap (λ xs. need_told (told_in table) ∷ xs) (map_twice tables)

demanded : (table : Members) (cpus until : ℤ) (those : List Told) (needs : List Need) → Keyed table cpus until → those ≡ map told_in (threads_in table) → needs ≡ map need_told those
    → demand cpus until needs ≡ demand_in table
demanded table cpus until those needs h same needed =
    ap (λ o. demand (unwrap_or o (pos 0)) until needs) (sym h.cpus_is)
    ∙ ap (λ o. demand (unwrap_or (integer_at (codes "cpus") table) (pos 0)) (unwrap_or o (pos 0)) needs) (sym h.until_is)
    ∙ ap (demand (unwrap_or (integer_at (codes "cpus") table) (pos 0)) (unwrap_or (integer_or (pos 0) (codes "until") table) (pos 0)))
    (needed ∙ ap (map need_told) same ∙ map_twice (threads_in table))

pub found_at : {B : Type 0} (faults others : List (Option LoadTextFault)) (holds : B → Type 0) (r : Result B LoadTextFault) → first_some others ≡ first_some faults
    → Finds faults holds r → Finds others holds r
found_at faults others holds (Ok b) e h = (e ∙ h.0, h.1)
found_at faults others holds (Err fault) e h = moved faults others fault (λ f. e ∙ f) h

pub all_read : (table : Members) (cpus until : ℤ) (those : List Told) (needs : List Need) (choices : List Choice) (r : Result (Load × Variants) LoadTextFault) → Keyed table cpus until
    → first_some (threads_faults table) ≡ None → first_some (variants_faults table) ≡ None → those ≡ map told_in (threads_in table)
    → first_some (of_each step_faults 0 those) ≡ None → needs ≡ map need_told those → choices ≡ choices_in table
    → Finds (asked_faults (demand cpus until needs) choices) (AreAsked (demand cpus until needs) choices) r
    → Finds (load_faults table) (AreAsked (demand_in table) (choices_in table)) r
all_read table cpus until those needs choices r h threads variants same steps needed chosen found =
    let all : demand cpus until needs ≡ demand_in table = demanded table cpus until those needs h same needed in
    let there = subst (λ d. Finds (asked_faults d (choices_in table)) (AreAsked d (choices_in table)) r) all
    (subst (λ xs. Finds (asked_faults (demand cpus until needs) xs) (AreAsked (demand cpus until needs) xs) r) chosen found) in
    found_at (asked_faults (demand_in table) (choices_in table)) (load_faults table) (AreAsked (demand_in table) (choices_in table)) r
    (keys_pass table cpus until h ∙ through (threads_faults table) (behind_threads table) threads ∙ through (variants_faults table) (behind_variants table) variants
    ∙ through (of_each step_faults 0 (map told_in (threads_in table))) (asked_faults (demand_in table) (choices_in table))
    (ap (λ xs. first_some (of_each step_faults 0 xs)) (sym same) ∙ steps)) there

-- the stages of variants
abbrev asked_choices : List Choice → List (Option LoadTextFault)
asked_choices choices = option_map BadVariants (variant_fault choices) ∷ []

pub choices_told : (table : Members) (fault : LoadTextFault) → IsFault (variants_faults table) fault → IsFault (choices_faults table) fault
choices_told table fault told =
    moved (variants_faults table) (choices_faults table) fault (λ e. told_first (variants_faults table) (asked_choices (choices_in table)) fault e) told

pub choices_read : (table : Members) (choices : List Choice) (r : Result Variants LoadTextFault) → first_some (variants_faults table) ≡ None → choices ≡ choices_in table
    → Finds (option_map BadVariants (variant_fault choices) ∷ []) (λ variants. variants ≡ or_plain choices) r
    → Finds (choices_faults table) (λ variants. variants ≡ or_plain (choices_in table)) r
choices_read table choices r variants chosen found =
    found_at (asked_choices (choices_in table)) (choices_faults table) (λ variants. variants ≡ or_plain (choices_in table)) r
    (through (variants_faults table) (asked_choices (choices_in table)) variants)
    (subst (λ xs. Finds (asked_choices xs) (λ variants. variants ≡ or_plain xs) r) chosen found)

-- keys that are not known come first
first_mapped : {F G : Type 0} (g : F → G) (found : List (Option F)) → first_some (map (option_map g) found) ≡ option_map g (first_some found)
first_mapped g [] = refl
first_mapped g (None ∷ found) = first_mapped g found
first_mapped g (Some f ∷ found) = refl

pub unknown_told : (table : Members) (rest : List (Option LoadTextFault)) (unknown : unknown.UnknownKey) → first_some (unknown_keys table) ≡ Some unknown
    → IsFault (unknown_faults table ++ rest) (UnknownKey unknown)
unknown_told table rest unknown told =
    inl (told_first (unknown_faults table) rest (UnknownKey unknown) (first_mapped UnknownKey (unknown_keys table) ∙ ap (option_map UnknownKey) told))

pub known_read : {B : Type 0} (table : Members) (rest : List (Option LoadTextFault)) (holds : B → Type 0) (r : Result B LoadTextFault)
    → first_some (unknown_keys table) ≡ None → Finds rest holds r → Finds (unknown_faults table ++ rest) holds r
known_read table rest holds r none found =
    found_at rest (unknown_faults table ++ rest) holds r
    (through (unknown_faults table) rest (first_mapped UnknownKey (unknown_keys table) ∙ ap (option_map UnknownKey) none)) found

none_told : (table : Members) (told : Option unknown.UnknownKey) → first_some (unknown_keys table) ≡ told → option_map UnknownKey told ≡ None → first_some (unknown_keys table) ≡ None
none_told table None is none = is
none_told table (Some unknown) is none = cc

-- what is read has known keys alone
pub read_known : {B : Type 0} (document : Option Members) (table : Members) (rest : List (Option LoadTextFault)) (holds : B → Type 0) (r : Result B LoadTextFault)
    → document ≡ Some table → Finds (unknown_faults table ++ rest) holds r → IfOk r (λ b. IfSome document AreAllKnown)
read_known document table rest holds (Ok b) is found =
    let none : first_some (unknown_faults table) ≡ None = none_first (unknown_faults table) rest found.0 in
    subst (λ those. IfSome those AreAllKnown) (sym is)
    (all_known table (none_told table (first_some (unknown_keys table)) refl (sym (first_mapped UnknownKey (unknown_keys table)) ∙ none)))
read_known document table rest holds (Err fault) is found = tt
