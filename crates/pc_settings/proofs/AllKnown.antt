-- Where no key is told, all are known.
use Rattle.std.proofs.Common.{ℕ, zero, suc, ◌≡◌, ◌+◌, ◌||◌, Bool, true, false, List, [], ◌∷◌, ◌++◌, map, Option, Some, None, refl, sym, ap, ◌∙◌, arith}
use Rattle.std.specs.Prelude.{bytes_eq, if◌then◌else◌}
use Rattle.std.proofs.lemmas.Slice.Eq.{bytes_eq-Decides}
use Rattle.std.specs.List.{Contains, list_any}
use Rattle.toml.specs.Data.{Members}
use Rattle.pc_settings.specs.Fields.{key_of}
use Rattle.pc_settings.specs.Keys.{first_some, of_each}
use Rattle.pc_settings.specs.KnownKeys.{fields_of, is_known}
use Rattle.pc_settings.specs.UnknownKeys.{AreAllKnown, HasKnownKeys, keys_of, listed, unknown_at, unknown_in, unknown_keys}
use Rattle.pc_settings.specs.declared.field.Field.{Field}
use Rattle.pc_settings.specs.declared.field.Field.TheVariants as field
use Rattle.pc_settings.specs.declared.known.TableKind.{TableKind}
use Rattle.pc_settings.specs.declared.known.TableKind.TheVariants.{Top, Thread, Restart, Variant}
use Rattle.pc_settings.specs.declared.unknown.UnknownKey.{UnknownKey}
use Rattle.pc_settings.proofs.UnknownKeys.{of_top, of_threads, of_restarts, behind_top, behind_threads, behind_restarts}

-- of two lists neither has one
pub none_first : {F : Type 0} (some more : List (Option F)) → first_some (some ++ more) ≡ None → first_some some ≡ None
none_first [] more e = refl
none_first (None ∷ some) more e = none_first some more e
none_first (Some f ∷ some) more e = cc

none_behind : {F : Type 0} (some more : List (Option F)) → first_some (some ++ more) ≡ None → first_some more ≡ None
none_behind [] more e = e
none_behind (None ∷ some) more e = none_behind some more e
none_behind (Some f ∷ some) more e = cc

none_here : {F : Type 0} (one : Option F) (more : List (Option F)) → first_some (one ∷ more) ≡ None → one ≡ None
none_here None more e = refl
none_here (Some f) more e = cc

-- nor has any element
none_at : {X F : Type 0} (f : X → Option F) (xs : List X) → first_some (map f xs) ≡ None → (x : X) → Contains xs x → f x ≡ None
none_at f [] none x (k, lt, at) = absurd (omega (arith, lt))
none_at f (y ∷ ys) none x (zero, lt, at) = ap f (sym at) ∙ none_here (f y) (map f ys) none
none_at f (y ∷ ys) none x (suc k, lt, at) = none_at f ys (none_behind (f y ∷ []) (map f ys) none) x (k, omega (arith, lt), at)

none_each : {X F : Type 0} (faults : ℕ → X → List (Option F)) (place : ℕ) (xs : List X) → first_some (of_each faults place xs) ≡ None → (x : X) → Contains xs x
    → (n : ℕ) × (first_some (faults n x) ≡ None)
none_each faults place [] none x (k, lt, at) = absurd (omega (arith, lt))
none_each faults place (y ∷ ys) none x (zero, lt, at) =
    (place, ap (λ z. first_some (faults place z)) (sym at) ∙ none_first (faults place y) (of_each faults (place + 1) ys) none)
none_each faults place (y ∷ ys) none x (suc k, lt, at) =
    none_each faults (place + 1) ys (none_behind (faults place y) (of_each faults (place + 1) ys) none) x (k, omega (arith, lt), at)

-- a key that is known is one of the known ones
one_is : (key : List ℕ) (field : Field) (fields : List Field) (test : Bool) → bytes_eq key (key_of field) ≡ test
    → (test || list_any (λ other. bytes_eq key (key_of other)) fields) ≡ true
    → (list_any (λ other. bytes_eq key (key_of other)) fields ≡ true → Contains (map key_of fields) key) → Contains (key_of field ∷ map key_of fields) key
one_is key field fields true same any rest = (0, omega arith, sym ((bytes_eq-Decides key (key_of field)).0 same))
one_is key field fields false same any rest = let (k, lt, at) = rest any in (suc k, omega (arith, lt), at)

known_among : (key : List ℕ) (fields : List Field) → list_any (λ field. bytes_eq key (key_of field)) fields ≡ true → Contains (map key_of fields) key
known_among key [] any = cc
known_among key (field ∷ fields) any = one_is key field fields (bytes_eq key (key_of field)) refl any (known_among key fields)

known_where : (kind : TableKind) (key : List ℕ) (known : Bool) (unknown : UnknownKey) → is_known kind key ≡ known → (if known then None else Some unknown) ≡ None
    → is_known kind key ≡ true
known_where kind key true unknown is none = is
known_where kind key false unknown is none = cc

all_in : (kind : TableKind) (place : ℕ) (table : Members) → first_some (unknown_in kind place table) ≡ None → HasKnownKeys kind table
all_in kind place table none key there =
    known_among key (fields_of kind) (known_where kind key (is_known kind key) _ refl (none_at (unknown_at kind place) (keys_of table) none key there))

all_listed : (kind : TableKind) (tables : List Members) → first_some (of_each (unknown_in kind) 0 tables) ≡ None → (table : Members) → Contains tables table
    → HasKnownKeys kind table
all_listed kind tables none table there =
    let (place, told) = none_each (unknown_in kind) 0 tables none table there in all_in kind place table told

-- so where none of a text is told
pub all_known : (table : Members) → first_some (unknown_keys table) ≡ None → AreAllKnown table
all_known table none =
    let behind = none_behind (of_top table) (behind_top table) none in
    let later = none_behind (of_threads table) (behind_threads table) behind in (
      all_in Top 0 table (none_first (of_top table) (behind_top table) none),
      all_listed Thread (listed (key_of field.Threads) table) (none_first (of_threads table) (behind_threads table) behind),
      all_listed Restart (listed (key_of field.Restarts) table) (none_first (of_restarts table) (behind_restarts table) later),
      all_listed Variant (listed (key_of field.Variants) table) (none_behind (of_restarts table) (behind_restarts table) later),
    )
