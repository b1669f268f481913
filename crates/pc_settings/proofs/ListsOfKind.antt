-- Lists of values of one kind.
use Rattle.std.proofs.Common.{◌≡◌, true, false, ◌&&◌, List, [], ◌∷◌, map, Option, Some, None, is_some, option_map, unwrap_or, refl, ap, ◌∙◌}
use Rattle.std.specs.List.{list_all}
use Rattle.std.specs.Option.{option_and_then}
use Rattle.toml.specs.Data.{Data, as_array}
use Rattle.toml.specs.View.{view, items_of}
use Rattle.toml.specs.declared.value.Value.{Value}
use Rattle.pc_settings.specs.Keys.{all_some, elements, list_of}

pub elements_of : (values : List Data) → elements (items_of values) ≡ values
elements_of [] = refl
elements_of (value ∷ values) = ap (λ rest. value ∷ rest) (elements_of values)

one_more : {A : Type 0} (kind : Data → Option A) (a : A) (value : Value) (values : List Value) (there : Option A) → kind (view value) ≡ there
    → (is_some there && list_all (λ v. is_some (kind (view v))) values) ≡ true
    → (list_all (λ v. is_some (kind (view v))) values ≡ true → all_some (map kind (map view values)) ≡ Some (map (λ v. unwrap_or (kind (view v)) a) values))
    → all_some (there ∷ map kind (map view values)) ≡ Some (unwrap_or there a ∷ map (λ v. unwrap_or (kind (view v)) a) values)
one_more kind a value values None e h rest = cc
one_more kind a value values (Some b) e h rest = ap (option_map (λ others. b ∷ others)) (rest h)

-- where all are of the kind, the list is of them
pub all_of_kind : {A : Type 0} (kind : Data → Option A) (a : A) (values : List Value) → list_all (λ v. is_some (kind (view v))) values ≡ true
    → all_some (map kind (map view values)) ≡ Some (map (λ v. unwrap_or (kind (view v)) a) values)
all_of_kind kind a [] h = refl
all_of_kind kind a (value ∷ values) h = one_more kind a value values (kind (view value)) refl h (all_of_kind kind a values)

none_more : {A : Type 0} (kind : Data → Option A) (values : List Value) (there : Option A)
    → (is_some there && list_all (λ v. is_some (kind (view v))) values) ≡ false
    → (list_all (λ v. is_some (kind (view v))) values ≡ false → all_some (map kind (map view values)) ≡ None)
    → all_some (there ∷ map kind (map view values)) ≡ None
none_more kind values None h rest = refl
none_more kind values (Some b) h rest = ap (option_map (λ others. b ∷ others)) (rest h)

-- and where one is not there is no list
pub not_of_kind : {A : Type 0} (kind : Data → Option A) (values : List Value) → list_all (λ v. is_some (kind (view v))) values ≡ false
    → all_some (map kind (map view values)) ≡ None
not_of_kind kind [] h = cc
not_of_kind kind (value ∷ values) h = none_more kind values (kind (view value)) h (not_of_kind kind values)

-- the list that an array is
pub list_is : {A : Type 0} (kind : Data → Option A) (value : Data) (values : List Value) (list : Option (List A)) → as_array value ≡ Some (items_of (map view values))
    → all_some (map kind (map view values)) ≡ list → list_of kind value ≡ list
list_is kind value values list e h =
    ap (option_and_then (λ items. all_some (map kind (elements items)))) e
    ∙ ap (λ those. all_some (map kind those)) (elements_of (map view values)) ∙ h
