-- What values are, where each is of one kind.
use Rattle.std.specs.Prelude.{ℕ, ℤ, pos, Bool, List, [], unwrap_or, is_some}
use Rattle.std.specs.List.{list_all}
use Rattle.toml.specs.Data.{Members, no_members, as_integer, as_str, as_table}
use Rattle.toml.specs.View.{view}
use Rattle.toml.specs.declared.value.Value.{Value}

abbrev pub table_in : Value → Members
table_in value = unwrap_or (as_table (view value)) no_members

abbrev pub text_in : Value → List ℕ
text_in value = unwrap_or (as_str (view value)) []

abbrev pub integer_in : Value → ℤ
integer_in value = unwrap_or (as_integer (view value)) (pos 0)

abbrev pub are_tables : List Value → Bool
are_tables = list_all (λ value. is_some (as_table (view value)))

abbrev pub are_texts : List Value → Bool
are_texts = list_all (λ value. is_some (as_str (view value)))

abbrev pub are_integers : List Value → Bool
are_integers = list_all (λ value. is_some (as_integer (view value)))
