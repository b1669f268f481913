-- What the program says of a key that is not known.
use Rattle.std.specs.Prelude.{ℕ, List, [], ◌++◌, take, min, Option, Some, None, codes, decimal}
use Rattle.pc_pen.specs.Escapes.{quoted_word}
use Rattle.pc_settings.specs.Fields.{key_of}
use Rattle.pc_settings.specs.declared.field.Field.{Field}
use Rattle.pc_settings.specs.declared.known.TableKind.{TableKind}
use Rattle.pc_settings.specs.declared.known.TableKind.TheVariants.{Top, Thread, Restart, Variant}
use Rattle.pc_settings.specs.declared.unknown.KeyStart.{KeyStart}
use Rattle.pc_settings.specs.declared.unknown.UnknownKey.{UnknownKey}

-- how a key begins, as a word is quoted
abbrev pub start_text : KeyStart → List ℕ
start_text key = quoted_word (take (min 41 key.length) key.bytes)

-- where a table stands: its kind and its place; nothing of the text's own table
abbrev pub place_text : TableKind → ℕ → List ℕ
place_text Top place = []
place_text Thread place = codes "thread " ++ (decimal place ++ codes ": ")
place_text Restart place = codes "restart " ++ (decimal place ++ codes ": ")
place_text Variant place = codes "variant " ++ (decimal place ++ codes ": ")

-- the known key that is nearest, where one is near
abbrev pub nearest_text : Option Field → List ℕ
nearest_text None = []
nearest_text (Some field) = codes "; the nearest is " ++ key_of field

-- where the key stands, the key, and the known key that is nearest
abbrev pub unknown_text : UnknownKey → List ℕ
unknown_text unknown =
    place_text unknown.table unknown.place
    ++ (start_text unknown.key ++ (codes ": no such key" ++ nearest_text unknown.nearest))

-- the line that warns of a key which is passed over
abbrev pub warning_text : UnknownKey → List ℕ
warning_text unknown = codes "pc-sim: warning: " ++ (unknown_text unknown ++ codes "\n")

-- and nothing of a key that is known
abbrev pub warning_of : Option UnknownKey → List ℕ
warning_of None = []
warning_of (Some unknown) = warning_text unknown
