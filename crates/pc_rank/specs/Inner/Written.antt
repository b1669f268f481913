-- How much room a text leaves.
use Rattle.std.specs.Prelude.{◌≡◌, ℕ, ◌+◌, ◌<◌, List, length, Option, Some, None}

-- what is left of so many bytes behind a text; none, where they are too few
abbrev pub Leaves : ℕ → List ℕ → Option ℕ → Type 0
Leaves room text None = room < length text
Leaves room text (Some left) = left + length text ≡ room
