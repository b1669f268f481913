-- A list that stands in a place of its own, where there is one.
use Rattle.std.specs.Prelude.{ℕ, List, [], Option, Some, None, Box, Vec}
use Rattle.std.specs.Box.{box_value}

-- its items; none where there is no list (Z and Y are the allocators of the list and of its place)
module _ {Z Y : Type 0} where
  abbrev pub items_in : Option (Box (Vec ℕ Z) Y) → List ℕ
  items_in None = []
  items_in (Some list) = (box_value list).items
