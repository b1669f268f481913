-- What a canvas holds.
use Rattle.std.specs.Prelude.{◌≡◌, ℕ, ◌+◌, ◌-◌, min, nat_lt, ◌&&◌, List, [], ◌∷◌, ◌++◌, length, Option, None}
use Rattle.std.specs.Prelude.{if◌then◌else◌}
use Rattle.pc_pen.specs.declared.shape.Shape.{Shape}

-- The kinds of its marks, none of words, in the order in which they are written; the kind of the mark that was begun
-- last; and how many bytes all texts have
pub record Drawing : Type 0 where
  pub kinds : List (Option Shape)
  pub begun : Option Shape
  pub used : ℕ

-- a canvas with these marks, this one begun, and so many bytes used
abbrev pub drawing : List (Option Shape) → Option Shape → ℕ → Drawing
drawing kinds begun used = record { kinds = kinds; begun = begun; used = used }

-- nothing
abbrev pub blank : Drawing
blank = drawing [] None 0

-- bytes are added as far as there is room for them
abbrev pub added : Drawing → List ℕ → Drawing
added canvas bytes = drawing canvas.kinds canvas.begun (canvas.used + min (length bytes) (131072 - canvas.used))

-- the mark that was begun is one of the marks, if there is room for it: beyond, marks are left out
abbrev pub finished : Drawing → Drawing
finished canvas =
    if nat_lt canvas.used 131072 && nat_lt (length canvas.kinds) 1024
    then drawing (canvas.kinds ++ canvas.begun ∷ []) canvas.begun canvas.used else canvas

-- A mark of this kind was begun, and no mark was added or lost
abbrev pub Begins : Option Shape → Drawing → Drawing → Type 0
Begins kind old new = (new.kinds ≡ old.kinds) × (new.begun ≡ kind)
