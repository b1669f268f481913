-- What a part of a script's picture has of the script, and what is said where it has nothing of it.
use Rattle.std.specs.Prelude.{◌≡◌, ◌≤◌, ◌<◌, ◌+◌, ℕ, List, Option, Some, IfSome, length}
use Rattle.std.specs.Io.KnownBytes.{Appends, Keeps}
use Rattle.std.specs.Str.Lines as text
use Rattle.pc_session.specs.Session.{IsSession}
use Rattle.pc_draw.specs.Pictures.{IsPictureOf}
use Rattle.pc_draw.specs.declared.part.DrawnPart.{DrawnPart}
use Rattle.pc_draw.specs.declared.part.Interval.{Interval}
use Rattle.pc_draw.specs.declared.part.Missing.{Missing}
use Rattle.pc_draw.specs.declared.part.Missing.TheVariants.{Cpus, Lines}
use Rattle.pc_draw.specs.declared.script.Drawn.{Drawn}
use Rattle.pc_draw.specs.declared.script.Drawn.TheVariants.{Nothing, Picture}

-- ---- numbers

-- an interval has a number
abbrev pub Has : Interval → ℕ → Type 0
Has asked number = (asked.first ≤ number) × (number ≤ asked.last)

-- an interval has one of so many numbers, of which this is the first
abbrev pub HasAnyOf : Interval → (first count : ℕ) → Type 0
HasAnyOf asked first count = (number : ℕ) × Has asked number × (first ≤ number) × (number < first + count)

-- ---- a part

-- how many lines a text has: where nothing is behind its last line feed, there is no line
abbrev pub line_count : List ℕ → ℕ
line_count script = length (text.lines script)

-- where lines are asked for, the text has one of them: lines are counted from 1
abbrev pub HasLine : DrawnPart → List ℕ → Type 0
HasLine part script = IfSome part.lines (λ asked. HasAnyOf asked 1 (line_count script))

-- none of the lines that are asked for is there, or none of the CPUs, which are counted from 0
abbrev pub IsMissing : DrawnPart → List ℕ → Missing → Type 0
IsMissing part script (Lines asked count) =
    (part.lines ≡ Some asked) × (count ≡ line_count script) × (HasAnyOf asked 1 count → ⊥)
IsMissing part script (Cpus asked count) = (part.cpus ≡ Some asked) × (HasAnyOf asked 0 count → ⊥)

-- after the drawing of a part of a script: a picture was written, or nothing was, since nothing of the part is there
abbrev pub Draws : DrawnPart → (script : List ℕ) → Drawn → (old new : Option (List ℕ)) → Type 0
Draws part script (Picture outcome) old new =
    HasLine part script
    × ((written : List ℕ) × IsPictureOf IsSession script outcome written × Appends old new written)
Draws part script (Nothing missing) old new = IsMissing part script missing × Keeps old new
