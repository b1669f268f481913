-- What is written of a picture.
use Rattle.std.specs.Prelude.{ℕ, List, Option}
use Rattle.std.specs.Io.KnownBytes.{Appends}
use Rattle.pc_pen.specs.Pictures.{AreMarks, AreMarksOf, picture_text}
use Rattle.pc_pen.specs.declared.shape.Shape.{Shape}

-- marks were written
abbrev pub Marks : Option (List ℕ) → Option (List ℕ) → Type 0
Marks before after = (marks : List ℕ) × AreMarks marks × Appends before after marks

-- marks of these kinds were written, in this order and no others
abbrev pub MarksOf : List (Option Shape) → Option (List ℕ) → Option (List ℕ) → Type 0
MarksOf kinds before after = (marks : List ℕ) × AreMarksOf kinds marks × Appends before after marks

-- A whole picture was written, with this title
pub record Pictures (title : List ℕ) (before after : Option (List ℕ)) : Type 0 where
  pub width : ℕ
  pub height : ℕ
  pub marks : List ℕ
  pub are_marks : AreMarks marks
  pub written : Appends before after (picture_text width height title marks)
